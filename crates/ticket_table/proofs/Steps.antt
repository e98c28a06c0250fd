-- Each step keeps the rule of the tickets, and tells its drawer what it is said to.
use Rattle.std.proofs.Common.{◌≡◌, ◌≢◌, ℕ, zero, suc, ◌+◌, ◌-◌, ◌*◌, ◌%◌, ◌^◌, ◌<◌, ◌≤◌, List, [], ◌∷◌, ◌++◌, length, set, refl, sym, ap, ◌∙◌, subst, ⊎_elim, arith, length-append, lt_of_not-le}
use Rattle.std.specs.Prelude.{slice_index}
use mathlib.Core.Option.{some, none, some-injective, some-ne-none}
use mathlib.Core.Logic.{dite}
use native.Mathlib.Decide.{ℕ_discrete}
use lib.ListN.{get_elem?}
use Rattle.atomic_table.specs.Table.{Me, step, keeps, stepped, Allows, Splits, Joins, opening}
use Rattle.atomic_table.proofs.Lists.{set_else, at_snoc}
use Rattle.ticket_table.specs.declared.views.View.{View}
use Rattle.ticket_table.specs.Counts.{total, one_if, times}
use Rattle.ticket_table.specs.Views.{holding, with_ticket, one_part_less, newcomer, joined, spent}
use Rattle.ticket_table.specs.Rule.{TicketRule, Drew}
use Rattle.ticket_table.proofs.Totals.{one_if_same, one_if_apart, total_append, total_set, total_one, total_within, each_set, times_append, times_with}

-- parts, drawn tickets, and how often a ticket was drawn, of a view
abbrev parts_in : View → ℕ
parts_in v = v.parts

abbrev drawn_in : View → ℕ
drawn_in v = length v.drawn

abbrev times_in : ℕ → View → ℕ
times_in n v = times n v.drawn

pub opens : (parts : ℕ) → parts ≤ 4294967296 → TicketRule parts (opening (0 ∷ []) [] (holding parts []))
opens parts most = record {
  next = 0;
  word = refl;
  most = most;
  whole = omega arith;
  count = refl;
  once = λ n. λ (lt : n < 0). absurd (omega arith);
  none = λ n le. refl;
  few = start;
}
  where
    start : (j : ℕ) (v : View) → get_elem? (holding parts [] ∷ []) j ≡ some v → length v.drawn ≤ v.parts * 2147483648
    start zero v at = subst (λ (u : View). length u.drawn ≤ u.parts * 2147483648) (some-injective (holding parts []) v at) (omega arith)
    start (suc j) v at = absurd (some-ne-none v (sym at))

pub draws : (parts slots id : ℕ) (me : Me (Unit {0}) View) → 0 < me.0.parts → length me.0.drawn < 2147483648
    → Allows (TicketRule parts) slots id me 0 (λ n. (n + 1) % 2 ^ 64) (Drew (step slots 0 1 0 none) me)
draws parts slots id me some_part short s r len at small = (with_ticket v found, keeps, tt, rule, told)
  where
    v : View
    v = me.0

    found : ℕ
    found = slice_index s.words 0

    is : found ≡ r.next
    is = ap (λ (l : List ℕ). slice_index l 0) r.word

    bounded : r.next ≤ parts * 2147483648
    bounded = let c = r.count in let w = r.whole in let t = total_within drawn_in parts_in s.views r.few in omega arith

    up : (found + 1) % 2 ^ 64 ≡ r.next + 1
    up = let b = bounded in let m = r.most in let e = is in omega arith

    told : Drew (step slots 0 1 0 none) me found (with_ticket v found, me.1)
    told = record {
      drawn = refl;
      beyond = let t = total_one drawn_in s.views id v at in let c = r.count in let e = is in omega arith;
    }

    after : (n : ℕ) → total (times_in n) (set s.views id (with_ticket v found)) ≡ total (times_in n) s.views + one_if found n
    after n = let t = total_set (times_in n) s.views id v (with_ticket v found) at in let w = times_with n found v.drawn in omega arith

    rule : TicketRule parts (stepped s 0 ((found + 1) % 2 ^ 64) id me.1 (with_ticket v found) keeps)
    rule = record {
      next = r.next + 1;
      word = ap (λ (l : List ℕ). set l 0 ((found + 1) % 2 ^ 64)) r.word ∙ ap (λ (x : ℕ). x ∷ []) up;
      most = r.most;
      whole = let t = total_set parts_in s.views id v (with_ticket v found) at in let w = r.whole in omega arith;
      count = let t = total_set drawn_in s.views id v (with_ticket v found) at in let c = r.count in let l = length-append v.drawn (found ∷ []) in omega arith;
      once = λ n lt.
          dite (ℕ_discrete found n)
          (λ (e : found ≡ n).
          let a = after n in
          let z = r.none n (let q = is in omega arith) in
          let o : one_if found n ≡ 1 = subst (λ (k : ℕ). one_if found k ≡ 1) e (one_if_same found) in omega arith)
          (λ (ne : found ≢ n).
          let a = after n in
          let o = one_if_apart found n ne in
          let b : n < r.next = lt_of_not-le (λ (le : r.next ≤ n). ne (let q = is in omega arith)) in
          let y = r.once n b in omega arith);
      none = λ n le.
          let a = after n in
          let z = r.none n (omega arith) in
          let o = one_if_apart found n (λ (e : found ≡ n). let q = is in omega arith) in omega arith;
      few = each_set s.views id (with_ticket v found) (λ (u : View). length u.drawn ≤ u.parts * 2147483648) r.few
          (let l = length-append v.drawn (found ∷ []) in omega arith);
    }

pub splits : (parts id : ℕ) (v : View) → 1 < v.parts → v.drawn ≡ [] → Splits (TicketRule parts) id v (one_part_less v) (newcomer v)
splits parts id v several nothing s r at = record {
  next = r.next;
  word = r.word;
  most = r.most;
  whole = let t = both parts_in in let w = r.whole in omega arith;
  count = let t = both drawn_in in let c = r.count in omega arith;
  once = λ n lt. let t = both (times_in n) in let o = r.once n lt in omega arith;
  none = λ n le. let t = both (times_in n) in let o = r.none n le in omega arith;
  few = λ j u there.
      ⊎_elim
      (λ (e : get_elem? (set s.views id (one_part_less v)) j ≡ some u). each_set s.views id (one_part_less v) (λ (x : View). length x.drawn ≤ x.parts * 2147483648) r.few short j u e)
      (λ (e : newcomer v ≡ u). subst (λ (x : View). length x.drawn ≤ x.parts * 2147483648) e (omega arith))
      (at_snoc (set s.views id (one_part_less v)) (newcomer v) u j there);
}
  where
    both : (f : View → ℕ) → total f (set s.views id (one_part_less v) ++ newcomer v ∷ []) + f v ≡ total f s.views + f (one_part_less v) + f (newcomer v)
    both f =
        let t = total_set f s.views id v (one_part_less v) at in
        let a = total_append f (set s.views id (one_part_less v)) (newcomer v ∷ []) in omega arith

    short : length v.drawn ≤ (v.parts - 1) * 2147483648
    short = let z : length v.drawn ≡ 0 = ap length nothing in omega arith

pub joins : (parts id other : ℕ) (v w : View) → Joins (TicketRule parts) id v other w (joined v w) spent
joins parts id other v w s r at apart there = record {
  next = r.next;
  word = r.word;
  most = r.most;
  whole = let t = both parts_in in let q = r.whole in omega arith;
  count = let t = both drawn_in in let c = r.count in let l = length-append v.drawn w.drawn in omega arith;
  once = λ n lt. let t = both (times_in n) in let o = r.once n lt in let l = times_append n v.drawn w.drawn in omega arith;
  none = λ n le. let t = both (times_in n) in let o = r.none n le in let l = times_append n v.drawn w.drawn in omega arith;
  few = each_set (set s.views id (joined v w)) other spent (λ (x : View). length x.drawn ≤ x.parts * 2147483648)
      (each_set s.views id (joined v w) (λ (x : View). length x.drawn ≤ x.parts * 2147483648) r.few
      (let l = length-append v.drawn w.drawn in let a = r.few id v at in let b = r.few other w before in omega arith))
      (omega arith);
}
  where
    before : get_elem? s.views other ≡ some w
    before = sym (set_else s.views id other (joined v w) apart) ∙ there

    both : (f : View → ℕ) → total f (set (set s.views id (joined v w)) other spent) + f v + f w ≡ total f s.views + f (joined v w) + f spent
    both f =
        let t = total_set f s.views id v (joined v w) at in
        let a = total_set f (set s.views id (joined v w)) other w spent there in omega arith

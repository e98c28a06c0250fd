-- Each step keeps the rule of the lock, and tells its seat what it is said to.
use Rattle.std.proofs.Common.{◌≡◌, ◌≢◌, ℕ, zero, suc, ◌+◌, ◌*◌, ◌%◌, ◌<◌, ◌≤◌, List, [], ◌∷◌, ◌++◌, length, set, true, false, true≢false, ◌==◌, Option, Some, None, refl, sym, ap, ◌∙◌, subst, ⊎_elim, arith, append-nil, length-append, le_of_eq, lt_of_not-le}
use Rattle.std.specs.Prelude.{slice_index}
use mathlib.Core.Option.{some, none, some-injective, some-ne-none}
use mathlib.Core.Logic.{dite}
use native.Mathlib.Decide.{ℕ_discrete, dec_le}
use prog.Atomic.{either}
use lib.ListN.{get_elem?}
use Rattle.atomic_table.specs.Table.{State, Me, step, Act, keeps, takes, gives, Valid, carried_after, stepped, Allows, Splits, Joins, opening}
use Rattle.atomic_table.proofs.Lists.{set_here, set_else, set_again, at_longer, at_snoc, exchanged}
use Rattle.turn_lock.specs.declared.views.Claim.{Claim}
use Rattle.turn_lock.specs.declared.views.Known.{Known}
use Rattle.turn_lock.specs.Items.{total, items_of, BeginsWith, claim, IsOwn, IsOwnOfOne, IsAllOf, one_if, times}
use Rattle.turn_lock.specs.Views.{number, mine, IsSingle, first_known, split_known, new_known, entered_known, left_with_known, joined_known, spent_known}
use Rattle.turn_lock.specs.Rule.{Knows, LockRule, Fits, Tried, Left}
use Rattle.turn_lock.proofs.Lists.{one_if_same, one_if_apart, total_append, total_set, total_one, total_two, within, each_set, append_cancel, one_claim, times_append, each_append, begins_longer, each_begins_longer, items_append, own_of_one, none_in_front, all_of_same, all_of_other, others_stay}

off : false ≡ true → ⊥
off e = true≢false (sym e)

module _ {B : Type 0} where
  abbrev in_some : B → Option B → B
  in_some d (Some b) = b
  in_some d None = d

  none_some : {a : B} → None ≡ Some a → ⊥
  none_some e = cc

  some_base : (a b : B) → Some a ≡ Some b → a ≡ b
  some_base a b e = ap (in_some a) e

module _ {I B M : Type 0} where
  -- how often n is claimed, after a change of one view and after one more
  pub claims_set : (n : ℕ) (views : List (Known I B M)) (i : ℕ) (v w : Known I B M) → get_elem? views i ≡ some v
      → total (λ (x : Known I B M). times n x.view.claims) (set views i w) + times n v.view.claims ≡ total (λ (x : Known I B M). times n x.view.claims) views + times n w.view.claims
  claims_set n views i v w at = total_set (λ (x : Known I B M). times n x.view.claims) views i v w at

  pub claims_same : (n : ℕ) (views : List (Known I B M)) (i : ℕ) (v w : Known I B M) → get_elem? views i ≡ some v → times n v.view.claims ≡ times n w.view.claims
      → total (λ (x : Known I B M). times n x.view.claims) (set views i w) ≡ total (λ (x : Known I B M). times n x.view.claims) views
  claims_same n views i v w at same = let t = claims_set n views i v w at in omega arith

  pub claims_more : (n : ℕ) (views : List (Known I B M)) (w : Known I B M)
      → total (λ (x : Known I B M). times n x.view.claims) (views ++ w ∷ []) ≡ total (λ (x : Known I B M). times n x.view.claims) views + times n w.view.claims
  claims_more n views w = let t = total_append (λ (x : Known I B M). times n x.view.claims) views (w ∷ []) in omega arith

  -- a seat that hasn't the turn is not the one that has
  pub not_holder : (views : List (Known I B M)) (i holder : ℕ) (v u : Known I B M) → get_elem? views i ≡ some v → get_elem? views holder ≡ some u → v.view.holds ≡ false → u.view.holds ≡ true → holder ≢ i
  not_holder views i holder v u at there idle holding =
      λ (e : holder ≡ i).
      let same : u ≡ v = some-injective u v (sym there ∙ (ap (λ (k : ℕ). get_elem? views k) e ∙ at)) in
      true≢false (sym holding ∙ (ap (λ (x : Known I B M). x.view.holds) same ∙ idle))

  pub some_claim : (v : Known I B M) → IsSingle v.view → 0 < length v.view.claims
  some_claim v single = subst (λ (cs : List (Claim I)). 0 < length cs) (sym single) (let q : 0 < length (claim (number v.view) (mine v.view) ∷ []) = omega arith in q)

module _ {H I B M : Type 0} (items : H → List I) (base : H → B) (owner : B → I → ℕ) (mark_of : H → M) (grows : M → M → Type 0)
    (stays : (m : M) → grows m m) (goes_on : (a b c : M) → grows a b → grows b c → grows a c) where
  -- a seat that knows the mark as it is
  grown_self : (mark m : M) → Some mark ≡ Some m → grows m mark
  grown_self mark m e = subst (λ (x : M). grows x mark) (some_base mark m e) (stays mark)

  pub at_most_once : (b : B) (s : State (Option H) (Known I B M)) (r : LockRule items base owner mark_of grows b s) (n : ℕ) → total (λ (x : Known I B M). times n x.view.claims) s.views ≤ 1
  at_most_once b s r n =
      dite (dec_le r.made n)
      (λ (le : r.made ≤ n). let z = (r.none n le).0 in let q : total (λ (x : Known I B M). times n x.view.claims) s.views ≤ 1 = omega arith in q)
      (λ (more : ¬ (r.made ≤ n)). le_of_eq (r.once n (lt_of_not-le more)))

  pub opens : (h : H) → items h ≡ [] → LockRule items base owner mark_of grows (base h) (opening (0 ∷ []) (Some h ∷ []) (first_known (base h) (mark_of h)))
  opens h empty = record {
    list = [];
    mark = mark_of h;
    held = 0;
    holder = 0;
    made = 1;
    most = omega arith;
    word = refl;
    home = λ _. (h, refl, empty, refl, refl);
    busy = λ (e : 0 ≡ 1). absurd (omega arith);
    each = start;
    once = λ n. λ (lt : n < 1). let z : 0 ≡ n = omega arith in let o : one_if 0 n ≡ 1 = subst (λ (k : ℕ). one_if 0 k ≡ 1) z refl in omega arith;
    none = λ n. λ (le : 1 ≤ n). ((let o = one_if_apart 0 n (λ (e : 0 ≡ n). omega arith) in omega arith), refl);
  }
    where
      first : Knows (owner (base h)) grows (base h) [] (mark_of h) 1 0 0 0 (first_known (base h) (mark_of h))
      first = record {
        base = λ _. refl;
        seen = (([], refl), tt);
        own = (refl, tt);
        met = λ n l e. (one_claim 0 n [] l e).1;
        turn = λ e. absurd (off e);
        makes = λ _. (refl, refl);
        grown = λ m e. grown_self (mark_of h) m e;
      }

      start : (j : ℕ) (v : Known I B M) → get_elem? (first_known (base h) (mark_of h) ∷ []) j ≡ some v → Knows (owner (base h)) grows (base h) [] (mark_of h) 1 0 0 j v
      start zero v at = subst (Knows (owner (base h)) grows (base h) [] (mark_of h) 1 0 0 0) (some-injective (first_known (base h) (mark_of h)) v at) first
      start (suc j) v at = absurd (some-ne-none v (sym at))

  -- the same of a key that remembers the value
  pub opens_as : (h about : H) (slots : List (Option H)) → about ≡ h → slots ≡ Some h ∷ [] → items h ≡ []
      → LockRule items base owner mark_of grows (base about) (opening (0 ∷ []) slots (first_known (base about) (mark_of about)))
  opens_as h about slots same has empty =
      subst (λ (x : H). LockRule items base owner mark_of grows (base x) (opening (0 ∷ []) slots (first_known (base x) (mark_of x)))) (sym same)
      (subst (λ (l : List (Option H)). LockRule items base owner mark_of grows (base h) (opening (0 ∷ []) l (first_known (base h) (mark_of h)))) (sym has) (opens h empty))

  pub splits : (b : B) (id : ℕ) (v : Known I B M) → 0 < v.view.made → IsSingle v.view → v.view.holds ≡ false → Splits (LockRule items base owner mark_of grows b) id v (split_known v) (new_known v)
  splits b id v makes single idle s r at =
      let k = r.each id v at in
      let first : id ≡ 0 = (k.makes makes).0 in
      let made : v.view.made ≡ r.made = (k.makes makes).1 in
      let known : v.view.base ≡ Some b = k.base (some_claim v single) in
      let free = r.none v.view.made (le_of_eq (sym made)) in
      let P : ℕ → Known I B M → Type 0 = λ j u. Knows (owner b) grows b r.list r.mark (r.made + 1) r.held r.holder j u in
      let fresh : (j : ℕ) → P j (new_known v) = λ j. record {
        base = λ _. known;
        seen = (k.seen.0, tt);
        own = (free.1, tt);
        met = λ n l e. let o = one_claim v.view.made n [] l e in ap (λ (m : ℕ). items_of (owner b) m v.view.seen) (sym o.0) ∙ (none_in_front (owner b) v.view.made r.list v.view.seen k.seen.0 free.1 ∙ o.1);
        turn = λ e. absurd (off e);
        makes = λ (lt : 0 < 0). absurd (omega arith);
        grown = k.grown;
      } in
      let same : P id (split_known v) = record {
        base = k.base;
        seen = k.seen;
        own = k.own;
        met = k.met;
        turn = k.turn;
        makes = λ _. (first, ap (λ (m : ℕ). m + 1) made);
        grown = k.grown;
      } in
      let others : (j : ℕ) (u : Known I B M) → j ≢ id → get_elem? s.views j ≡ some u → P j u = λ j u apart there. let q = r.each j u there in record {
        base = q.base;
        seen = q.seen;
        own = q.own;
        met = q.met;
        turn = q.turn;
        makes = λ lt. absurd (apart ((q.makes lt).0 ∙ sym first));
        grown = q.grown;
      } in
      record {
        list = r.list;
        mark = r.mark;
        held = r.held;
        holder = r.holder;
        made = r.made + 1;
        most = r.most;
        word = r.word;
        home = r.home;
        busy = λ e.
            let u = r.busy e in
            let apart = not_holder s.views id r.holder v u.0 at u.1 idle u.2 in
            (u.0, at_longer (set s.views id (split_known v)) (new_known v ∷ []) r.holder u.0 (set_else s.views id r.holder (split_known v) apart ∙ u.1), u.2, u.3);
        each = λ j u there.
            ⊎_elim
            (λ (was : get_elem? (set s.views id (split_known v)) j ≡ some u). each_set s.views id (split_known v) P others same j u was)
            (λ (new : new_known v ≡ u). subst (P j) new (fresh j))
            (at_snoc (set s.views id (split_known v)) (new_known v) u j there);
        once = λ n lt.
            let m = claims_more n (set s.views id (split_known v)) (new_known v) in
            let t = claims_same n s.views id v (split_known v) at refl in
            dite (ℕ_discrete v.view.made n)
            (λ (e : v.view.made ≡ n).
            let le : r.made ≤ n = omega arith in
            let z = (r.none n le).0 in
            let o : one_if v.view.made n ≡ 1 = subst (λ (x : ℕ). one_if v.view.made x ≡ 1) e (one_if_same v.view.made) in
            let q : total (λ (x : Known I B M). times n x.view.claims) (set s.views id (split_known v) ++ new_known v ∷ []) ≡ 1 = omega arith in q)
            (λ (ne : v.view.made ≢ n).
            let less : n < r.made = omega arith in
            let y = r.once n less in
            let o = one_if_apart v.view.made n ne in
            let q : total (λ (x : Known I B M). times n x.view.claims) (set s.views id (split_known v) ++ new_known v ∷ []) ≡ 1 = omega arith in q);
        none = λ n le.
            let m = claims_more n (set s.views id (split_known v)) (new_known v) in
            let t = claims_same n s.views id v (split_known v) at refl in
            let past : r.made ≤ n = omega arith in
            let z = r.none n past in
            let o = one_if_apart v.view.made n (λ (e : v.view.made ≡ n). omega arith) in
            let q : total (λ (x : Known I B M). times n x.view.claims) (set s.views id (split_known v) ++ new_known v ∷ []) ≡ 0 = let y = z.0 in omega arith in
            (q, z.1);
      }

  pub takes_turn : (b : B) (id word : ℕ) (v : Known I B M) → word % 2 ≡ 0 → IsSingle v.view
      → Allows (LockRule items base owner mark_of grows b) 1 id (v, []) 0 (λ n. either (n == word) (word + 1) n) (Tried items base owner mark_of grows (step 1 0 word (word + 1) none) (v, []))
  takes_turn b id word v even single s r len at small =
      exchanged (slice_index s.words 0) word (word + 1)
      (λ (m : ℕ). (w : Known I B M) × (a : Act (Option H)) × Valid s.homes [] a × LockRule items base owner mark_of grows b (stepped s 0 m id [] w a) × Tried items base owner mark_of grows (step 1 0 word (word + 1) none) (v, []) (slice_index s.words 0) (w, carried_after [] a))
      hit miss
    where
      k : Knows (owner b) grows b r.list r.mark r.made r.held r.holder id v
      k = r.each id v at

      found : slice_index s.words 0 ≡ 2 * length r.list + r.held
      found = ap (λ (l : List ℕ). slice_index l 0) r.word

      hit : slice_index s.words 0 ≡ word → (w : Known I B M) × (a : Act (Option H)) × Valid s.homes [] a × LockRule items base owner mark_of grows b (stepped s 0 (word + 1) id [] w a) × Tried items base owner mark_of grows (step 1 0 word (word + 1) none) (v, []) (slice_index s.words 0) (w, carried_after [] a)
      hit e =
          let f = found in
          let m = r.most in
          let idle : r.held ≡ 0 = omega arith in
          let h = r.home idle in
          let w = entered_known v (items h.0) (mark_of h.0) in
          let P : ℕ → Known I B M → Type 0 = λ j u. Knows (owner b) grows b r.list r.mark r.made 1 id j u in
          let own : IsOwnOfOne (owner b) (items h.0) v.view.claims = λ n l is. ap (items_of (owner b) n) h.2 ∙ own_of_one (owner b) r.list v.view.claims k.own n l is in
          let here : P id w = record {
            base = k.base;
            seen = (([], sym (append-nil (items h.0) ∙ h.2)), k.seen.1);
            own = k.own;
            met = own;
            turn = λ _. (refl, refl, h.2, ap (λ (m : M). Some m) h.4);
            makes = k.makes;
            grown = k.grown;
          } in
          let others : (j : ℕ) (u : Known I B M) → j ≢ id → get_elem? s.views j ≡ some u → P j u = λ j u apart there. let q = r.each j u there in record {
            base = q.base;
            seen = q.seen;
            own = q.own;
            met = q.met;
            turn = λ holding. absurd (let one : r.held ≡ 1 = (q.turn holding).1 in let never : ⊥ = omega arith in never);
            makes = q.makes;
            grown = q.grown;
          } in
          let up : word + 1 ≡ 2 * length r.list + 1 = omega arith in
          let rule : LockRule items base owner mark_of grows b (stepped s 0 (word + 1) id [] w (takes 0 (Some h.0))) = record {
            list = r.list;
            mark = r.mark;
            held = 1;
            holder = id;
            made = r.made;
            most = omega arith;
            word = ap (λ (l : List ℕ). set l 0 (word + 1)) r.word ∙ ap (λ (x : ℕ). x ∷ []) up;
            home = λ (e : 1 ≡ 0). absurd (omega arith);
            busy = λ _. (w, set_here s.views id w (within s.views id v at), refl, some_claim v single);
            each = each_set s.views id w P others here;
            once = λ n lt. claims_same n s.views id v w at refl ∙ r.once n lt;
            none = λ n le. let z = r.none n le in (claims_same n s.views id v w at refl ∙ z.0, z.1);
          } in
          let fits : Fits items base owner mark_of grows v h.0 = record {
            same_base = k.base (some_claim v single) ∙ ap (λ (x : B). Some x) (sym h.3);
            begins = (k.seen.0.0, h.2 ∙ k.seen.0.1);
            own = subst (λ (x : B). IsOwnOfOne (owner x) (items h.0) v.view.claims) (sym h.3) own;
            met = subst (λ (x : B). IsOwnOfOne (owner x) v.view.seen v.view.claims) (sym h.3) k.met;
            grown = λ m e. subst (grows m) (sym h.4) (k.grown m e);
          } in
          let count : slice_index s.words 0 ≡ 2 * length (items h.0) = let l : length (items h.0) ≡ length r.list = ap length h.2 in omega arith in
          (w, takes 0 (Some h.0), h.1, rule, record { took = λ _. (h.0, refl, fits, count); missed = λ ne. absurd (ne e) })

      miss : slice_index s.words 0 ≢ word → (w : Known I B M) × (a : Act (Option H)) × Valid s.homes [] a × LockRule items base owner mark_of grows b (stepped s 0 (slice_index s.words 0) id [] w a) × Tried items base owner mark_of grows (step 1 0 word (word + 1) none) (v, []) (slice_index s.words 0) (w, carried_after [] a)
      miss ne =
          let same : LockRule items base owner mark_of grows b record { words = set s.words 0 (slice_index s.words 0); homes = s.homes; views = s.views } = record {
            list = r.list;
            mark = r.mark;
            held = r.held;
            holder = r.holder;
            made = r.made;
            most = r.most;
            word = ap (λ (l : List ℕ). set l 0 (slice_index l 0)) r.word;
            home = r.home;
            busy = r.busy;
            each = r.each;
            once = r.once;
            none = r.none;
          } in
          let rule = subst (λ (vs : List (Known I B M)). LockRule items base owner mark_of grows b record { words = set s.words 0 (slice_index s.words 0); homes = s.homes; views = vs }) (sym (set_again s.views id v at)) same in
          (v, keeps, tt, rule, record { took = λ e. absurd (ne e); missed = λ _. refl })

  abbrev home_in : H → List (ℕ × Option H) → H
  home_in d [] = d
  home_in d ((k, Some h) ∷ xs) = h
  home_in d ((k, None) ∷ xs) = d

  pub ends_turn : (b : B) (id count : ℕ) (v : Known I B M) (h : H) (more : List I) → IsSingle v.view → v.view.holds ≡ true → v.view.base ≡ Some (base h) → items h ≡ v.view.seen ++ more → IsAllOf (owner (base h)) (number v.view) more
      → ((m : M) → v.found ≡ Some m → grows m (mark_of h)) → count ≡ length (items h)
      → Allows (LockRule items base owner mark_of grows b) 1 id (v, (0, Some h) ∷ []) 0 (λ _. 2 * count) (λ _. Left items base owner mark_of grows (step 1 0 (2 * count) 0 none) (v, (0, Some h) ∷ []) (2 * count))
  ends_turn b id count v h more single holds known grown owned kept counted s r len at small = (left_with_known v more (mark_of h), gives, tt, rule, told)
    where
      k : Knows (owner b) grows b r.list r.mark r.made r.held r.holder id v
      k = r.each id v at

      based : base h ≡ b
      based = some_base (base h) b (sym known ∙ k.base (some_claim v single))

      all : IsAllOf (owner b) (number v.view) more
      all = subst (λ (x : B). IsAllOf (owner x) (number v.view) more) based owned

      t : (id ≡ r.holder) × (r.held ≡ 1) × (v.view.seen ≡ r.list) × (v.found ≡ Some r.mark)
      t = k.turn holds

      forward : grows r.mark (mark_of h)
      forward = kept r.mark t.3

      on_list : v.view.seen ++ more ≡ r.list ++ more
      on_list = ap (λ (l : List I). l ++ more) t.2

      full : items_of (owner b) (number v.view) (r.list ++ more) ≡ mine v.view ++ more
      full =
          items_append (owner b) (number v.view) r.list more
          ∙ (ap (λ (l : List I). l ++ items_of (owner b) (number v.view) more) (own_of_one (owner b) r.list v.view.claims k.own (number v.view) (mine v.view) single)
          ∙ ap (λ (l : List I). mine v.view ++ l) (all_of_same (owner b) (number v.view) more all))

      once_here : times (number v.view) v.view.claims ≡ 1
      once_here = subst (λ (cs : List (Claim I)). times (number v.view) cs ≡ 1) (sym single) (let o = one_if_same (number v.view) in let q : times (number v.view) (claim (number v.view) (mine v.view) ∷ []) ≡ 1 = omega arith in q)

      free_of : (j : ℕ) (u : Known I B M) → j ≢ id → get_elem? s.views j ≡ some u → times (number v.view) u.view.claims ≡ 0
      free_of j u apart there =
          let two = total_two (λ (x : Known I B M). times (number v.view) x.view.claims) s.views id j v u (λ e. apart (sym e)) at there in
          let one = at_most_once b s r (number v.view) in
          let o = once_here in
          omega arith

      other_number : (n : ℕ) → r.made ≤ n → number v.view ≢ n
      other_number n le =
          λ (e : number v.view ≡ n).
          let z = (r.none n le).0 in
          let o = total_one (λ (x : Known I B M). times n x.view.claims) s.views id v at in
          let here : times n v.view.claims ≡ 1 = subst (λ (m : ℕ). times m v.view.claims ≡ 1) e once_here in
          let never : ⊥ = omega arith in never

      same_times : (n : ℕ) → times n v.view.claims ≡ times n (claim (number v.view) (mine v.view ++ more) ∷ [])
      same_times n = ap (times n) single

      here : Knows (owner b) grows b (r.list ++ more) (mark_of h) r.made 0 0 id (left_with_known v more (mark_of h))
      here = record {
        base = λ _. k.base (some_claim v single);
        seen = (([], sym (append-nil (v.view.seen ++ more) ∙ on_list)), each_begins_longer r.list more v.view.others_seen k.seen.1);
        own = (full, tt);
        met = λ n l e. let o = one_claim (number v.view) n (mine v.view ++ more) l e in ap (λ (m : ℕ). items_of (owner b) m (v.view.seen ++ more)) (sym o.0) ∙ (ap (items_of (owner b) (number v.view)) on_list ∙ (full ∙ o.1));
        turn = λ e. absurd (off e);
        makes = k.makes;
        grown = λ m e. grown_self (mark_of h) m e;
      }

      others : (j : ℕ) (u : Known I B M) → j ≢ id → get_elem? s.views j ≡ some u → Knows (owner b) grows b (r.list ++ more) (mark_of h) r.made 0 0 j u
      others j u apart there =
          let q = r.each j u there in
          record {
            base = q.base;
            seen = (begins_longer r.list more u.view.seen q.seen.0, each_begins_longer r.list more u.view.others_seen q.seen.1);
            own = others_stay (owner b) (number v.view) r.list more u.view.claims all (free_of j u apart there) q.own;
            met = q.met;
            turn = λ e. absurd (apart ((q.turn e).0 ∙ sym t.0));
            makes = q.makes;
            grown = λ m e. goes_on m r.mark (mark_of h) (q.grown m e) forward;
          }

      grown_list : items h ≡ r.list ++ more
      grown_list = grown ∙ on_list

      word_is : 2 * count ≡ 2 * length (r.list ++ more) + 0
      word_is = let l : length (items h) ≡ length (r.list ++ more) = ap length grown_list in omega arith

      rule : LockRule items base owner mark_of grows b (stepped s 0 (2 * count) id ((0, Some h) ∷ []) (left_with_known v more (mark_of h)) gives)
      rule = record {
        list = r.list ++ more;
        mark = mark_of h;
        held = 0;
        holder = 0;
        made = r.made;
        most = omega arith;
        word = ap (λ (l : List ℕ). set l 0 (2 * count)) r.word ∙ ap (λ (x : ℕ). x ∷ []) word_is;
        home = λ _. (h, set_here s.homes 0 (some (Some h)) (omega arith), grown_list, based, refl);
        busy = λ (e : 0 ≡ 1). absurd (omega arith);
        each = each_set s.views id (left_with_known v more (mark_of h)) (λ (j : ℕ) (u : Known I B M). Knows (owner b) grows b (r.list ++ more) (mark_of h) r.made 0 0 j u) others here;
        once = λ n lt. claims_same n s.views id v (left_with_known v more (mark_of h)) at (same_times n) ∙ r.once n lt;
        none = λ n le.
            let z = r.none n le in (
              claims_same n s.views id v (left_with_known v more (mark_of h)) at (same_times n) ∙ z.0,
              items_append (owner b) n r.list more ∙ (ap (λ (l : List I). l ++ items_of (owner b) n more) z.1 ∙ all_of_other (owner b) (number v.view) n more (other_number n le) all),
            );
      }

      met : items_of (owner (base h)) (number v.view) (items h) ≡ mine v.view ++ more
      met = subst (λ (x : B). items_of (owner x) (number v.view) (items h) ≡ mine v.view ++ more) (sym based) (ap (items_of (owner b) (number v.view)) grown_list ∙ full)

      told : Left items base owner mark_of grows (step 1 0 (2 * count) 0 none) (v, (0, Some h) ∷ []) (2 * count) (left_with_known v more (mark_of h), [])
      told h' more' is grown' =
          let same : h ≡ h' = ap (home_in h) is in
          let tails : more ≡ more' = append_cancel v.view.seen more more' (sym grown ∙ (ap items same ∙ grown')) in (
            (λ k. (left_with_known v (tails k) (mark_of (same k)), [])),
            subst (λ (x : H). items_of (owner (base x)) (number v.view) (items x) ≡ mine v.view ++ more') same
                (subst (λ (l : List I). items_of (owner (base h)) (number v.view) (items h) ≡ mine v.view ++ l) tails met),
          )

  -- the same steps, of a seat that was found to know this
  pub takes_turn_as : (b : B) (slots id word : ℕ) (me : Me (Option H) (Known I B M)) → slots ≡ 1 → me.1 ≡ [] → word % 2 ≡ 0 → IsSingle me.0.view
      → Allows (LockRule items base owner mark_of grows b) slots id me 0 (λ n. either (n == word) (word + 1) n) (Tried items base owner mark_of grows (step slots 0 word (word + 1) none) me)
  takes_turn_as b slots id word me one empty even single =
      subst (λ (n : ℕ). Allows (LockRule items base owner mark_of grows b) n id me 0 (λ m. either (m == word) (word + 1) m) (Tried items base owner mark_of grows (step n 0 word (word + 1) none) me)) (sym one)
      (subst (λ (l : List (ℕ × Option H)). Allows (LockRule items base owner mark_of grows b) 1 id (me.0, l) 0 (λ m. either (m == word) (word + 1) m) (Tried items base owner mark_of grows (step 1 0 word (word + 1) none) (me.0, l))) (sym empty)
      (takes_turn b id word me.0 even single))

  pub ends_turn_as : (b : B) (slots id count : ℕ) (v : Known I B M) (me : Me (Option H) (Known I B M)) (h : H) (more : List I) → slots ≡ 1 → me ≡ (v, (0, Some h) ∷ [])
      → IsSingle v.view → v.view.holds ≡ true → v.view.base ≡ Some (base h) → items h ≡ v.view.seen ++ more → IsAllOf (owner (base h)) (number v.view) more
      → ((m : M) → v.found ≡ Some m → grows m (mark_of h)) → count ≡ length (items h)
      → Allows (LockRule items base owner mark_of grows b) slots id me 0 (λ _. 2 * count) (λ _. Left items base owner mark_of grows (step slots 0 (2 * count) 0 none) me (2 * count))
  ends_turn_as b slots id count v me h more one is single holds known grown owned kept counted =
      subst (λ (n : ℕ). Allows (LockRule items base owner mark_of grows b) n id me 0 (λ _. 2 * count) (λ _. Left items base owner mark_of grows (step n 0 (2 * count) 0 none) me (2 * count))) (sym one)
      (subst (λ (m : Me (Option H) (Known I B M)). Allows (LockRule items base owner mark_of grows b) 1 id m 0 (λ _. 2 * count) (λ _. Left items base owner mark_of grows (step 1 0 (2 * count) 0 none) m (2 * count))) (sym is)
      (ends_turn b id count v h more single holds known grown owned kept counted))

  -- what the end of a turn tells a seat that was found to be so
  pub told_as : (me after : Me (Option H) (Known I B M)) (v : Known I B M) (h : H) (more : List I)
      → ((x : H) (new : List I) → me.1 ≡ (0, Some x) ∷ [] → items x ≡ me.0.view.seen ++ new
      → (after ≡ (left_with_known me.0 new (mark_of x), [])) × (items_of (owner (base x)) (number me.0.view) (items x) ≡ mine me.0.view ++ new))
      → me ≡ (v, (0, Some h) ∷ []) → items h ≡ v.view.seen ++ more
      → (after ≡ (left_with_known v more (mark_of h), [])) × (items_of (owner (base h)) (number v.view) (items h) ≡ mine v.view ++ more)
  told_as me after v h more told is grown =
      subst (λ (m : Me (Option H) (Known I B M)). ((x : H) (new : List I) → m.1 ≡ (0, Some x) ∷ [] → items x ≡ m.0.view.seen ++ new
      → (after ≡ (left_with_known m.0 new (mark_of x), [])) × (items_of (owner (base x)) (number m.0.view) (items x) ≡ mine m.0.view ++ new))) is told h more refl grown

  pub joins : (b : B) (id other : ℕ) (v w : Known I B M) → 0 < length v.view.claims → 0 < length w.view.claims → v.view.holds ≡ false → w.view.holds ≡ false
      → Joins (LockRule items base owner mark_of grows b) id v other w (joined_known v w) spent_known
  joins b id other v w some_here some_there idle idle_too s r at apart there = record {
    list = r.list;
    mark = r.mark;
    held = r.held;
    holder = r.holder;
    made = r.made;
    most = r.most;
    word = r.word;
    home = r.home;
    busy = λ e.
        let u = r.busy e in
        let a = not_holder s.views id r.holder v u.0 at u.1 idle u.2 in
        let c = not_holder s.views other r.holder w u.0 before u.1 idle_too u.2 in
        (u.0, set_else (set s.views id (joined_known v w)) other r.holder spent_known c ∙ (set_else s.views id r.holder (joined_known v w) a ∙ u.1), u.2, u.3);
    each = each_set (set s.views id (joined_known v w)) other spent_known (λ (j : ℕ) (u : Known I B M). Knows (owner b) grows b r.list r.mark r.made r.held r.holder j u)
        (λ j u _ e. each_set s.views id (joined_known v w) (λ (i : ℕ) (x : Known I B M). Knows (owner b) grows b r.list r.mark r.made r.held r.holder i x) (λ i x _ e'. r.each i x e') both j u e) gone;
    once = λ n lt. both_times n ∙ r.once n lt;
    none = λ n le. let z = r.none n le in (both_times n ∙ z.0, z.1);
  }
    where
      before : get_elem? s.views other ≡ some w
      before = sym (set_else s.views id other (joined_known v w) apart) ∙ there

      both : Knows (owner b) grows b r.list r.mark r.made r.held r.holder id (joined_known v w)
      both =
          let k = r.each id v at in
          let q = r.each other w before in
          record {
            base = λ _. k.base some_here;
            seen = (k.seen.0, each_append (BeginsWith r.list) v.view.others_seen (w.view.seen ∷ []) k.seen.1 (q.seen.0, tt));
            own = each_append (IsOwn (owner b) r.list) v.view.claims w.view.claims k.own q.own;
            met = λ n l e. absurd (let one : length (v.view.claims ++ w.view.claims) ≡ 1 = ap length e in let two = length-append v.view.claims w.view.claims in let never : ⊥ = omega arith in never);
            turn = λ e. absurd (off e);
            makes = k.makes;
            grown = k.grown;
          }

      gone : Knows (owner b) grows b r.list r.mark r.made r.held r.holder other spent_known
      gone = record {
        base = λ (lt : 0 < 0). absurd (omega arith);
        seen = ((r.list, refl), tt);
        own = tt;
        met = λ n l e. absurd (let one : 0 ≡ 1 = ap length e in let never : ⊥ = omega arith in never);
        turn = λ e. absurd (off e);
        makes = λ (lt : 0 < 0). absurd (omega arith);
        grown = λ m e. absurd (none_some e);
      }

      both_times : (n : ℕ) → total (λ (x : Known I B M). times n x.view.claims) (set (set s.views id (joined_known v w)) other spent_known) ≡ total (λ (x : Known I B M). times n x.view.claims) s.views
      both_times n =
          let a = claims_set n s.views id v (joined_known v w) at in
          let c = claims_set n (set s.views id (joined_known v w)) other w spent_known there in
          let t = times_append n v.view.claims w.view.claims in
          omega arith

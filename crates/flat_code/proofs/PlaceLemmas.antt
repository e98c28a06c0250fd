-- The processes of ops, as more ops come behind them.
use Rattle.std.proofs.Common.{◌≡◌, ◌<◌, ◌≤◌, ℕ, zero, suc, ◌+◌, List, [], ◌∷◌, ◌++◌, true, get_or, length, refl, sym, ap, ap₂, ◌∙◌, subst, nat_lt, take, arith}
use Rattle.std.specs.List.{list_all}
use Rattle.std.proofs.lemmas.Bool.{and_parts, and_from, ltb-true, lt-ltb}
use Rattle.std.proofs.lemmas.List.{append_assoc, append-nil, get_or_append_left, length_push, get_or_push, length-append, take_at}
use Rattle.dioc_terms.specs.Processes.{Process, Skip, Seq, Par, IfLead, IfFollow, WhileLead, WhileFollow, ScopeLead, ScopeFollow}
use Rattle.dioc_terms.specs.Expressions.{expression}
use Rattle.flat_code.specs.declared.ops.Op.{Op}
use Rattle.flat_code.specs.declared.ops.Op.TheVariants as op
use Rattle.flat_code.specs.Places.{at, op_process, processes_from, processes, part_places, are_placed, AreBelow, Extends, IsProcessAt}

-- places by tests
below_tested : (n : ℕ) (ps : List ℕ) → list_all (λ p. nat_lt p n) ps ≡ true → AreBelow n ps
below_tested n [] h = tt
below_tested n (p ∷ ps) h =
    let both = and_parts (nat_lt p n) (list_all (λ p. nat_lt p n) ps) h in
    (ltb-true p n both.0, below_tested n ps both.1)

tested_below : (n : ℕ) (ps : List ℕ) → AreBelow n ps → list_all (λ p. nat_lt p n) ps ≡ true
tested_below n [] h = refl
tested_below n (p ∷ ps) h =
    and_from (nat_lt p n) (list_all (λ p. nat_lt p n) ps) (lt-ltb p n h.0) (tested_below n ps h.1)

-- the same processes at these places
abbrev AreSame : List Process → List Process → List ℕ → Type 0
AreSame done new [] = Unit {0}
AreSame done new (p ∷ ps) = (at done p ≡ at new p) × AreSame done new ps

same_op : (done new : List Process) (o : Op) → AreSame done new (part_places o) → op_process done o
    ≡ op_process new o
same_op done new (op.Seq p q) h = ap₂ Seq h.0 h.1.0
same_op done new (op.Par p q) h = ap₂ Par h.0 h.1.0
same_op done new (op.IfLead i g others p q) h = ap₂ (IfLead i (expression g) others) h.0 h.1.0
same_op done new (op.IfFollow i leader p q) h = ap₂ (IfFollow i leader) h.0 h.1.0
same_op done new (op.WhileLead i g others p) h = ap (WhileLead i (expression g) others) h.0
same_op done new (op.WhileFollow i leader p) h = ap (WhileFollow i leader) h.0
same_op done new (op.ScopeLead head others p) h = ap (ScopeLead head others) h.0
same_op done new (op.ScopeFollow i leader p) h = ap (ScopeFollow i leader) h.0
same_op done new o h = refl

-- what stands before stays
from_keeps : (done : List Process) (ops : List Op) (p : ℕ) → p < length done
    → at (processes_from done ops) p ≡ at done p
from_keeps done [] p h = refl
from_keeps done (o ∷ ops) p h =
    from_keeps (done ++ op_process done o ∷ []) ops p
    (omega (arith, h, length_push done (op_process done o)))
    ∙ get_or_append_left done (op_process done o ∷ []) Skip p h

from_append : (done : List Process) (a b : List Op) → processes_from done (a ++ b)
    ≡ processes_from (processes_from done a) b
from_append done [] b = refl
from_append done (o ∷ a) b = from_append (done ++ op_process done o ∷ []) a b

length_from : (done : List Process) (ops : List Op) → length (processes_from done ops)
    ≡ length done + length ops
length_from done [] = omega arith
length_from done (o ∷ ops) = omega (
  arith,
  length_push done (op_process done o),
  length_from (done ++ op_process done o ∷ []) ops,
)

length_processes : (ops : List Op) → length (processes ops) ≡ length ops
length_processes ops = omega (arith, length_from [] ops)

kept_parts : (done : List Process) (ops : List Op) (ps : List ℕ) → AreBelow (length done) ps
    → AreSame done (processes_from done ops) ps
kept_parts done ops [] h = tt
kept_parts done ops (p ∷ ps) h = (sym (from_keeps done ops p h.0), kept_parts done ops ps h.1)

-- each place has the process of its op, whose parts stand before it
stands_from : (done : List Process) (ops : List Op) (i : ℕ) (d : Op) (n : ℕ)
    → n ≡ length done + i → are_placed (length done) ops ≡ true → i < length ops
    → (at (processes_from done ops) n
    ≡ op_process (processes_from done ops) (get_or ops i d))
    × AreBelow n (part_places (get_or ops i d))
stands_from done [] i d n is placed h = absurd (omega (arith, h))
stands_from done (o ∷ ops) zero d n is placed h =
    let both = and_parts (list_all (λ p. nat_lt p (length done)) (part_places o))
    (are_placed (suc (length done)) ops) placed in
    let below : AreBelow (length done) (part_places o) = below_tested (length done) (part_places o) both.0 in
    let here : n ≡ length done = omega (arith, is) in
    let there : at (processes_from (done ++ op_process done o ∷ []) ops) (length done)
    ≡ op_process done o = from_keeps (done ++ op_process done o ∷ []) ops (length done)
    (omega (arith, length_push done (op_process done o)))
    ∙ get_or_push done (op_process done o) Skip (length done) refl in (
      ap (at (processes_from (done ++ op_process done o ∷ []) ops)) here
          ∙ there
          ∙ same_op done (processes_from done (o ∷ ops)) o (kept_parts done (o ∷ ops) (part_places o) below),
      subst (λ m. AreBelow m (part_places o)) (sym here) below,
    )
stands_from done (o ∷ ops) (suc i) d n is placed h =
    let both = and_parts (list_all (λ p. nat_lt p (length done)) (part_places o))
    (are_placed (suc (length done)) ops) placed in
    let more : length (done ++ op_process done o ∷ []) ≡ suc (length done) =
    omega (arith, length_push done (op_process done o)) in
    stands_from (done ++ op_process done o ∷ []) ops i d n (omega (arith, is, more))
    (subst (λ m. are_placed m ops ≡ true) (sym more) both.1) (omega (arith, h))

pub stands_at : (ops : List Op) (place : ℕ) (o : Op) → are_placed 0 ops ≡ true → place < length ops
    → o ≡ get_or ops place o
    → (at (processes ops) place ≡ op_process (processes ops) o) × AreBelow place (part_places o)
stands_at ops place o placed h is =
    let found = stands_from [] ops place o place (omega arith) placed h in (
      found.0 ∙ ap (op_process (processes ops)) (sym is),
      subst (λ x. AreBelow place (part_places x)) (sym is) found.1,
    )

-- more ops behind
pub extends_itself : (ops : List Op) → Extends ops ops
extends_itself ops = ([], sym (append-nil ops))

pub extends_push : (ops : List Op) (o : Op) → Extends ops (ops ++ o ∷ [])
extends_push ops o = (o ∷ [], refl)

pub extends_through : (a b c : List Op) → Extends a b → Extends b c → Extends a c
extends_through a b c f g =
    (f.0 ++ g.0, g.1 ∙ ap (λ x. x ++ g.0) f.1 ∙ append_assoc a f.0 g.0)

pub keeps_at : (old new : List Op) → Extends old new → (p : ℕ) → p < length old
    → at (processes new) p ≡ at (processes old) p
keeps_at old new more p h =
    ap (λ x. at (processes x) p) more.1
    ∙ ap (λ x. at x p) (from_append [] old more.0)
    ∙ from_keeps (processes old) more.0 p (omega (arith, h, length_processes old))

pub extends_longer : (old new : List Op) → Extends old new → length old ≤ length new
extends_longer old new more =
    let all : length new ≡ length (old ++ more.0) = ap length more.1 in
    omega (arith, all, length-append old more.0)

pub keeps_is_at : (old new : List Op) (p : ℕ) (P : Process) → Extends old new → IsProcessAt old p P
    → IsProcessAt new p P
keeps_is_at old new p P more stood =
    let inside = stood.inside in
    let longer = extends_longer old new more in
    record {
      inside = omega (arith, inside, longer);
      stands = keeps_at old new more p stood.inside ∙ stood.stands;
    }

-- what was put behind is cut off again
pub cut_back : (old new : List Op) → Extends old new → take (length old) new ≡ old
cut_back old new more = ap (take (length old)) more.1 ∙ take_at old more.0 (length old) refl

-- an op behind the others
placed_behind : (n : ℕ) (ops : List Op) (o : Op) (m : ℕ) → m ≡ n + length ops
    → are_placed n ops ≡ true → AreBelow m (part_places o) → are_placed n (ops ++ o ∷ []) ≡ true
placed_behind n [] o m is placed below =
    let here : m ≡ n = omega (arith, is) in
    and_from (list_all (λ p. nat_lt p n) (part_places o)) true
    (tested_below n (part_places o) (subst (λ k. AreBelow k (part_places o)) here below)) refl
placed_behind n (x ∷ ops) o m is placed below =
    let both = and_parts (list_all (λ p. nat_lt p n) (part_places x)) (are_placed (suc n) ops) placed in
    and_from (list_all (λ p. nat_lt p n) (part_places x)) (are_placed (suc n) (ops ++ o ∷ [])) both.0
    (placed_behind (suc n) ops o m (omega (arith, is)) both.1 below)

pub placed_push : (ops : List Op) (o : Op) → are_placed 0 ops ≡ true
    → AreBelow (length ops) (part_places o) → are_placed 0 (ops ++ o ∷ []) ≡ true
placed_push ops o placed below = placed_behind 0 ops o (length ops) (omega arith) placed below

pub push_is_at : (ops : List Op) (o : Op) → IsProcessAt (ops ++ o ∷ []) (length ops)
    (op_process (processes ops) o)
push_is_at ops o = record {
  inside = omega (arith, length_push ops o);
  stands = ap (λ x. at x (length ops)) (from_append [] ops (o ∷ []))
      ∙ get_or_push (processes ops) (op_process (processes ops) o) Skip (length ops)
      (length_processes ops);
}

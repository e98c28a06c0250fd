-- What is next at a place, by how many of its messages are done.
use Rattle.std.proofs.Common.{◌≡◌, ◌<◌, ◌≤◌, ℕ, zero, suc, List, [], ◌∷◌, ◌++◌, Bool, Result, true, false, length, get_or, drop, map, refl, sym, ap, ap₂, ◌∙◌, subst, arith}
use Rattle.std.proofs.lemmas.List.{get_or_default}
use Rattle.std.specs.Prelude.{OnOk}
use Rattle.dioc_terms.specs.declared.names.Role.{Role}
use Rattle.dioc_terms.specs.declared.names.Index.{Index}
use Rattle.dioc_terms.specs.declared.processes.Key.{Key}
use Rattle.dioc_terms.specs.declared.processes.Tag.{Tag}
use Rattle.dioc_terms.specs.declared.entries.Act.{Act}
use Rattle.dioc_terms.specs.Processes.{Process, Skip, Letters, Nothing, More, Load}
use Rattle.dpoc_process.specs.Acting.{is_single}
use Rattle.flat_code.specs.declared.ops.Op.{Op}
use Rattle.flat_code.specs.declared.ops.Op.TheVariants as op
use Rattle.flat_code.specs.declared.plan.Plan.{Plan}
use Rattle.flat_code.specs.Places.{op_process}
use Rattle.flat_role.proofs.LeafActs.{front_single}
use Rattle.flat_role.specs.declared.leaves.Next.{Next}
use Rattle.flat_role.specs.declared.leaves.Next.TheVariants as next
use Rattle.flat_role.specs.declared.marks.Mark.{Mark as KeptMark}
use Rattle.flat_role.specs.declared.marks.Mark.TheVariants as kept
use Rattle.flat_role.specs.KeptMarks.{awaited, gathered, left, letters_from, meant, told}
use Rattle.flat_role.specs.Leaves.{IsNext, front, is_became, is_leaf, is_single_next, is_single_op}
use Rattle.flat_role.specs.PlanMarks.{mark_in, plan_len, plan_marks, static_at}
use Rattle.flat_role.specs.MovedMarks.{runs_update}
use Rattle.process_steps.specs.Steps.{key, letters_to}
use Rattle.role_statuses.specs.Marks.{Mark}

-- the next letter is that to the next role
pub letter_at : (me : Role) (others : List Role) (i : Index) (t : Tag) (l : Load) (n : ℕ) (to : Role)
    → n < length others → to ≡ get_or others n to
    → (ms : Letters) × (letters_from n (letters_to me others i t (λ q. l)) ≡ More (key me to i t) l ms)
letter_at me [] i t l n to inside is = absurd (omega (arith, inside))
letter_at me (q ∷ qs) i t l zero to inside is = (
  letters_to me qs i t (λ q. l),
  ap (λ x. More (key me x i t) l (letters_to me qs i t (λ q. l))) (sym is),
)
letter_at me (q ∷ qs) i t l (suc n) to inside is =
    letter_at me qs i t l n to (omega (arith, inside)) is

-- none is left
pub letters_past : (me : Role) (others : List Role) (i : Index) (t : Tag) (l : Load) (n : ℕ)
    → length others ≤ n → letters_from n (letters_to me others i t (λ q. l)) ≡ Nothing
letters_past me [] i t l zero past = refl
letters_past me [] i t l (suc n) past = refl
letters_past me (q ∷ qs) i t l zero past = absurd (omega (arith, past))
letters_past me (q ∷ qs) i t l (suc n) past = letters_past me qs i t l n (omega (arith, past))

pub key_at : (me : Role) (others : List Role) (i : Index) (t : Tag) (n : ℕ) (from : Role)
    → n < length others → from ≡ get_or others n from
    → (ks : List Key) × (drop n (map (λ q. key q me i t) others) ≡ key from me i t ∷ ks)
key_at me [] i t n from inside is = absurd (omega (arith, inside))
key_at me (q ∷ qs) i t zero from inside is = (
  map (λ q. key q me i t) qs,
  ap (λ x. key x me i t ∷ map (λ q. key q me i t) qs) (sym is),
)
key_at me (q ∷ qs) i t (suc n) from inside is = key_at me qs i t n from (omega (arith, inside)) is

-- none of these is done in the place of another process

pub told_own : (b : Bool) (ms : Letters) → is_became (told b ms) ≡ false
told_own b Nothing = refl
told_own b (More k l ms) = refl

pub gathered_own : (ks : List Key) → is_became (gathered ks) ≡ false
gathered_own [] = refl
gathered_own (k ∷ ks) = refl

pub left_own : (ms : Letters) → is_became (left ms) ≡ false
left_own Nothing = refl
left_own (More k l ms) = refl

pub awaited_own : (ks : List Key) → is_became (awaited ks) ≡ false
awaited_own [] = refl
awaited_own (k ∷ ks) = refl

-- what is next by the mark that is kept at a place
module _ (me : Role) (plan : Plan) (marks : List KeptMark) (place : ℕ)
    (inside : place < plan_len plan) (as_long : length marks ≡ plan_len plan) where
  mark_is : (r m : KeptMark) → r ≡ get_or marks place r → r ≡ m
      → get_or marks place kept.Untouched ≡ m
  mark_is r m read is =
      get_or_default marks place kept.Untouched r (omega (arith, inside, as_long)) ∙ (sym read ∙ is)

  pub next_meant : {r m : KeptMark} → r ≡ get_or marks place r → r ≡ m
      → {P : Process} → static_at plan place ≡ P
      → (n : Next) → IsNext me n (front me (meant me P m) P)
      → IsNext me n (front me (plan_marks me plan marks place) (static_at plan place))
  next_meant {r} {m} read is {P} static n there =
      subst (λ R. IsNext me n R)
      (sym (ap₂ (λ k Q. front me (meant me Q k) Q) (mark_is r m read is) static)) there

-- no other process runs there
pub own_read : (plan : Plan) (marks : List KeptMark) (place : ℕ) → place < plan_len plan
    → length marks ≡ plan_len plan → {r : KeptMark} → r ≡ get_or marks place r
    → runs_update (mark_in marks place) ≡ false → (update : _) → r ≡ kept.Became update → ⊥
own_read plan marks place inside as_long {r} read own update is =
    let here : mark_in marks place ≡ r =
    get_or_default marks place kept.Untouched r (omega (arith, inside, as_long)) ∙ sym read in
    let ran : runs_update (mark_in marks place) ≡ true = ap runs_update (here ∙ is) in
    both_ways (sym own ∙ ran)
  where
    both_ways : false ≡ true → ⊥
    both_ways e = cc

not_update : (m : KeptMark) → ((update : _) → m ≡ kept.Became update → ⊥)
    → runs_update m ≡ false
not_update (kept.Became update) other = absurd (other update refl)
not_update m other = refl

-- and so it is where what is read there says so
pub read_own : (marks : List KeptMark) (place : ℕ) → place < length marks → {r : KeptMark}
    → r ≡ get_or marks place r → ((update : _) → r ≡ kept.Became update → ⊥)
    → runs_update (mark_in marks place) ≡ false
read_own marks place inside {r} read other =
    ap runs_update (get_or_default marks place kept.Untouched r inside ∙ sym read)
    ∙ not_update r other

-- what is read where another process runs
pub read_update : (marks : List KeptMark) (place : ℕ) → place < length marks → {r m : KeptMark}
    → r ≡ get_or marks place r → r ≡ m → mark_in marks place ≡ m
read_update marks place inside {r} {m} read is =
    get_or_default marks place kept.Untouched r inside ∙ sym read ∙ is

-- with other marks nothing is next
pub other_meant : (me : Role) (P : Process) (m : KeptMark)
    → (m ≡ kept.Untouched → ⊥)
    → ((b : _) (n : _) → m ≡ kept.Telling b n → ⊥)
    → ((n : _) → m ≡ kept.Gathering n → ⊥)
    → (m ≡ kept.Ending → ⊥)
    → ((n : _) → m ≡ kept.Left n → ⊥)
    → ((n : _) → m ≡ kept.Waiting n → ⊥)
    → ((update : _) → m ≡ kept.Became update → ⊥)
    → (front me (meant me P m) P ≡ Skip) × (is_became (meant me P m) ≡ false)
other_meant me P kept.Untouched a b c d e f g = absurd (a refl)
other_meant me P (kept.Telling x n) a b c d e f g = absurd (b x n refl)
other_meant me P (kept.Gathering n) a b c d e f g = absurd (c n refl)
other_meant me P kept.Ending a b c d e f g = absurd (d refl)
other_meant me P (kept.Left n) a b c d e f g = absurd (e n refl)
other_meant me P (kept.Waiting n) a b c d e f g = absurd (f n refl)
other_meant me P (kept.Became update) a b c d e f g = absurd (g update refl)
other_meant me P m a b c d e f g = (refl, refl)

-- an op that stands for neither a sequence nor a parallel
pub single_op : (parts : List Process) (o : Op) → is_single (op_process parts o) ≡ true
    → is_single_op o ≡ true
single_op parts (op.Seq p q) h = cc
single_op parts (op.Par p q) h = cc
single_op parts o h = refl

-- what is next is neither a sequence nor a parallel, where no other process runs
pub single_next : (me : Role) (m : Mark) (P : Process) (n : Next) → is_leaf m P ≡ true
    → is_became m ≡ false → IsNext me n (front me m P) → is_single_next n ≡ true
single_next me m P (next.Op o) leaf own is =
    single_op is.0 o.now (sym (ap is_single is.1) ∙ front_single me m P leaf own)
single_next me m P n leaf own is = refl

-- the same acts by another name
pub added : {T E : Type 0} (r : Result T E) (old new : List Act) {xs ys : List Act} → xs ≡ ys
    → OnOk r (new ≡ old ++ xs) → OnOk r (new ≡ old ++ ys)
added r old new same = subst (λ zs. OnOk r (new ≡ old ++ zs)) same

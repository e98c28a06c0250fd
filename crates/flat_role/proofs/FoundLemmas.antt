-- The place that was found does what the process does.
use Rattle.std.proofs.Common.{◌≡◌, ◌<◌, ◌≤◌, ℕ, List, [], ◌∷◌, ◌++◌, Bool, true, false, ◌||◌, if◌then◌else◌, Option, Some, None, refl, sym, ap, ap₂, ◌∙◌, subst, drop, get_or, length, length-append, set, ⊎_elim, arith}
use mathlib.Core.Path.{fun_ext}
use Rattle.std.proofs.Math.Seq.{get_or-append_seam}
use Rattle.std.proofs.lemmas.Bool.{and_parts, cases_eq, ltb-true}
use Rattle.std.proofs.lemmas.List.{get_or-set_other, get_or-set_same, get_or_read}
use Rattle.std.proofs.lemmas.List.Folds.{list_any-append}
use Rattle.std.specs.List.{list_all, list_any}
use Rattle.std.specs.Option.{is_some, option_or}
use Rattle.std.specs.Prelude.{nat_lt, vec_capacity}
use Rattle.dioc_terms.specs.declared.names.Role.{Role}
use Rattle.dioc_terms.specs.declared.entries.Act.{Act}
use Rattle.dioc_terms.specs.Processes.{Process, Par}
use Rattle.dpoc_process.proofs.ActingLemmas.{acting-offered}
use Rattle.dpoc_process.specs.Acting.{acting}
use Rattle.flat_code.specs.Codes.{process_of}
use Rattle.flat_code.specs.declared.plan.Plan.{Plan}
use Rattle.flat_role.proofs.LeafActs.{front_acts, leaf_acting, leaf_offers}
use Rattle.flat_role.proofs.NextLemmas.{awaited_own, gathered_own, left_own, told_own}
use Rattle.flat_role.proofs.ProgressLemmas.{is-code, offers-acts, offers-places, same-split}
use Rattle.flat_role.proofs.SpotLeaves.{whole-acts}
use Rattle.flat_role.specs.declared.marks.Mark.{Mark as KeptMark}
use Rattle.flat_role.specs.declared.marks.Mark.TheVariants as kept_mark
use Rattle.flat_role.specs.declared.progress.Progress.{Progress}
use Rattle.flat_role.specs.KeptMarks.{end_keys, first_letters, last_keys, last_letters, letters_from, meant}
use Rattle.flat_role.specs.Leaves.{front, is_became, is_leaf}
use Rattle.flat_role.specs.PlanMarks.{plan_layout, plan_len, plan_marks, static_at}
use Rattle.flat_role.specs.Progress.{AreOf, IsFound, IsProgress, marks_by, offers_there, runs_by}
use Rattle.flat_role.specs.MovedMarks.{runs_update}
use Rattle.process_steps.specs.Steps.{is_offered, offers}
use Rattle.role_statuses.proofs.ListLemmas.{places-are_listed}
use Rattle.role_statuses.proofs.PlaceStepLemmas.{places-are_exact}
use Rattle.role_statuses.specs.Asking.{AsksActing}
use Rattle.role_statuses.specs.Flat.{Marks}
use Rattle.role_statuses.specs.Kept.{IsKept}
use Rattle.role_statuses.specs.ListLaws.{active}
use Rattle.role_statuses.specs.Marks as mark
use Rattle.role_statuses.specs.PlaceLaws.{IsPlaceStep}

-- Of lists.

here_passes : {X : Type 0} (p : X → Bool) (xs ys : List X) (y : X)
    → list_all p (xs ++ y ∷ ys) ≡ true → p y ≡ true
here_passes p [] ys y h = (and_parts (p y) (list_all p ys) h).0
here_passes p (x ∷ xs) ys y h =
    here_passes p xs ys y (and_parts (p x) (list_all p (xs ++ y ∷ ys)) h).1

some_passes : {X : Type 0} (p : X → Bool) (xs ys : List X) (y : X) → list_any p xs ≡ false
    → p y ≡ true → list_any p (xs ++ y ∷ ys) ≡ true
some_passes p xs ys y none passes = list_any-append p xs (y ∷ ys)
    ∙ ap₂ (λ s t. s || (t || list_any p ys)) none passes

-- the part that acts is asked for as a question about it is to be asked
pub acting_asks : (me : Role) (a : Act) → AsksActing me a (acting me a)
acting_asks me a = record { of_seq = λ P Q. refl; of_par = of_par }
  where
    either : (o p : Option Process) (t : Bool) → is_some o ≡ t
        → option_or o p ≡ (if t then o else p)
    either None p true h = cc
    either None p false h = refl
    either (Some x) p true h = refl
    either (Some x) p false h = cc

    of_par : (P Q : Process) → acting me a (Par P Q)
        ≡ (if is_offered a (offers me P) then acting me a P else acting me a Q)
    of_par P Q = either (acting me a P) (acting me a Q) (is_offered a (offers me P))
        (acting-offered me a P)

module _ (me : Role) (plan : Plan) (progress : Progress) (k : IsProgress me plan progress) (a : Act)
    (at place : ℕ) (found : IsFound me plan progress a at place) where
  abbrev ms : Marks
  ms = marks_by me plan progress

  abbrev W : Process
  W = process_of plan.code

  abbrev P : Process
  P = static_at plan place

  listed : found.before ++ place ∷ found.behind ≡ active me ms W
  listed = sym found.stands ∙ k.listed

  pub at-inside : at < length progress.active.items
  at-inside = omega (
    arith,
    ap length found.stands,
    length-append found.before (place ∷ found.behind),
    found.is_at,
  )

  pub found-inside : place < plan_len plan
  found-inside = ltb-true place (plan_len plan)
      (here_passes (λ p. nat_lt p (plan_len plan)) found.before found.behind place
      (ap (list_all (λ p. nat_lt p (plan_len plan))) listed
      ∙ places-are_listed.inside me (plan_layout plan) (plan_len plan) ms W (is-code plan)))

  -- it is what is read there
  pub read-found : (p : ℕ) → p ≡ get_or progress.active.items at p → p ≡ place
  read-found p read = get_or_read progress.active.items at p at-inside read 0
      ∙ ap (λ ps. get_or ps at 0) found.stands
      ∙ ap (λ i. get_or (found.before ++ place ∷ found.behind) i 0) found.is_at
      ∙ get_or-append_seam found.before place found.behind 0

  pub found-there : (p : ℕ) → p ≡ get_or progress.active.items at p
      → IsFound me plan progress a at p
  found-there p read = subst (IsFound me plan progress a at) (sym (read-found p read)) found

  -- it acts itself
  pub found-leaf : is_leaf (ms place) P ≡ true
  found-leaf = here_passes (λ p. is_leaf (ms p) (static_at plan p)) found.before found.behind place
      (ap (list_all (λ p. is_leaf (ms p) (static_at plan p))) listed
      ∙ whole-acts me (plan_layout plan) ms (plan_len plan) W (is-code plan) k.kept)

  -- so the process offers the act
  pub found-offered : is_offered a (offers me (runs_by me plan progress)) ≡ true
  found-offered = ap (is_offered a) (sym (offers-acts me plan progress k))
      ∙ offers-places me (plan_layout plan) ms a progress.active.items
      ∙ ap (list_any (offers_there me plan ms a)) found.stands
      ∙ some_passes (offers_there me plan ms a) found.before found.behind place found.none_before
      found.offers

  -- what the place does is the step of the process
  pub found-step : IsPlaceStep me (plan_layout plan) (plan_len plan) ms W a place
  found-step =
      let step = places-are_exact me (plan_layout plan) (plan_len plan) ms W a (is-code plan) k.kept
      found-offered in
      subst (IsPlaceStep me (plan_layout plan) (plan_len plan) ms W a)
      (sym (same-split me plan progress k a at place step.0 found step.1).place_is) step.1

  -- the part of the process that acts is that of what stands in front at the place
  pub found-front : acting me a (runs_by me plan progress) ≡ acting me a (front me (ms place) P)
  found-front = found-step.asks (acting me a) (acting_asks me a)
      ∙ leaf_acting me a (ms place) P found-leaf

  pub front-offered : is_offered a (offers me (front me (ms place) P)) ≡ true
  front-offered = ap (is_offered a) (sym (leaf_offers me (ms place) P found-leaf)) ∙ found.offers

  -- which is the whole of it unless another process runs there
  pub found-acts : is_became (ms place) ≡ false
      → acting me a (runs_by me plan progress) ≡ Some (front me (ms place) P)
  found-acts own = found-front ∙ front_acts me a (ms place) P found-leaf own front-offered

  -- of that process where one does
  pub found-updates : (R : Process) → ms place ≡ mark.Became R
      → acting me a (runs_by me plan progress) ≡ acting me a R
  found-updates R is = found-front ∙ ap (λ m. acting me a (front me m P)) is

  pub update-acts : (R : Process) → ms place ≡ mark.Became R → is_some (acting me a R) ≡ true
  update-acts R is = ap is_some (sym (found-updates R is))
      ∙ acting-offered me a (runs_by me plan progress) ∙ found-offered

-- Marks that another update stands for that is the same process.

pub meant_own : (me : Role) (P : Process) (m : KeptMark) → runs_update m ≡ false
    → is_became (meant me P m) ≡ false
meant_own me P (kept_mark.Telling b n) own = told_own b (letters_from n (first_letters me P b))
meant_own me P (kept_mark.Gathering n) own = gathered_own (drop n (end_keys me P))
meant_own me P (kept_mark.Left n) own = left_own (letters_from n (last_letters me P))
meant_own me P (kept_mark.Waiting n) own = awaited_own (drop n (last_keys me P))
meant_own me P (kept_mark.Became update) own = cc
meant_own me P m own = refl

pub own_meant : (me : Role) (P : Process) (m : KeptMark) → is_became (meant me P m) ≡ false
    → runs_update m ≡ false
own_meant me P (kept_mark.Became update) own = cc
own_meant me P m own = refl

pub same_process : (me : Role) (plan : Plan) (marks : List KeptMark) (place : ℕ) (m n : KeptMark)
    → place < length marks → get_or marks place kept_mark.Untouched ≡ m
    → meant me (static_at plan place) n ≡ meant me (static_at plan place) m
    → plan_marks me plan (set marks place n) ≡ plan_marks me plan marks
same_process me plan marks place m n inside is same = fun_ext (λ k. ⊎_elim
    (λ here. subst (λ k. plan_marks me plan (set marks place n) k ≡ plan_marks me plan marks k)
    (sym here)
    (ap (meant me (static_at plan place)) (get_or-set_same marks place n kept_mark.Untouched inside)
    ∙ same ∙ ap (meant me (static_at plan place)) (sym is)))
    (λ apart. ap (meant me (static_at plan k))
    (get_or-set_other marks place k n kept_mark.Untouched apart))
    (cases_eq k place))

pub progress-again : (me : Role) (plan : Plan) (old new : Progress)
    → length new.marks.items ≡ length old.marks.items → new.active ≡ old.active
    → new.fresh ≡ old.fresh → marks_by me plan new ≡ marks_by me plan old
    → AreOf me new.marks.items → IsProgress me plan old → IsProgress me plan new
progress-again me plan old new longer active_is fresh_is same mine k = record {
  as_long = longer ∙ k.as_long;
  kept = subst (λ ms. IsKept me ms (process_of plan.code)) (sym same) k.kept;
  listed = ap (λ v. v.items) active_is ∙ k.listed
      ∙ sym (ap (λ ms. active me ms (process_of plan.code)) same);
  room = subst (λ v. plan_len plan ≤ vec_capacity v) (sym active_is) k.room;
  spare = subst (λ v. plan_len plan ≤ vec_capacity v) (sym fresh_is) k.spare;
  mine = mine;
}

pub found-again : (me : Role) (plan : Plan) (old new : Progress) → new.active ≡ old.active
    → marks_by me plan new ≡ marks_by me plan old → (a : Act) (at place : ℕ)
    → IsFound me plan old a at place → IsFound me plan new a at place
found-again me plan old new active_is same a at place found = record {
  before = found.before;
  behind = found.behind;
  stands = ap (λ v. v.items) active_is ∙ found.stands;
  is_at = found.is_at;
  none_before = ap (λ ms. list_any (offers_there me plan ms a) found.before) same
      ∙ found.none_before;
  offers = ap (λ ms. offers_there me plan ms a place) same ∙ found.offers;
}

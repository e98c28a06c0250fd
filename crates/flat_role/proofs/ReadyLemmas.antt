-- What is made ready at the place that was found is made ready of the act.
use Rattle.std.proofs.Common.{◌≡◌, ◌<◌, ℕ, List, Result, true, false, Some, get_or, length, set, sym, ap, ◌∙◌, subst}
use Rattle.std.specs.Global.{Box}
use Rattle.dioc_terms.specs.declared.entries.Act.{Act}
use Rattle.dioc_terms.specs.declared.names.Role.{Role}
use Rattle.dpoc_process.specs.Acting.{acting}
use Rattle.flat_code.specs.declared.plan.Plan.{Plan}
use Rattle.flat_role.specs.declared.marks.Mark.{Mark as KeptMark}
use Rattle.flat_role.specs.declared.marks.Mark.TheVariants as kept
use Rattle.flat_role.specs.declared.progress.Progress.{Progress}
use Rattle.flat_role.specs.declared.steps.Chosen.{Chosen}
use Rattle.flat_role.specs.PlanMarks.{mark_in, plan_len, plan_marks, static_at}
use Rattle.flat_role.specs.Progress.{AreOf, IsFound, IsProgress, marks_by, runs_by}
use Rattle.flat_role.specs.Running.{Running}
use Rattle.std.specs.Option.{is_some}
use Rattle.std.specs.Prelude.{OnOk}
use Rattle.std.proofs.lemmas.List.{get_or-set_same, get_or_read}
use Rattle.flat_role.proofs.ChosenLemmas.{IsPlaced, chosen_placed}
use Rattle.flat_role.specs.declared.leaves.Next.{Next}
use Rattle.flat_role.specs.KeptMarks.{meant}
use Rattle.flat_role.specs.Leaves.{IsNext, is_first}
use Rattle.flat_role.specs.MovedMarks.{runs_update}
use Rattle.role_statuses.specs.Marks as mark
use Rattle.std.proofs.lemmas.Result.{on_ok_weaker}
use Rattle.flat_role.specs.ReadySteps.{IsChosenFor, IsNextOf, front_at}
use Rattle.flat_role.specs.Updates.{IsChosenAt, IsInner, fresh_by, is_fresh}
use Rattle.flat_role.proofs.FoundLemmas.{at-inside, found-acts, found-again, found-there, found-updates, meant_own, progress-again, read-found, update-acts}

module _ (me : Role) (plan : Plan) (old new : Progress) (k : IsProgress me plan old)
    (a : Act) (at place : ℕ) (found : IsFound me plan old a at place) where
  -- the marks stand for the same, so the process goes on as before
  pub kept_on : length new.marks.items ≡ plan_len plan
      → plan_marks me plan new.marks.items ≡ plan_marks me plan old.marks.items
      → AreOf me new.marks.items → new.active ≡ old.active → new.fresh ≡ old.fresh
      → IsProgress me plan new
  kept_on longer same mine active_is fresh_is =
      progress-again me plan old new (longer ∙ sym k.as_long) active_is fresh_is same mine k

  pub chosen_on : plan_marks me plan new.marks.items ≡ plan_marks me plan old.marks.items
      → new.active ≡ old.active → IsInner a (mark_in new.marks.items place)
      → IsChosenAt me plan new a at
  chosen_on same active_is inner = record {
    place = place;
    found = found-again me plan old new active_is same a at place found;
    inner = inner;
  }

-- What is next at the place that does the act.
module _ (me : Role) (plan : Plan) (progress : Progress) (k : IsProgress me plan progress)
    (a : Act) (chosen : IsChosenFor me plan progress a progress.chosen) (at : ℕ)
    (is_at : (c : Chosen) → progress.chosen ≡ Some c → at ≡ c.at) (place : ℕ)
    (read : place ≡ get_or progress.active.items at place) where
  placed : IsPlaced me plan progress a progress.chosen at
  placed = chosen_placed me plan progress a progress.chosen at is_at chosen

  pub chosen_found : IsFound me plan progress a at place
  chosen_found = found-there me plan progress k a at placed.there.place placed.there.found place read

  place_is : place ≡ placed.there.place
  place_is = read-found me plan progress k a at placed.there.place placed.there.found place read

  pub chosen_inner : IsInner a (mark_in progress.marks.items place)
  chosen_inner = subst (λ (p : ℕ). IsInner a (mark_in progress.marks.items p)) (sym place_is)
      placed.there.inner

  fresh : fresh_by progress progress.chosen ≡ is_fresh (mark_in progress.marks.items place)
  fresh = placed.fresh ∙ ap (λ p. is_fresh (mark_in progress.marks.items p)) (sym
      (get_or_read progress.active.items at place
      (at-inside me plan progress k a at place chosen_found) read 0))

  -- of the code
  pub next_own : (n : Next) → runs_update (mark_in progress.marks.items place) ≡ false
      → IsNext me n (front_at me plan progress.marks.items place)
      → is_first n ≡ is_fresh (mark_in progress.marks.items place)
      → IsNextOf me a (runs_by me plan progress) (fresh_by progress progress.chosen) n
  next_own n own stands first = record {
    part = front_at me plan progress.marks.items place;
    acts = found-acts me plan progress k a at place chosen_found
        (meant_own me (static_at plan place) (mark_in progress.marks.items place) own);
    stands = stands;
    first = first ∙ sym fresh;
  }

  -- of an update
  module _ {update : Box Running}
      (was : mark_in progress.marks.items place ≡ kept.Became update) where
    runs : marks_by me plan progress place ≡ mark.Became update.value.process
    runs = ap (meant me (static_at plan place)) was

    pub update_offers : is_some (acting me a update.value.process) ≡ true
    update_offers = update-acts me plan progress k a at place chosen_found update.value.process runs

    pub update_chosen : update.value.chosen ≡ Some a
    update_chosen = subst (IsInner a) was chosen_inner

    pub next_inside : (n : Next) → IsNextOf me a update.value.process update.value.fresh n
        → IsNextOf me a (runs_by me plan progress) (fresh_by progress progress.chosen) n
    next_inside n is = record {
      part = is.part;
      acts = found-updates me plan progress k a at place chosen_found update.value.process runs
          ∙ is.acts;
      stands = is.stands;
      first = is.first ∙ sym (fresh ∙ ap is_fresh was);
    }

-- The mark of an update that is written stands at its place.

pub inner_set : {T E : Type 0} (marks : List KeptMark) (place : ℕ) (v : Box Running)
    → place < length marks → (a : Act) (shown : Result T E)
    → OnOk shown (v.value.chosen ≡ Some a)
    → OnOk shown (IsInner a (mark_in (set marks place (kept.Became v)) place))
inner_set marks place v inside a shown = on_ok_weaker shown (λ chosen. subst (IsInner a)
    (sym (get_or-set_same marks place (kept.Became v) kept.Untouched inside)) chosen)

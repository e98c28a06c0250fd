-- What a role over code is ready for.
use Rattle.std.proofs.Common.{◌≡◌, ℕ, true, Option, None, Some, get_or, refl, sym, ap, subst}
use Rattle.std.specs.Option.{is_some}
use Rattle.dioc_terms.specs.declared.entries.Act.{Act}
use Rattle.dioc_terms.specs.declared.names.Role.{Role}
use Rattle.flat_code.specs.declared.plan.Plan.{Plan}
use Rattle.flat_role.specs.declared.progress.Progress.{Progress}
use Rattle.flat_role.specs.declared.steps.Chosen.{Chosen}
use Rattle.flat_role.specs.PlanMarks.{mark_in}
use Rattle.flat_role.specs.ReadySteps.{IsChosenFor}
use Rattle.flat_role.specs.Updates.{IsChosen, IsChosenAt, chosen_by, fresh_by, is_fresh}

module _ (me : Role) (plan : Plan) (progress : Progress) (a : Act) where
  pub chosen_some : (o : Option Chosen) → IsChosenFor me plan progress a o → is_some o ≡ true
  chosen_some None ready = absurd ready
  chosen_some (Some c) ready = refl

  -- where it stands, and what is known of it
  pub record IsPlaced (o : Option Chosen) (at : ℕ) : Type 0 where
    pub there : IsChosenAt me plan progress a at
    pub fresh : fresh_by progress o
        ≡ is_fresh (mark_in progress.marks.items (get_or progress.active.items at 0))

  pub chosen_placed : (o : Option Chosen) (at : ℕ)
      → ((chosen : Chosen) → o ≡ Some chosen → at ≡ chosen.at) → IsChosenFor me plan progress a o
      → IsPlaced o at
  chosen_placed None at is ready = absurd ready
  chosen_placed (Some c) at is ready = record {
    there = subst (λ (i : ℕ). IsChosenAt me plan progress a i) (sym (is c refl)) ready.1;
    fresh = ap
        (λ (i : ℕ). is_fresh (mark_in progress.marks.items (get_or progress.active.items i 0)))
        (sym (is c refl));
  }

  -- the other way round
  pub chosen_for : (o : Option Chosen) → IsChosen me plan progress o → chosen_by o ≡ Some a
      → IsChosenFor me plan progress a o
  chosen_for None is some = cc
  chosen_for (Some c) is some =
      let same : c.act.value ≡ a = some_is some in
      (same, subst (λ (b : Act). IsChosenAt me plan progress b c.at) same is)
    where
      some_is : {x y : Act} → Some x ≡ Some y → x ≡ y
      some_is e = cc

pub chosen_of : (me : Role) (plan : Plan) (progress : Progress) (a : Act) (o : Option Chosen)
    → IsChosenFor me plan progress a o → chosen_by o ≡ Some a
chosen_of me plan progress a None ready = absurd ready
chosen_of me plan progress a (Some c) ready = ap Some ready.0

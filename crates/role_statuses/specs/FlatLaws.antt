-- A role that runs over marks does what the definition says.
use Rattle.std.specs.Prelude.{◌≡◌, ℕ, Some}
use Rattle.dioc_terms.specs.declared.names.Role.{Role}
use Rattle.dioc_terms.specs.declared.entries.Act.{Act}
use Rattle.dioc_terms.specs.Attempts.{Does}
use Rattle.dioc_terms.specs.Processes.{Process}
use Rattle.dioc_terms.specs.Stores.{Store}
use Rattle.process_steps.specs.Laws.{OffersAreSteps}
use Rattle.process_steps.specs.Steps.{Deed, Given, ended, offers, step}
use Rattle.role_statuses.specs.Statuses.{is_over}
use Rattle.role_statuses.specs.Flat.{Marks}
use Rattle.role_statuses.specs.Kept.{kept, running, IsKept}
use Rattle.role_statuses.specs.Marks as mark
use Rattle.role_statuses.specs.Spots.{spots, acts_of, first_at}

-- the first place that offers the act does it, and the new marks stand for what it leaves
pub record IsMarkStep (me : Role) (a : Act) (marks : Marks) (W P : Process) : Type 0 where
  pub place : ℕ
  pub first : first_at a (spots me 0 (kept marks 0 W) W) ≡ Some place
  pub after : Marks
  pub keeps : IsKept me after W
  pub becomes : running me after W ≡ P

pub record MarksAreExact : Type 0 where
  pub begins : (me : Role) (W : Process) → IsKept me (λ k. mark.Untouched) W
      × (running me (λ k. mark.Untouched) W ≡ W)
  pub offered : (me : Role) (marks : Marks) (W : Process) → IsKept me marks W
      → acts_of (spots me 0 (kept marks 0 W) W) ≡ offers me (running me marks W)
  pub over : (me : Role) (marks : Marks) (W : Process)
      → is_over me (kept marks 0 W) W ≡ ended (running me marks W)
  pub steps : OffersAreSteps
      → (me : Role) (s : Store) (a : Act) (given : Given) (marks : Marks) (W P : Process) (d : Deed)
      → IsKept me marks W
      → step me s (running me marks W) a given ≡ Does d P
      → IsMarkStep me a marks W P

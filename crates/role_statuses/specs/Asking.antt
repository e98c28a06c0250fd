-- Questions about a process that runs which its part that acts answers.
use Rattle.std.specs.Prelude.{◌≡◌, Option, if◌then◌else◌}
use Rattle.dioc_terms.specs.declared.names.Role.{Role}
use Rattle.dioc_terms.specs.declared.entries.Act.{Act}
use Rattle.dioc_terms.specs.Processes.{Process, Seq, Par}
use Rattle.process_steps.specs.Steps.{ended, is_offered, offers}

-- a question about the part that does an act: of a sequence it is asked of the part that is next,
-- of a parallel of the left part where that offers the act
pub record AsksActing (me : Role) (a : Act) (F : Process → Option Process) : Type 0 where
  pub of_seq : (P Q : Process) → F (Seq P Q) ≡ (if ended P then F Q else F P)
  pub of_par : (P Q : Process)
      → F (Par P Q) ≡ (if is_offered a (offers me P) then F P else F Q)

-- A status says exactly what its process is, offers and becomes.
use Rattle.std.specs.Prelude.{◌≡◌}
use Rattle.dioc_terms.specs.declared.names.Role.{Role}
use Rattle.dioc_terms.specs.declared.entries.Act.{Act}
use Rattle.dioc_terms.specs.Attempts.{under}
use Rattle.dioc_terms.specs.Processes.{Process}
use Rattle.dioc_terms.specs.Stores.{Store}
use Rattle.process_steps.specs.Steps.{Given, ended, offers, step}
use Rattle.role_statuses.specs.Statuses.{Status, Untouched, read, is_over, leaves}
use Rattle.role_statuses.specs.Moves.{move}

pub record StatusesAreExact : Type 0 where
  pub begins : (me : Role) (P : Process) → read me Untouched P ≡ P
  pub over : (me : Role) (x : Status) (P : Process) → is_over me x P ≡ ended (read me x P)
  pub offered : (me : Role) (x : Status) (P : Process) → leaves me x P ≡ offers me (read me x P)
  pub moves : (me : Role) (s : Store) (x : Status) (P : Process) (a : Act) (given : Given)
      → step me s (read me x P) a given ≡ under (λ y. read me y P) (move me s x P a given)

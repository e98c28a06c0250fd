-- What a role is handed with an act, and what it stands for in a step.
use Rattle.std.specs.Prelude.{◌≡◌, ℕ, List, true, Option, Some}
use Rattle.dioc_terms.specs.declared.names.Role.{Role}
use Rattle.dioc_terms.specs.declared.processes.ScopeHead.{ScopeHead}
use Rattle.dioc_terms.specs.declared.processes.Tag.TheVariants.{Begin}
use Rattle.dioc_terms.specs.declared.entries.Act.{Act}
use Rattle.dioc_terms.specs.Processes.{Process, Letters, Load, Part, process, letters, load}
use Rattle.dpoc_process.specs.declared.runs.Got.{Got as GotValue}
use Rattle.dpoc_process.specs.declared.runs.Got.TheVariants as got
use Rattle.dpoc_process.specs.Acting.{Lead, acting_lead}
use Rattle.process_steps.specs.Laws.{is_done}
use Rattle.dpoc_process.specs.LocalStates.{LocalState, step_at}
use Rattle.process_steps.specs.Steps.{Given, Alone, Got, FromBook, Decision, Keeps, Replaces, letters_to}

pub data Handed : Type 0 where
  -- nothing, for an act that needs nothing
  Empty : Handed
  -- the message that is taken
  Message : Load → Handed
  -- the scope keeps its body
  Kept : Handed
  -- the scope is replaced: the leader's own part, and the messages with the parts of the others
  Parted : Process → Letters → Handed

-- what a program's value stands for
abbrev pub handed : GotValue → Handed
handed got.Nothing = Empty
handed (got.Payload p) = Message (load p)
handed got.Keep = Kept
handed (got.Parts parts) = Parted (process parts.own) (letters parts.tell)

-- the book lets the scope keep its body
pub record BookKeeps (lead : Option Lead) (given : Given) : Type 0 where
  pub scope : Lead
  pub is_led : lead ≡ Some scope
  pub decide : ScopeHead → Decision
  pub decides : given ≡ FromBook decide
  pub keeps : decide scope.head ≡ Keeps

-- the book replaces the scope, and the leader has its own part and the messages with the others'
-- parts
pub record BookReplaces (me : Role) (lead : Option Lead) (own : Process) (ms : Letters)
    (given : Given) : Type 0 where
  pub scope : Lead
  pub is_led : lead ≡ Some scope
  pub decide : ScopeHead → Decision
  pub decides : given ≡ FromBook decide
  pub name : List ℕ
  pub epoch : ℕ
  pub part : Role → Process
  pub replaces : decide scope.head ≡ Replaces name epoch part
  pub own_part : own ≡ part me
  pub told : ms ≡ letters_to me scope.others scope.head.index Begin (λ q. Part epoch (part q))

-- what is handed is what comes from outside: the message, or what the book says of the scope that
-- the act begins
abbrev pub StandsFor : Role → Option Lead → Handed → Given → Type 0
StandsFor me lead Empty given = given ≡ Alone
StandsFor me lead (Message l) given = given ≡ Got l
StandsFor me lead Kept given = BookKeeps lead given
StandsFor me lead (Parted own ms) given = BookReplaces me lead own ms given

abbrev pub Brings : LocalState → Act → Handed → Given → Type 0
Brings s a h given = StandsFor s.role (acting_lead s a) h given

-- something of this kind from outside; of what the book says only that it says something
abbrev pub given_like : Handed → Given
given_like Empty = Alone
given_like (Message l) = Got l
given_like Kept = FromBook (λ head. Keeps)
given_like (Parted own ms) = FromBook (λ head. Keeps)

-- with what is handed the act can be done
abbrev pub IsEnabled : LocalState → Act → Handed → Type 0
IsEnabled s a h = is_done (step_at s a (given_like h)) ≡ true

-- Which acts a process can do: those that it offers, with what fits them.
use Rattle.std.specs.Prelude.{◌≡◌, Bool, true, false, Some}
use Rattle.dioc_terms.specs.declared.names.Role.{Role}
use Rattle.dioc_terms.specs.declared.processes.Tag.{Tag}
use Rattle.dioc_terms.specs.declared.processes.Tag.TheVariants.{Op, Choice, Go, Begin}
use Rattle.dioc_terms.specs.declared.entries.Act.{Act}
use Rattle.dioc_terms.specs.declared.entries.Act.TheVariants as act
use Rattle.dioc_terms.specs.Messages.{act_of}
use Rattle.dioc_terms.specs.Attempts.{Attempt, Stuck, Does}
use Rattle.dioc_terms.specs.Processes.{Process, Load, Val, Flag, Keep, Part}
use Rattle.dioc_terms.specs.Stores.{Store}
use Rattle.process_steps.specs.Steps.{Deed, Given, Got, FromBook, entry_of, ended, offers, is_offered, step}

-- what a message with this tag carries: a value, a flag, or the begin of a scope; of the ends of
-- parts nothing is asked
abbrev pub load_fits : Tag → Load → Bool
load_fits (Op o) (Val v) = true
load_fits (Op o) _ = false
load_fits Choice (Flag b) = true
load_fits Choice _ = false
load_fits Go (Flag b) = true
load_fits Go _ = false
load_fits Begin Keep = true
load_fits Begin (Part n P) = true
load_fits Begin _ = false
load_fits _ l = true

-- what an act needs from outside is there: the message of a take, the book for a scope
abbrev pub given_fits : Act → Given → Bool
given_fits (act.Take k) (Got l) = load_fits k.tag l
given_fits (act.Take k) _ = false
given_fits (act.Scope i) (FromBook decide) = true
given_fits (act.Scope i) _ = false
given_fits _ given = true

abbrev pub is_done : {D A : Type 0} → Attempt D A → Bool
is_done Stuck = false
is_done (Does d a) = true

pub record OffersAreSteps : Type 0 where
  -- with what fits an act, a process does the act exactly where it offers it
  pub exactly : (me : Role) (s : Store) (P : Process) (a : Act) (given : Given) → given_fits a given
      ≡ true
      → is_done (step me s P a given) ≡ is_offered a (offers me P)
  -- with anything else it does none but those
  pub only : (me : Role) (s : Store) (P : Process) (a : Act) (given : Given)
      → is_done (step me s P a given) ≡ true → is_offered a (offers me P) ≡ true
  -- an ended process does nothing
  pub ended : (me : Role) (s : Store) (P : Process) (a : Act) (given : Given) → ended P ≡ true
      → is_done (step me s P a given) ≡ false

-- what is done is the act
abbrev pub StepsShowTheirActs : Type 0
StepsShowTheirActs =
    (me : Role) (s : Store) (P : Process) (a : Act) (given : Given) (d : Deed) (P' : Process)
    → step me s P a given ≡ Does d P'
    → act_of (entry_of d) ≡ Some a

-- A played trace is settled where nobody passes the end of a scope or of a loop's turn before all
-- its roles have arrived there: the trace in the global program of the messages that end a scope
-- and a turn.
use Rattle.std.specs.Prelude.{◌≡◌, ℕ, List, [], ◌∷◌, Bool, true, false, ◌||◌, Option, Some, None, IfSome}
use Rattle.dioc_terms.specs.declared.names.Role.{Role}
use Rattle.dioc_terms.specs.declared.processes.ScopeHead.{ScopeHead}
use Rattle.dioc_terms.specs.declared.entries.Entry.{Entry}
use Rattle.dioc_terms.specs.Plain.{PlainBundle, Setting, setting}
use Rattle.dioc_terms.specs.Messages.{doer}
use Rattle.dioc_terms.specs.Attempts.{Attempt, Stuck, Does}
use Rattle.dioc_terms.specs.Stores.{Store}
use Rattle.dioc_terms.specs.Terms as term
use Rattle.dioc_terms.specs.Terms.{is_in}
use Rattle.global_steps.specs.Running.{Running, Seq, Par, Bar, Again, is_due}
use Rattle.global_steps.specs.Follow.{BookChoice, Effect, State, book_choice, plays, follow, play_start}

-- whether a role is due before a place: it waits for a message in flight in some first part whose
-- second part holds the place
abbrev pub Due : Type 0
Due = Role → Bool

abbrev pub nobody : Due
nobody q = false

-- the roles due before the second part of a sequence
abbrev pub due_after : Due → Running → Due
due_after due G q = due q || is_due q G

abbrev pub NoneDue : Due → (Role → Bool) → Type 0
NoneDue due roles = (q : Role) → roles q ≡ true → due q ≡ false

-- at each chosen scope in the term, ended or not, at any depth, which has the role: none of its
-- roles is due before it
abbrev pub Released : Due → Running → Role → Type 0
Released due (Seq G H) doer = Released due G doer × Released (due_after due G) H doer
Released due (Par G H) doer = Released due G doer × Released due H doer
Released due (Bar roles G) doer = (roles doer ≡ true → NoneDue due roles) × Released due G doer
Released due (Again i r g I G) doer = Released due G doer
Released due _ doer = Unit {0}

-- the first fact where the part plays the entry, else the second
abbrev pub Played : Attempt Effect Running → Type 0 → Type 0 → Type 0
Played (Does effect G) there else_here = there
Played Stuck there else_here = else_here

module _ (cast : List Role) (stores : Role → Store) (choices : ScopeHead → BookChoice) (updates : ℕ)
  where
    -- An entry of a role that the term plays is settled: where it picks again after a turn, no role
    -- of the loop is due before the loop; where it is played in the second part of a sequence, the
    -- chosen scopes of the first part that have the role are released.
    abbrev pub SettledAt : Due → Running → Entry → Role → Type 0
    SettledAt due (Seq G H) e doer =
        Played (plays cast stores choices updates G e) (SettledAt due G e doer)
        (Released due G doer × SettledAt (due_after due G) H e doer)
    SettledAt due (Par G H) e doer =
        Played (plays cast stores choices updates G e) (SettledAt due G e doer)
        (SettledAt due H e doer)
    SettledAt due (Bar roles G) e doer = SettledAt due G e doer
    SettledAt due (Again i r g I G) e doer =
        Played (plays cast stores choices updates G e) (SettledAt due G e doer)
        (NoneDue due (λ q. is_in q (term.While i r g I)))
    SettledAt due _ e doer = Unit {0}

-- an entry is settled in a state; a change always is
abbrev pub Settled : Setting → State → Entry → Type 0
Settled b S e = by_doer (doer e)
  where
    by_doer : Option Role → Type 0
    by_doer None = Unit {0}
    by_doer (Some r) =
        SettledAt b.cast S.stores (λ head. book_choice b.rules S.book head (S.stores head.leader))
        S.updates nobody S.running e r

-- each entry of a trace is settled in the state before it
abbrev pub SettledFrom : Setting → State → List Entry → Type 0
SettledFrom b S [] = Unit {0}
SettledFrom b S (e ∷ es) = Settled b S e × IfSome (follow b S e) (λ next. SettledFrom b next es)

abbrev pub IsSettled : PlainBundle → List Entry → Type 0
IsSettled b es = SettledFrom (setting b) (play_start b) es

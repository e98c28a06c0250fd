-- What becomes of a scope by the choice of its leader.
use Rattle.std.specs.Prelude.{ℕ, suc, List, Bool, true, false, Option, Some, None, if◌then◌else◌, slice_get}
use Rattle.dioc_terms.specs.declared.names.Role.{Role}
use Rattle.dioc_terms.specs.declared.entries.Chosen.{Chosen}
use Rattle.dioc_terms.specs.declared.entries.Chosen.TheVariants.{Keep, Rule}
use Rattle.dioc_terms.specs.Attempts.{Attempt, Stuck, Does}
use Rattle.dioc_terms.specs.Equality.{chosen_eq}
use Rattle.dioc_terms.specs.Plain.{PlainRule}
use Rattle.dioc_terms.specs.Terms.{Term, Scope, stamped}
use Rattle.global_steps.specs.Follow.{BookChoice, KeepsBody, TakesRule, Effect, Leaves}
use Rattle.global_steps.specs.Running.{Running, Bar, started}

abbrev pub is_scope_term : Term → Bool
is_scope_term (Scope i r I extra props level) = true
is_scope_term _ = false

-- what the book says, where it chooses this rule or none
abbrev pub choice_by : Option PlainRule → BookChoice
choice_by None = KeepsBody
choice_by (Some rule) = TakesRule rule.name rule.body

-- where it chooses the rule of this number or none
abbrev pub choice_of : List PlainRule → Option ℕ → BookChoice
choice_of rules None = KeepsBody
choice_of rules (Some m) = choice_by (slice_get rules m)

-- The body that is played where the leader chose what the book says: the scope's own, or the rule's
-- as the next update, one level higher. The choice that is shown, the book's, the scope's body, the
-- number of updates and the scope's level.
abbrev pub chosen_body : Chosen → BookChoice → Term → ℕ → ℕ → Option Term
chosen_body shown KeepsBody I updates level = if chosen_eq shown Keep then Some I else None
chosen_body shown (TakesRule name body) I updates level =
    if chosen_eq shown (Rule name (suc updates))
    then Some (stamped body (suc updates) (suc level)) else None

-- the scope of these roles with the body that is played
abbrev pub played_scope : (Role → Bool) → Option Term → Attempt Effect Running
played_scope roles None = Stuck
played_scope roles (Some I) = Does Leaves (Bar roles (started I))

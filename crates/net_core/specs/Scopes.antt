-- What the begin of a scope is.
use Rattle.std.specs.Prelude.{◌≡◌, List, Option, Some, None, map, All}
use Rattle.dioc_terms.specs.declared.entries.Act.{Act}
use Rattle.dioc_terms.specs.declared.entries.Chosen.{Chosen}
use Rattle.dioc_terms.specs.declared.entries.Chosen.TheVariants as chosen
use Rattle.dioc_terms.specs.declared.names.Role.{Role}
use Rattle.dioc_terms.specs.Plain.{PlainRule}
use Rattle.dpoc_process.specs.Acting.{Lead, acting_lead}
use Rattle.dpoc_process.specs.LocalStates.{LocalState}
use Rattle.global_steps.specs.Follow.{BookChoice, KeepsBody, TakesRule}
use Rattle.marked_laws.specs.Laws.{IsSoundRule}
use Rattle.process_steps.specs.Steps.{Decision, Keeps, Replaces}
use Rattle.net_core.specs.Standing.{Body, body_of}
use Rattle.rule_book.specs.declared.book.Book.{Book as KeptBook}
use Rattle.rule_book.specs.KeptBooks.{IsBookOf}
use Rattle.scope_leader.specs.Leaders.{TellsOthers}

-- what the entry of a scope shows of a decision
abbrev pub chosen_by : Decision → Chosen
chosen_by Keeps = chosen.Keep
chosen_by (Replaces name epoch part) = chosen.Rule name epoch

-- what the book's answer is, by the rule's body
abbrev pub choice_of_body : Option Body → BookChoice
choice_of_body None = KeepsBody
choice_of_body (Some body) = TakesRule body.name body.body

-- the book and the bodies are those of rules that may run
pub record KnownRules (cast : List Role) (book : KeptBook) (bodies : List Body) : Type 0 where
  pub rules : List PlainRule
  pub of : IsBookOf rules book
  pub same : bodies ≡ map body_of rules
  pub sound : All (IsSoundRule cast) rules

-- the role leads the scope that it begins, and tells the others that its head shows
abbrev pub Tells : List Role → LocalState → Act → Type 0
Tells cast local a =
    (lead : Lead) → acting_lead local a ≡ Some lead
    → TellsOthers cast local.role lead.head lead.others

-- What an accepted bundle is, in the words of the language.
use Rattle.std.specs.Prelude.{◌≡◌, ◌≤◌, ◌↔◌, List, [], ◌++◌, length, true, fold, All}
use Rattle.std.specs.List.{list_all}
use Rattle.dioc_terms.specs.declared.names.Role.{Role}
use Rattle.dioc_terms.specs.declared.values.Value.{Value}
use Rattle.dioc_terms.specs.declared.bundles.Timed.{Timed}
use Rattle.dioc_terms.specs.Bundles.{IsFormed}
use Rattle.dioc_terms.specs.Equality.{member}
use Rattle.limits.specs.Limits.{most_nodes, most_roles, most_rules, most_changes, most_body_nodes, most_body_depth}
use Rattle.dioc_terms.specs.Plain.{PlainRule, PlainBundle}
use Rattle.dioc_terms.specs.Rules.{Book, apply, opening_book}
use Rattle.dioc_terms.specs.Terms.{Term, mentions, self_messages, nodes, depth}
use Rattle.connectedness.specs.Connected.{connected}
use Rattle.rule_checks.specs.Refusals.{IsAccepted}

-- the book after these changes
abbrev pub book_after : PlainBundle → List Timed → Book
book_after b changes =
    fold (λ (book : Book) (timed : Timed). apply b.rules book timed.change)
    (opening_book b.rules b.opening b.env) changes

-- a body that may replace a scope of a choreography with this cast
pub record MayReplace (cast : List Role) (body : Term) : Type 0 where
  pub in_cast : list_all (λ q. member q cast) (mentions body) ≡ true
  pub no_self_message : self_messages body ≡ []
  pub connected : connected body ≡ true
  pub nodes : nodes body ≤ most_body_nodes
  pub depth : depth body ≤ most_body_depth

-- a formed bundle within the limits, whose inputs are for roles of the cast, whose choreography is
-- connected and has no role send to itself, and whose rules' bodies may replace its scopes
pub record MayRun (b : PlainBundle) : Type 0 where
  pub formed : IsFormed b
  pub nodes : nodes b.choreo ≤ most_nodes
  pub roles : length b.cast ≤ most_roles
  -- after each front of the script
  pub alive : (before rest : List Timed) → b.script ≡ before ++ rest
      → length (book_after b before).order ≤ most_rules
  pub changes : length b.script ≤ most_changes
  pub inputs : list_all (λ (given : Role × List Value). member given.0 b.cast) b.inputs ≡ true
  pub no_self_message : self_messages b.choreo ≡ []
  pub connected : connected b.choreo ≡ true
  pub bodies : All (λ (rule : PlainRule). MayReplace b.cast rule.body) b.rules

-- What is accepted may run, and what may run is accepted.
abbrev pub AcceptedMayRun : Type 0
AcceptedMayRun = (b : PlainBundle) → IsAccepted b ↔ MayRun b

-- Why a bundle may not run: the tests of a bundle in the order of its refusals. Each test has a
-- refusal or none, and the first refusal counts.
use Rattle.std.specs.Prelude.{◌≡◌, ℕ, max, List, [], ◌∷◌, ◌++◌, length, map, not, nat_lt, ◌||◌, Option, Some, None, if◌then◌else◌, find, slice_get}
use Rattle.dioc_terms.specs.declared.names.Role.{Role}
use Rattle.dioc_terms.specs.declared.names.Index.{Index}
use Rattle.dioc_terms.specs.declared.values.Value.{Value}
use Rattle.dioc_terms.specs.declared.bundles.Timed.{Timed}
use Rattle.dioc_terms.specs.Bundles.{IsFormed, numbers_from}
use Rattle.dioc_terms.specs.Equality.{member}
use Rattle.limits.specs.Limits.{most_nodes, most_roles, most_rules, most_changes, most_body_nodes, most_body_depth}
use Rattle.dioc_terms.specs.Plain.{PlainRule, PlainBundle}
use Rattle.dioc_terms.specs.Rules.{Book, apply, opening_book}
use Rattle.dioc_terms.specs.Terms.{Term, mentions, self_messages, nodes, depth}
use Rattle.connectedness.specs.Connected.{Gap, first_gap}
use Rattle.rule_checks.specs.declared.refusals.Refusal.{Refusal}
use Rattle.rule_checks.specs.declared.refusals.Refusal.TheVariants.{TooMany, UnknownRole, SelfMessage, Unlinked, BodyTooBig}
use Rattle.rule_checks.specs.declared.refusals.Where.{Where}
use Rattle.rule_checks.specs.declared.refusals.Where.TheVariants as place
use Rattle.rule_checks.specs.declared.refusals.Which.{Which}
use Rattle.rule_checks.specs.declared.refusals.Which.TheVariants.{Nodes, Roles, Rules, Changes}

-- the first refusal of a list of tests
abbrev pub first_refusal : List (Option Refusal) → Option Refusal
first_refusal [] = None
first_refusal (None ∷ rest) = first_refusal rest
first_refusal (Some refusal ∷ rest) = Some refusal

abbrev pub too_many : Which → ℕ → ℕ → Option Refusal
too_many which most count = if nat_lt most count then Some (TooMany which) else None

-- the greatest number of rules in the book, at its start and after each change of the script
abbrev pub most_alive : List PlainRule → Book → List Timed → ℕ
most_alive rules book [] = length book.order
most_alive rules book (timed ∷ rest) =
    max (length book.order) (most_alive rules (apply rules book timed.change) rest)

-- more rules in the book at once than there may be
abbrev pub too_many_alive : PlainBundle → Option Refusal
too_many_alive b =
    too_many Rules most_rules (most_alive b.rules (opening_book b.rules b.opening b.env) b.script)

-- the first of these roles that the cast lacks
abbrev pub unknown_role : Where → List Role → List Role → Option Refusal
unknown_role at cast roles = refused (find (λ q. not (member q cast)) roles)
  where
    refused : Option Role → Option Refusal
    refused None = None
    refused (Some q) = Some (UnknownRole at q)

-- the first interaction of a role with itself
abbrev pub self_message : Where → Term → Option Refusal
self_message at I = refused (self_messages I)
  where
    refused : List Index → Option Refusal
    refused [] = None
    refused (i ∷ rest) = Some (SelfMessage at i)

-- the first sequence that isn't linked
abbrev pub unlinked : Where → List Role → Term → Option Refusal
unlinked at cast I = refused (first_gap cast I)
  where
    refused : Option Gap → Option Refusal
    refused None = None
    refused (Some gap) = Some (Unlinked at gap.first gap.second gap.role)

-- more nodes than a body may have, or deeper than it may be
abbrev pub body_too_big : ℕ → Term → Option Refusal
body_too_big n I =
    if nat_lt most_body_nodes (nodes I) || nat_lt most_body_depth (depth I) then Some (BodyTooBig n)
    else None

-- the tests of rule n, by its body
abbrev pub body_tests : List Role → ℕ → Term → List (Option Refusal)
body_tests cast n body =
    unknown_role (place.Rule n) cast (mentions body) ∷
    self_message (place.Rule n) body ∷
    unlinked (place.Rule n) cast body ∷
    body_too_big n body ∷ []

-- the first refusal of rule n; a number past the rules has none
abbrev pub rule_refusal : PlainBundle → ℕ → Option Refusal
rule_refusal b n = of_rule (slice_get b.rules n)
  where
    of_rule : Option PlainRule → Option Refusal
    of_rule None = None
    of_rule (Some rule) = first_refusal (body_tests b.cast n rule.body)

-- the tests of the limits
abbrev pub limit_tests : PlainBundle → List (Option Refusal)
limit_tests b =
    too_many Nodes most_nodes (nodes b.choreo) ∷
    too_many Roles most_roles (length b.cast) ∷
    too_many_alive b ∷
    too_many Changes most_changes (length b.script) ∷ []

-- the tests of the inputs and of the choreography
abbrev pub program_tests : PlainBundle → List (Option Refusal)
program_tests b =
    unknown_role place.Program b.cast (map (λ (given : Role × List Value). given.0) b.inputs) ∷
    self_message place.Program b.choreo ∷
    unlinked place.Program b.cast b.choreo ∷ []

-- the tests of the rules, by their numbers: those of the `rules` sections, then the script's adds
abbrev pub rules_tests : PlainBundle → List (Option Refusal)
rules_tests b = map (rule_refusal b) (numbers_from 0 (length b.rules))

-- the tests of a bundle, in the order of its refusals
abbrev pub tests : PlainBundle → List (Option Refusal)
tests b = limit_tests b ++ (program_tests b ++ rules_tests b)

-- the first refusal of a bundle
abbrev pub refusal : PlainBundle → Option Refusal
refusal b = first_refusal (tests b)

-- a bundle that may run
pub record IsAccepted (b : PlainBundle) : Type 0 where
  pub formed : IsFormed b
  pub no_refusal : refusal b ≡ None

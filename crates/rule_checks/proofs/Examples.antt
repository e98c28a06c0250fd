-- Small bundles with their first refusals, computed.
use Rattle.std.proofs.Common.{◌≡◌, ℕ, List, [], ◌∷◌, true, Some, None, refl, pos}
use Rattle.std.specs.Prelude.{codes}
use Rattle.dioc_terms.specs.declared.names.Role.{Role}
use Rattle.dioc_terms.specs.declared.names.Index.{Index}
use Rattle.dioc_terms.specs.declared.values.Value.{Value}
use Rattle.dioc_terms.specs.declared.values.Value.TheVariants as value
use Rattle.dioc_terms.specs.declared.bundles.Change.{Change}
use Rattle.dioc_terms.specs.declared.bundles.Change.TheVariants as change
use Rattle.dioc_terms.specs.declared.bundles.Timed.{Timed}
use Rattle.dioc_terms.specs.Expressions.{Const}
use Rattle.dioc_terms.specs.Plain.{PlainRule, PlainBundle}
use Rattle.dioc_terms.specs.Rules.{opening_book}
use Rattle.dioc_terms.specs.Terms.{Term, Com, Set, Seq, Scope, cast_of, indexed}
use Rattle.rule_checks.specs.declared.refusals.Refusal.TheVariants.{UnknownRole, SelfMessage, Unlinked}
use Rattle.rule_checks.specs.declared.refusals.Where.TheVariants as place
use Rattle.rule_checks.specs.Refusals.{most_alive, refusal, rule_refusal}

abbrev role : List ℕ → Role
role name = record { 0 = name }

abbrev at : ℕ → Index
at place = record { epoch = 0; place = place }

-- `o: FROM(1) -> TO(x)`; the text gives the indices
abbrev sends : List ℕ → List ℕ → Term
sends from to = Com (at 0) (codes "o") (role from) (Const (value.Int (pos 1))) (role to) (codes "x")

-- `s@ROLE = 1`
abbrev sets : List ℕ → Term
sets r = Set (at 0) (codes "s") (role r) (Const (value.Int (pos 1)))

abbrev rule : List ℕ → Term → PlainRule
rule name body = record { name = name; priority = pos 0; cond = Const (value.Bool true); body = indexed body }

abbrev bundle : Term → List PlainRule → List (Role × List Value) → PlainBundle
bundle I rules inputs = record {
  version = 1;
  cast = cast_of I;
  choreo = indexed I;
  rules = rules;
  opening = 2;
  env = [];
  inputs = inputs;
  script = [];
  trace = record { entries = []; last = None };
}

fine : refusal (bundle (sends (codes "a") (codes "b")) [] []) ≡ None
fine = refl

to_oneself : refusal (bundle (sends (codes "a") (codes "a")) [] []) ≡ Some (SelfMessage place.Program (at 0))
to_oneself = refl

-- `o: a(1) -> c(x); o: b(1) -> c(x)`: b isn't in the group that ends the first part
unlinked : refusal (bundle (Seq (sends (codes "a") (codes "c")) (sends (codes "b") (codes "c"))) [] [])
    ≡ Some (Unlinked place.Program (at 0) (at 1) (role (codes "b")))
unlinked = refl

-- `scope @a { s@a = 1 }; o: c(1) -> a(x); scope @c { s@c = 1 }`: the outer sequence is the first that isn't linked
scopes_apart : refusal (bundle (Seq (Scope (at 0) (role (codes "a")) (sets (codes "a")) [] [] 0)
    (Seq (sends (codes "c") (codes "a")) (Scope (at 0) (role (codes "c")) (sets (codes "c")) [] [] 0))) [] [])
    ≡ Some (Unlinked place.Program (at 0) (at 2) (role (codes "c")))
scopes_apart = refl

-- the inputs come before the choreography, and a message to oneself before a sequence that isn't linked
inputs_first : refusal (bundle (sends (codes "a") (codes "a")) [] ((role (codes "z"), value.Nil ∷ []) ∷ []))
    ≡ Some (UnknownRole place.Program (role (codes "z")))
inputs_first = refl

message_first : refusal (bundle (Seq (sends (codes "a") (codes "c")) (sends (codes "b") (codes "b"))) [] []) ≡ Some (SelfMessage place.Program (at 1))
message_first = refl

-- the rules come last, rule by rule; of a rule the unknown role is first
abbrev ruled : PlainBundle
ruled = bundle (sends (codes "a") (codes "b")) (rule (codes "r") (sets (codes "a")) ∷ rule (codes "s") (Seq (sends (codes "a") (codes "a")) (sets (codes "c"))) ∷ []) []

rules_last : refusal ruled ≡ Some (UnknownRole (place.Rule 1) (role (codes "c")))
rules_last = refl

first_rule : rule_refusal ruled 0 ≡ None
first_rule = refl

past_the_rules : rule_refusal ruled 2 ≡ None
past_the_rules = refl

-- Rules in the book at once: r and s from the start, a second s that replaces the first, and t
abbrev rules : List PlainRule
rules = rule (codes "r") (sets (codes "a")) ∷ rule (codes "s") (sets (codes "a")) ∷ rule (codes "s") (sets (codes "a")) ∷ rule (codes "t") (sets (codes "a")) ∷ []

abbrev alive : List Change → ℕ
alive changes = most_alive rules (opening_book rules 2 []) (timed changes)
  where
    timed : List Change → List Timed
    timed [] = []
    timed (next ∷ rest) = record { after = 0; change = next } ∷ timed rest

none_added : alive (change.Drop (codes "r") ∷ []) ≡ 2
none_added = refl

one_replaced : alive (change.Add 2 ∷ change.Drop (codes "r") ∷ change.Add 3 ∷ []) ≡ 2
one_replaced = refl

one_between : alive (change.Add 2 ∷ change.Add 3 ∷ change.Drop (codes "t") ∷ change.Drop (codes "r") ∷ []) ≡ 3
one_between = refl

-- Words that stand inside others in `rule_checks`, written again so that proofs can name them.
use Rattle.std.proofs.Common.{◌≡◌, ℕ, List, [], ◌∷◌, Option, Some, None}
use Rattle.dioc_terms.specs.declared.names.Role.{Role}
use Rattle.dioc_terms.specs.declared.names.Index.{Index}
use Rattle.dioc_terms.specs.Plain.{PlainRule}
use Rattle.connectedness.specs.Connected.{Gap}
use Rattle.rule_checks.specs.declared.refusals.Refusal.{Refusal}
use Rattle.rule_checks.specs.declared.refusals.Refusal.TheVariants.{UnknownRole, SelfMessage, Unlinked}
use Rattle.rule_checks.specs.declared.refusals.Where.{Where}
use Rattle.rule_checks.specs.Refusals.{first_refusal, body_tests}

pub some_none : {A B : Type 0} {x : A} → Some x ≡ None → B
some_none h = cc

pub some_same : {A : Type 0} {x y : A} → Some x ≡ Some y → x ≡ y
some_same h = cc

abbrev pub role_refused : Where → Option Role → Option Refusal
role_refused at None = None
role_refused at (Some q) = Some (UnknownRole at q)

abbrev pub message_refused : Where → List Index → Option Refusal
message_refused at [] = None
message_refused at (i ∷ rest) = Some (SelfMessage at i)

abbrev pub gap_refused : Where → Option Gap → Option Refusal
gap_refused at None = None
gap_refused at (Some gap) = Some (Unlinked at gap.first gap.second gap.role)

abbrev pub rule_refused : List Role → ℕ → Option PlainRule → Option Refusal
rule_refused cast n None = None
rule_refused cast n (Some rule) = first_refusal (body_tests cast n rule.body)

-- What it means that nothing is wrong with a text.
use Rattle.std.specs.Prelude.{ℕ, List, Bool, true, false}
use Rattle.dioc_terms.specs.Plain.{PlainBundle}
use Rattle.bundle_text.specs.Grammar.{Spells}
use Rattle.rule_checks.specs.declared.refusals.Refusal.{Refusal}
use Rattle.rule_checks.specs.declared.refusals.Refusal.TheVariants as why
use Rattle.rule_checks.specs.Refusals.{IsAccepted}

-- the bytes spell a bundle, and it is accepted
pub record IsSound (bytes : List ℕ) : Type 0 where
  pub bundle : PlainBundle
  pub spells : Spells bytes bundle
  pub accepted : IsAccepted bundle

-- the answer of `accept` says nothing of the bundle
abbrev pub is_memory : Refusal → Bool
is_memory why.Memory = true
is_memory _ = false

-- What mending a bundle asks of its texts, what it puts in their place, and which refusals come
-- before it.
use Rattle.std.specs.Prelude.{◌≡◌, ℕ, List, [], ◌∷◌, Bool, true, false, Option, Some, None, slice_get}
use Rattle.dioc_terms.specs.declared.names.Role.{Role}
use Rattle.dioc_terms.specs.Plain.{PlainRule, PlainBundle}
use Rattle.dioc_terms.specs.Terms.{Term, cast_of, indexed, self_messages}
use Rattle.connectedness.specs.Laws.{HasRoles}
use Rattle.mend.specs.Names.{taken_name}
use Rattle.mend.specs.Traces.{mended_rule}
use Rattle.rule_checks.specs.declared.refusals.Refusal.{Refusal}
use Rattle.rule_checks.specs.declared.refusals.Refusal.TheVariants.{TooMany, UnknownRole, SelfMessage, Unlinked, Memory}
use Rattle.rule_checks.specs.declared.refusals.Where.TheVariants as place

-- a text that may be mended over the cast
pub record IsMendableText (cast : List Role) (I : Term) : Type 0 where
  pub marks : I ≡ indexed I
  pub in_cast : HasRoles cast I
  pub no_self_message : self_messages I ≡ []
  pub free : taken_name I ≡ None

-- each rule's body may be
abbrev pub AreMendableBodies : PlainBundle → Type 0
AreMendableBodies b =
    (n : ℕ) (rule : PlainRule) → slice_get b.rules n ≡ Some rule → IsMendableText b.cast rule.body

-- the mended rule of that number; none past the rules
abbrev pub mended_at : PlainBundle → ℕ → List PlainRule
mended_at b n = of_rule (slice_get b.rules n)
  where
    of_rule : Option PlainRule → List PlainRule
    of_rule None = []
    of_rule (Some rule) = mended_rule b.cast rule ∷ []

-- the bundle with another choreography and other rules, and with the choreography's cast
abbrev pub remade : PlainBundle → Term → List PlainRule → PlainBundle
remade b I rules = record b { cast = cast_of I; choreo = I; rules = rules }

-- whether a refusal is of a test of the program other than whether it is connected, or for want of
-- memory
abbrev pub comes_before_links : Refusal → Bool
comes_before_links (TooMany which) = true
comes_before_links (UnknownRole place.Program q) = true
comes_before_links (SelfMessage place.Program i) = true
comes_before_links Memory = true
comes_before_links _ = false

-- whether a refusal is for a sequence that isn't linked
abbrev pub is_link : Refusal → Bool
is_link (Unlinked at i j q) = true
is_link _ = false

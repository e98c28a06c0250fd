-- What the error of a call says of the test that the call makes.
use Rattle.std.specs.Prelude.{◌≡◌, ◌≢◌, Option, Some}
use Rattle.rule_checks.specs.declared.refusals.Refusal.{Refusal}
use Rattle.rule_checks.specs.declared.refusals.Refusal.TheVariants.{Memory}

-- it is the refusal of the test; want of memory says nothing
abbrev pub IsRefusalOf : Option Refusal → Refusal → Type 0
IsRefusalOf test why = why ≢ Memory → test ≡ Some why

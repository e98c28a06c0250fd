-- What holds of made bundles.
use Rattle.std.specs.Prelude.{ℕ, ◌≤◌}
use Rattle.rule_checks.specs.Refusals.{IsAccepted}
use Rattle.load_gen.specs.Made.{made}

-- each may run
abbrev pub MadeAreAccepted : Type 0
MadeAreAccepted = (seed size : ℕ) → 1 ≤ size → size ≤ 400 → IsAccepted (made seed size)

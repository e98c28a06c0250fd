-- How a call ends.
use Rattle.std.specs.Prelude.{ℕ}
use Rattle.diagnostics.specs.declared.calls.Status.{Status}
use Rattle.diagnostics.specs.declared.calls.Status.TheVariants as status

-- the exit code
abbrev pub status_code : Status → ℕ
status_code status.Sound = 0
status_code status.Told = 1
status_code status.Unusable = 2
status_code status.Write = 4
status_code status.Memory = 10

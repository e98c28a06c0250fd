-- How much of a process a step may have to look through: its sequences and parallels.
use Rattle.std.specs.Prelude.{ℕ, suc, ◌+◌}
use Rattle.dioc_terms.specs.Processes.{Process, Seq, Par}

abbrev pub joins : Process → ℕ
joins (Seq P Q) = suc (joins P + joins Q)
joins (Par P Q) = suc (joins P + joins Q)
joins _ = 0

use Rattle.dioc_terms.specs.Processes.{process}
use Rattle.dpoc_process.proofs.Sizes.{joins}
use Rattle.dpoc_process.proofs.changes.+replaced.Given as goal

abbrev pub decreases-replaced : goal.decreases-replaced
decreases-replaced l = joins (process l.proc)

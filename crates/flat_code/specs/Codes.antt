-- The process that code stands for.
use Rattle.dioc_terms.specs.Processes.{Process}
use Rattle.flat_code.specs.declared.code.Code.{Code}
use Rattle.flat_code.specs.Places.{at, processes}

abbrev pub process_of : Code → Process
process_of code = at (processes code.ops.items) code.start

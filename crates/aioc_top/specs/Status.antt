-- The exit code of each status.
use Rattle.std.specs.Prelude.{ℕ}
use Rattle.aioc_top.specs.declared.status.Status.{Status}
use Rattle.aioc_top.specs.declared.status.Status.TheVariants.{Done, Usage, ReadFault, WriteFault, TooLong, Syntax, Refused, Limit, No, Memory}

abbrev pub code_of : Status → ℕ
code_of Done = 0
code_of Usage = 2
code_of ReadFault = 3
code_of WriteFault = 4
code_of TooLong = 5
code_of Syntax = 6
code_of Refused = 7
code_of Limit = 8
code_of No = 9
code_of Memory = 10

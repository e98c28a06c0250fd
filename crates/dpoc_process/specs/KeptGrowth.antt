-- What a program's values of what was made ready stand for.
use Rattle.dioc_terms.specs.Processes.{process}
use Rattle.dpoc_process.specs.declared.growth.Growth.{Growth as KeptGrowth}
use Rattle.dpoc_process.specs.declared.growth.Growth.TheVariants as kept
use Rattle.dpoc_process.specs.declared.growth.Write.{Write as KeptWrite}
use Rattle.dpoc_process.specs.declared.growth.Write.TheVariants as kept_write
use Rattle.dpoc_process.specs.Growth.{Growth, Certain, ByFlag, Looping, Leading, Following, Write, Nothing, Keeps, Sets, Reads}
use Rattle.dpoc_process.specs.KeptChanges.{part_change}

abbrev pub growth_of : KeptGrowth → Growth
growth_of (kept.Certain c) = Certain (part_change c)
growth_of (kept.ByFlag hole) = ByFlag
growth_of (kept.Looping turn) = Looping (process turn.body.value) (process turn.last.value)
growth_of (kept.Leading at own) = Leading (process at.first.value) (process at.last.value)
growth_of (kept.Following at own) = Following (process at.last.value)

abbrev pub write_of : KeptWrite → Write
write_of kept_write.Nothing = Nothing
write_of (kept_write.Keeps x) = Keeps x
write_of (kept_write.Sets x v) = Sets x v
write_of (kept_write.Reads x) = Reads x

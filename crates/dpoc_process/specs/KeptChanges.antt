-- The change that a program's value stands for.
use Rattle.dioc_terms.specs.Processes.{process}
use Rattle.dpoc_process.specs.declared.changes.Change.{Change as KeptChange}
use Rattle.dpoc_process.specs.declared.changes.Change.TheVariants as kept
use Rattle.dpoc_process.specs.Changes.{Change, Becomes, Rest, Branches, Turns, Enters}

abbrev pub part_change : KeptChange → Change
part_change (kept.Becomes P) = Becomes (process P)
part_change kept.Rest = Rest
part_change (kept.Branches first b) = Branches (process first.value) b
part_change (kept.Turns turn) = Turns (process turn.first.value) (process turn.body.value)
    (process turn.last.value)
part_change (kept.Enters entrance) = Enters (process entrance.first.value)
    (process entrance.last.value)

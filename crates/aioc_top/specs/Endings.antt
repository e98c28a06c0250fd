-- How the end of a run of the machine is told.
use Rattle.schedule.specs.declared.runs.Finish.{Finish}
use Rattle.schedule.specs.declared.runs.Finish.TheVariants as finish
use Rattle.aioc_top.specs.declared.replies.End.{End}
use Rattle.aioc_top.specs.declared.replies.End.TheVariants as end

abbrev pub end_of : Finish → End
end_of finish.Ended = end.Done
end_of finish.Limit = end.Limit

use Rattle.stage.proofs.Runs as runs
use Rattle.stage.proofs.laws.others_leave_alone.Goals as goal

pub returns : goal.returns
returns c = runs.others_leave_alone

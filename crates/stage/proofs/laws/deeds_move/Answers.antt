use Rattle.stage.proofs.Runs as runs
use Rattle.stage.proofs.laws.deeds_move.Goals as goal

pub returns : goal.returns
returns c = runs.deeds_move

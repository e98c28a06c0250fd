use Rattle.marked_laws.proofs.Extension.{extensions}
use Rattle.marked_laws.proofs.laws.runs_extend.Goals as goal

pub returns : goal.returns
returns c = extensions

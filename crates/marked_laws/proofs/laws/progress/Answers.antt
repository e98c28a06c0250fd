use Rattle.marked_laws.proofs.Whole.{progress}
use Rattle.marked_laws.proofs.laws.progress.Goals as goal

pub returns : goal.returns
returns c = progress c.term_laws.ensures

use Rattle.marked_laws.proofs.Whole.{unique_keys}
use Rattle.marked_laws.proofs.laws.unique_keys.Goals as goal

pub returns : goal.returns
returns c = unique_keys c.term_laws.ensures

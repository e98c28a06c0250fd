use Rattle.dpoc_process.proofs.LeafLemmas.{prepared-is_done}
use Rattle.dpoc_process.proofs.laws.prepared_is_done.Goals as goal

pub returns : goal.returns
returns c = prepared-is_done

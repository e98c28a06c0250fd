use Rattle.bundle_layout.proofs.Unique.{one_list}
use Rattle.bundle_layout.proofs.laws.one_list_of_pieces.Goals as goal

pub returns : goal.returns
returns c = one_list

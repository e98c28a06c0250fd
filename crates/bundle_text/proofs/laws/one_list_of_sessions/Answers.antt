use Rattle.bundle_text.proofs.SessionLists.{one_list}
use Rattle.bundle_text.proofs.laws.one_list_of_sessions.Goals as goal

pub returns : goal.returns
returns c = one_list

use Rattle.bundle_text.proofs.Begins.{no_sessions}
use Rattle.bundle_text.proofs.laws.no_sessions_begin_so.Goals as goal

pub returns : goal.returns
returns c = no_sessions

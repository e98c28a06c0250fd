use Rattle.bundle_text.proofs.SectionsThrough.{sessions_go}
use Rattle.bundle_text.proofs.laws.sessions_go_through.Goals as goal

pub returns : goal.returns
returns c = sessions_go

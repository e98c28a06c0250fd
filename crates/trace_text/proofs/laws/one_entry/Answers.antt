use Rattle.trace_text.proofs.LinesAgain.{one_entry}
use Rattle.trace_text.proofs.laws.one_entry.Goals as goal

pub returns : goal.returns
returns c = one_entry

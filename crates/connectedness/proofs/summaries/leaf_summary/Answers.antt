use Rattle.std.proofs.Common.{rules}
use Rattle.connectedness.proofs.summaries.leaf_summary.Goals as goal

pub returns-in-Com : goal.returns-in-Com
returns-in-Com c = search rules depth 2

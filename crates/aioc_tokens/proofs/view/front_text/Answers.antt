use Rattle.std.proofs.Common.{sym}
use Rattle.aioc_tokens.proofs.Packing.{text_front}
use Rattle.aioc_tokens.proofs.view.front_text.Goals as goal

pub returns-clause-value : goal.returns-clause-value
returns-clause-value c = sym (text_front c.args.from.now c.in-Some.count c.in-Some.ensures)

use Rattle.trace_text.proofs.JsonTexts.{printable_utf8}
use Rattle.trace_text.proofs.json_lines.put_text.Goals as goal

pub unreachable-requires : goal.unreachable-requires
unreachable-requires c = (c.in-Err.ensures.cases).0 (printable_utf8 c.args.text.now c.requires)

use Rattle.std.proofs.Common.{◌∙◌, ap}
use Rattle.std.specs.List.{list_all}
use Rattle.aioc_tokens.specs.Tokens.{is_printable}
use Rattle.trace_text.proofs.JsonTexts.{name_printable}
use Rattle.trace_text.proofs.json_lines.put_name.Goals as goal

pub put_text-requires : goal.put_text-requires
put_text-requires c = ap (list_all is_printable) c.bytes.ensures.value ∙ name_printable c.args.name.now c.bytes.ensures.valid

use Rattle.std.proofs.Common.{◌∙◌, codes, decimal, ap, arith}
use Rattle.std.specs.List.{list_all}
use Rattle.aioc_tokens.specs.Tokens.{is_printable}
use Rattle.trace_text.proofs.JsonTexts.{two_pieces, part_printable}
use Rattle.trace_text.proofs.json_lines.put_part.Goals as goal

pub put_text-requires : goal.put_text-requires
put_text-requires c =
    let text = c.deref.ensures.value ∙ two_pieces c.new-text.result.items (codes "part ") (decimal c.from.result) c.write_bytes.new.out.items c.write_number.new.out.items
    c.new-text.ensures.items c.in_ok-write_bytes.ensures.ok c.in_ok-write_number.ensures.ok in
    ap (list_all is_printable) text ∙ part_printable c.from.result (omega (arith, c.from.type_inv))

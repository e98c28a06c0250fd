use Rattle.std.proofs.Common.{◌∙◌, codes, decimal, ap, arith}
use Rattle.std.specs.List.{list_all}
use Rattle.aioc_tokens.specs.Tokens.{is_printable}
use Rattle.trace_text.proofs.JsonTexts.{three_pieces, index_printable}
use Rattle.trace_text.proofs.json_lines.put_index.Goals as goal

pub put_text-requires : goal.put_text-requires
put_text-requires c =
    let text = c.deref.ensures.value ∙ three_pieces c.new-text.result.items (decimal c.from.result) (codes ".") (decimal c.from-2.result) c.write_number.new.out.items c.write_bytes.new.out.items c.write_number-2.new.out.items
    c.new-text.ensures.items c.in_ok-write_number.ensures.ok c.in_ok-write_bytes.ensures.ok c.in_ok-write_number-2.ensures.ok in
    ap (list_all is_printable) text ∙ index_printable c.from.result c.from-2.result (omega (arith, c.from.type_inv)) (omega (arith, c.from-2.type_inv))

use Rattle.std.proofs.Common.{ap, sym, ◌∙◌}
use Rattle.std.proofs.lemmas.Option.{get_or_from_slice_get, slice_get_within}
use Rattle.aioc_tokens.specs.Tokens.{is_space, comment}
use Rattle.aioc_tokens.proofs.Blanks.{space_blank}
use Rattle.aioc_tokens.proofs.scan.blank_length.Goals as goal

pub returns-then-begins_comment : goal.returns-then-begins_comment
returns-then-begins_comment c = comment (c.begins_comment.ensures.0 c.if-begins_comment.true) c.line_length.ensures

pub returns-in-Some : goal.returns-in-Some
returns-in-Some c =
    let text = c.args.text.now in
    let first = sym (c.in-Some.ensures.value) in
    space_blank text (slice_get_within text 0 _ first) (ap is_space (get_or_from_slice_get text 0 _ 0 first) ∙ sym c.is_space.ensures ∙ c.if-is_space.true)

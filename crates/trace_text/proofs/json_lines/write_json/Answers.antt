use Rattle.std.proofs.Common.{◌++◌, ◌∙◌, ap}
use Rattle.trace_text.proofs.json_lines.write_json.Goals as goal

pub returns-clause-ok : goal.returns-clause-ok
returns-clause-ok c = λ text is.
    c.in_ok-extend_from_slice.ensures.items ∙ ap (λ written. c.args.out.now.items ++ written) (c.deref.ensures.value ∙ c.in_ok-text.ensures.text is.no_float ∙ is.text_is)

use Rattle.std.proofs.Common.{sym, subst}
use Rattle.std.proofs.lemmas.Result.{on_ok_weaker}
use Rattle.serde_json.specs.View.{view}
use Rattle.aioc_tokens.specs.Tokens.{quoted}
use Rattle.trace_text.specs.JsonValues.{IsJsonText}
use Rattle.trace_text.proofs.JsonTexts.{string_is}
use Rattle.trace_text.proofs.json_lines.put_word.Goals as goal

pub returns : goal.returns
returns c =
    let word = c.args.word.now in
    let is : IsJsonText (view c.in_ok-try_from_str.field-0) (quoted word) = subst (λ seen. IsJsonText seen (quoted word)) (sym c.in_ok-try_from_str.ensures) (string_is word c.requires) in
    on_ok_weaker c.put_json.result (λ puts. puts (quoted word) is) c.put_json.ensures

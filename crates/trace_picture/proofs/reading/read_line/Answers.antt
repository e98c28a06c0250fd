-- Why a line is refused: the facts that its reading ends with.
use Rattle.std.proofs.Common.{rules, ◌≡◌, ◌∙◌, ◌+◌, ◌<◌, ◌++◌, length, drop, codes, Err, ap, subst, arith, length-drop}
use Rattle.aioc_tokens.specs.Lexing.{Breaks}
use Rattle.aioc_tokens.specs.Lexemes.{HasLexemes}
use Rattle.trace_picture.specs.Reading.{no_token, no_entry, no_end}
use Rattle.trace_picture.proofs.reading.read_line.Goals as goal

pub returns-in-Err-BadByte-clause-bad : goal.returns-in-Err-BadByte-clause-bad
returns-in-Err-BadByte-clause-bad c = λ is.
    let closed : c.deref.result.now ≡ c.args.line.now ++ codes "\n}" = search rules in
    let found = c.tokens.ensures.bad c.in-Err-BadByte.field-0-0 (c.in-Err-BadByte.is ∙ ap Err c.in-Err-BadByte.field-0-is) in
    no_token (subst (λ bytes. Breaks 0 bytes c.in-Err-BadByte.field-0-0) closed found)

pub returns-in-Err-BadLine-clause-bad : goal.returns-in-Err-BadLine-clause-bad
returns-in-Err-BadLine-clause-bad c = λ is.
    let has : HasLexemes (c.args.line.now ++ codes "\n}") c.new-text.result = search rules in
    no_entry has (c.trace_at.ensures.bad _ (c.in-Err-BadLine.is ∙ ap Err c.in-Err-BadLine.field-0-is))

pub returns-then-at-len-clause-bad : goal.returns-then-at-len-clause-bad
returns-then-at-len-clause-bad c = λ is.
    let has : HasLexemes (c.args.line.now ++ codes "\n}") c.new-text.result = search rules in
    let passed : c.in-Ok-trace_at.read.1 + 1 < length c.new-text.result = search rules in
    let size = length-drop c.in-Ok-trace_at.read.1 c.new-text.result in
    let more : 1 < length (drop c.in-Ok-trace_at.read.1 c.new-text.result) = omega arith in
    no_end has c.in-Ok-trace_at.ensures.found more

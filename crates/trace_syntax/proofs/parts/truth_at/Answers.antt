use Rattle.std.proofs.Common.{true, false}
use Rattle.aioc_tokens.specs.declared.words.Word.TheVariants as word
use Rattle.aioc_tokens.specs.Lexemes.{Reserved}
use Rattle.aioc_tokens.proofs.Places.{reserved_at}
use Rattle.trace_syntax.specs.Reading.{first_truth}
use Rattle.trace_syntax.proofs.Fronts.{true_found, false_found, found_here}
use Rattle.trace_syntax.proofs.parts.truth_at.Goals as goal

pub returns-in-Reserved-True : goal.returns-in-Reserved-True
returns-in-Reserved-True c =
    let here = c.in-Reserved-True in
    found_here c.args.text.now c.args.at first_truth (Reserved word.True) true (reserved_at c.args.text.now c.args.at here.field-0 word.True here.ensures.value here.field-0-is) (true_found _)

pub returns-in-Reserved-False : goal.returns-in-Reserved-False
returns-in-Reserved-False c =
    let here = c.in-Reserved-False in
    found_here c.args.text.now c.args.at first_truth (Reserved word.False) false (reserved_at c.args.text.now c.args.at here.field-0 word.False here.ensures.value here.field-0-is) (false_found _)

use Rattle.std.proofs.Common.{◌∙◌, map}
use Rattle.std.proofs.lemmas.Result.{IfOk-weaker}
use Rattle.command_words.proofs.Readings.{command_here}
use Rattle.command_words.proofs.reading.command_by.Goals as goal

pub returns-in-Some : goal.returns-in-Some
returns-in-Some c =
    let words = map (λ word. word.now) c.args.words.now in
    let splits = rw c.in-Some.is at c.in_ok-matches.ensures in
    IfOk-weaker c.command_with.result _ _ (λ asked is. is ∙ command_here c.args.verb words c.in-Some.matches splits) c.command_with.ensures

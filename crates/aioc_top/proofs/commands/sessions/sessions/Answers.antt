-- The texts that the workers wrote, one behind another, are the text of the sessions.
use Rattle.std.proofs.Common.{rules, ◌∙◌, ap}
use Rattle.std.specs.Prelude.{map}
use Rattle.dioc_terms.specs.Plain.{plain}
use Rattle.session_pool.specs.Answers.{answers_of}
use Rattle.aioc_top.specs.Texts.{joined}
use Rattle.aioc_top.proofs.Texts.{joined_sessions}
use Rattle.aioc_top.proofs.commands.sessions.sessions.Goals as goal

pub returns : goal.returns
returns g c =
    let all = c.in_ok-text.ensures ∙ ap joined c.in_ok-texts.ensures.made ∙ joined_sessions 0 (answers_of c.args.options.now.seed c.args.options.now.steps (map plain c.args.bundles.now)) in
    search rules

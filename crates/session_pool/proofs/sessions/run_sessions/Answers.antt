-- An answer is made of itself.
use Rattle.std.proofs.Common.{◌∙◌, map}
use Rattle.dioc_terms.specs.Plain.{plain}
use Rattle.session_pool.specs.Answers.{answers_of}
use Rattle.session_pool.proofs.Lists.{numbered_same, ok_then}
use Rattle.session_pool.proofs.sessions.run_sessions.Goals as goal

pub returns : goal.returns
returns g c = record { answers = ok_then c.run_sessions_as.result (λ answers are. are ∙ numbered_same 0 (answers_of c.args.seed c.args.limit (map plain c.args.bundles.now))) c.run_sessions_as.ensures.made }

use Rattle.session_pool.proofs.answers.answer_of_run.Goals as goal

pub returns : goal.returns
returns c = cc

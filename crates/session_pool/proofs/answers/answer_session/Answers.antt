use Rattle.session_pool.proofs.answers.answer_session.Goals as goal

pub returns-in-Err-Memory : goal.returns-in-Err-Memory
returns-in-Err-Memory c = assumption

use Rattle.net_core.proofs.parts.is_there.Goals as goal

pub returns-in-Take : goal.returns-in-Take
returns-in-Take c = cc

use Rattle.dpoc_process.proofs.changes.within.Goals as goal

pub returns : goal.returns
returns c = cc

use Rattle.mend.proofs.ends.are_empty.Goals as goal

pub returns-then-is_empty : goal.returns-then-is_empty
returns-then-is_empty c = cc

pub returns-else-is_empty : goal.returns-else-is_empty
returns-else-is_empty c = cc

use Rattle.schedule.proofs.numbers.move_place.Goals as goal

pub returns-in-None-clause-place : goal.returns-in-None-clause-place
returns-in-None-clause-place c = cc

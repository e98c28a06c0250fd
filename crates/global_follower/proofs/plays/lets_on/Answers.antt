use Rattle.global_follower.proofs.plays.lets_on.Goals as goal

pub returns-then-is_light : goal.returns-then-is_light
returns-then-is_light c = cc

pub returns-else-is_light : goal.returns-else-is_light
returns-else-is_light c = cc

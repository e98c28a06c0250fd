-- What a goal makes of a token.
use Rattle.std.specs.Prelude.{List, [], ◌∷◌, ◌++◌, Option, Some, None}
use Rattle.wanted_tokens.specs.declared.goals.Goal.{Goal}
use Rattle.wanted_tokens.specs.declared.takings.Taking.{Taking}
use Rattle.wanted_tokens.specs.declared.takings.Taking.TheVariants as taking

pub data GoalEffect : Type 0 where
  -- the token is taken, and then these are wanted in the goal's place, in their order
  Takes : List Goal → GoalEffect
  -- the goal is reached without the token, which is for the next one
  Passes : GoalEffect
  -- the token isn't wanted
  Stops : GoalEffect

abbrev pub listed : Option Goal → List Goal
listed None = []
listed (Some goal) = goal ∷ []

-- what the program's answer stands for
abbrev pub effect : Taking → GoalEffect
effect (taking.Takes wanted last) = Takes (wanted.now ++ listed last)
effect taking.Passes = Passes
effect taking.Stops = Stops

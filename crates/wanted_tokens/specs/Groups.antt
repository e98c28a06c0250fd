-- What goals are of, from the smallest parts of a text on.
use Rattle.std.specs.Prelude.{Bool, true, false, ◌&&◌, not}
use Rattle.wanted_tokens.specs.declared.goals.Goal.{Goal}
use Rattle.wanted_tokens.specs.declared.goals.Goal.TheVariants as goal

-- more than one token and more than an expression
abbrev pub is_part : Goal → Bool
is_part (goal.Symbol wanted) = false
is_part (goal.Reserved wanted) = false
is_part goal.Name = false
is_part (goal.Number most) = false
is_part goal.Done = false
is_part goal.As = false
is_part goal.Truth = false
is_part goal.Two = false
is_part goal.Value = false
is_part goal.MoreValues = false
is_part (goal.Expression kind) = false
is_part (goal.Operand kind comparable) = false
is_part (goal.Negated kind comparable) = false
is_part (goal.MoreOperands kind comparable) = false
is_part larger = true

-- of a choreography
abbrev pub is_of_choreography : Goal → Bool
is_of_choreography goal.Step = true
is_of_choreography goal.StepBehindName = true
is_of_choreography goal.Assigned = true
is_of_choreography goal.MoreSteps = true
is_of_choreography goal.NextStep = true
is_of_choreography goal.MoreParts = true
is_of_choreography goal.Otherwise = true
is_of_choreography goal.ExtraRoles = true
is_of_choreography goal.MoreNames = true
is_of_choreography goal.Properties = true
is_of_choreography goal.FirstProperty = true
is_of_choreography goal.MoreProperties = true
is_of_choreography other = false

-- a section of a bundle, or a part of one that is in no choreography and in no expression
abbrev pub is_of_section : Goal → Bool
is_of_section goal = is_part goal && not (is_of_choreography goal)

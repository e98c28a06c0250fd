-- Traces: what each goal makes of a token.
use Rattle.std.specs.Prelude.{List, [], ◌∷◌, ◌++◌, Some}
use Rattle.limits.specs.Limits.{greatest_place}
use Rattle.expr_syntax.specs.Constants.{greatest}
use Rattle.aioc_tokens.specs.declared.words.Word.TheVariants as word
use Rattle.aioc_tokens.specs.declared.words.Punctuator.TheVariants as punctuator
use Rattle.wanted_tokens.specs.declared.looks.PlaceWord.{PlaceWord}
use Rattle.wanted_tokens.specs.declared.looks.PlaceWord.TheVariants as place
use Rattle.wanted_tokens.specs.declared.looks.Look.{Look}
use Rattle.wanted_tokens.specs.declared.looks.Look.TheVariants as looks
use Rattle.wanted_tokens.specs.declared.goals.Goal.{Goal}
use Rattle.wanted_tokens.specs.declared.goals.Goal.TheVariants as goal
use Rattle.wanted_tokens.specs.Goals.{equal, at_sign, arrow_sign, dot, hash}
use Rattle.wanted_tokens.specs.Takings.{GoalEffect, Takes, Passes, Stops}

-- an index: "#" number "." number
abbrev pub index_goals : List Goal
index_goals = hash ∷ goal.Number greatest_place ∷ dot ∷ goal.Number greatest_place ∷ []

-- a message's sender and receiver: name "->" name
abbrev pub ends : List Goal
ends = goal.Name ∷ arrow_sign ∷ goal.Name ∷ []

-- what a line sets: name "@" name index "=" value
abbrev pub setting_goals : List Goal
setting_goals = goal.Name ∷ at_sign ∷ goal.Name ∷ index_goals ++ equal ∷ goal.Value ∷ []

-- the lines of entries, and a last line, behind which no other one stands
abbrev pub name_line : PlaceWord → GoalEffect
name_line place.Put = Takes (ends ++ goal.TagOfPut ∷ goal.Lines ∷ [])
name_line place.Take = Takes (ends ++ goal.TagOfTake ∷ goal.Lines ∷ [])
name_line place.Set = Takes (setting_goals ++ goal.Lines ∷ [])
name_line place.Pick = Takes (goal.Name ∷ index_goals ++ goal.Truth ∷ goal.Lines ∷ [])
name_line place.Add = Takes (goal.Name ∷ goal.Lines ∷ [])
name_line place.Drop = Takes (goal.Name ∷ goal.Lines ∷ [])
name_line place.Env = Takes (goal.Name ∷ equal ∷ goal.Value ∷ goal.Lines ∷ [])
name_line place.Ended = Takes (goal.Number greatest ∷ [])
name_line place.Stopped = Takes (goal.Number greatest ∷ [])
name_line _ = Passes

abbrev pub take_lines : Look → GoalEffect
take_lines (looks.Name (Some word)) = name_line word
take_lines (looks.Reserved word.Input) = Takes (setting_goals ++ goal.Lines ∷ [])
take_lines (looks.Reserved word.Scope) =
    Takes (goal.Name ∷ index_goals ++ goal.Chosen ∷ goal.Lines ∷ [])
take_lines _ = Passes

-- an operation with what is wanted behind it, or a `!` with what is wanted behind that
abbrev pub tag : List Goal → List Goal → Look → GoalEffect
tag named auxiliary (looks.Name word) = Takes named
tag named auxiliary (looks.Symbol punctuator.Bang) = Takes auxiliary
tag named auxiliary _ = Stops

-- an operation with its value, or an auxiliary tag with the payload that fits it
abbrev pub tag_of_put : Look → GoalEffect
tag_of_put look = tag (index_goals ++ equal ∷ goal.Value ∷ []) (goal.AuxiliaryOfPut ∷ []) look

abbrev pub auxiliary_word : PlaceWord → GoalEffect
auxiliary_word place.Choice = Takes (index_goals ++ equal ∷ goal.Truth ∷ [])
auxiliary_word place.Go = Takes (index_goals ++ equal ∷ goal.Truth ∷ [])
auxiliary_word place.Turn = Takes (index_goals ++ equal ∷ goal.Done ∷ [])
auxiliary_word place.End = Takes (index_goals ++ equal ∷ goal.Done ∷ [])
auxiliary_word place.Out = Takes (index_goals ++ equal ∷ goal.Done ∷ [])
auxiliary_word place.Begin = Takes (index_goals ++ equal ∷ goal.Begun ∷ [])
auxiliary_word _ = Stops

abbrev pub auxiliary_of_put : Look → GoalEffect
auxiliary_of_put (looks.Name (Some word)) = auxiliary_word word
auxiliary_of_put _ = Stops

-- "keep" | "part" number
abbrev pub begun : Look → GoalEffect
begun (looks.Name (Some place.Keep)) = Takes []
begun (looks.Name (Some place.Part)) = Takes (goal.Number greatest_place ∷ [])
begun _ = Stops

-- an operation with its variable, or an auxiliary tag
abbrev pub tag_of_take : Look → GoalEffect
tag_of_take look = tag (index_goals ++ goal.Name ∷ []) (goal.AuxiliaryOfTake ∷ []) look

abbrev pub auxiliary_of_take : Look → GoalEffect
auxiliary_of_take (looks.Name (Some place.Choice)) = Takes index_goals
auxiliary_of_take (looks.Name (Some place.Go)) = Takes index_goals
auxiliary_of_take (looks.Name (Some place.Turn)) = Takes index_goals
auxiliary_of_take (looks.Name (Some place.Begin)) = Takes index_goals
auxiliary_of_take (looks.Name (Some place.End)) = Takes index_goals
auxiliary_of_take (looks.Name (Some place.Out)) = Takes index_goals
auxiliary_of_take _ = Stops

-- "keep" | "rule" name "as" number
abbrev pub chosen : Look → GoalEffect
chosen (looks.Name (Some place.Keep)) = Takes []
chosen (looks.Reserved word.Rule) =
    Takes (goal.Name ∷ goal.As ∷ goal.Number greatest_place ∷ [])
chosen _ = Stops

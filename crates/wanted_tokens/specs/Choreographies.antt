-- Choreographies: what each goal makes of a token.
use Rattle.std.specs.Prelude.{Bool, true, List, [], ◌∷◌, ◌++◌, Some}
use Rattle.aioc_tokens.specs.declared.words.Word.TheVariants as word
use Rattle.aioc_tokens.specs.declared.words.Punctuator.TheVariants as punctuator
use Rattle.expr_syntax.specs.declared.levels.ExprKind.TheVariants as kinds
use Rattle.wanted_tokens.specs.declared.looks.PlaceWord.TheVariants as place
use Rattle.wanted_tokens.specs.declared.looks.Look.{Look}
use Rattle.wanted_tokens.specs.declared.looks.Look.TheVariants as looks
use Rattle.wanted_tokens.specs.declared.goals.Goal.{Goal}
use Rattle.wanted_tokens.specs.declared.goals.Goal.TheVariants as goal
use Rattle.wanted_tokens.specs.Goals.{left_brace, right_brace, left_paren, right_paren, equal, at_sign, arrow_sign, dot, n_word}
use Rattle.wanted_tokens.specs.Takings.{GoalEffect, Takes, Passes, Stops}
use Rattle.wanted_tokens.specs.Expressions.{take_expression}

-- "{" choreo "}"
abbrev pub block_goals : List Goal
block_goals = left_brace ∷ goal.Step ∷ goal.MoreSteps ∷ goal.MoreParts ∷ right_brace ∷ []

-- a step that begins with a reserved word or a bracket, behind that:
--   step = "skip"
--        | "if" expr "@" name "{" choreo "}" [ "else" "{" choreo "}" ]
--        | "while" expr "@" name "{" choreo "}"
--        | "scope" "@" name "{" choreo "}"
--              [ "roles" "{" name { "," name } "}" ] [ "prop" "{" [ props ] "}" ]
--        | "(" choreo ")"
abbrev pub conditional : List Goal
conditional = goal.Expression kinds.Step ∷ at_sign ∷ goal.Name ∷ block_goals ++ goal.Otherwise ∷ []

abbrev pub loop : List Goal
loop = goal.Expression kinds.Step ∷ at_sign ∷ goal.Name ∷ block_goals

abbrev pub scope : List Goal
scope = at_sign ∷ goal.Name ∷ block_goals ++ goal.ExtraRoles ∷ goal.Properties ∷ []

abbrev pub group : List Goal
group = goal.Step ∷ goal.MoreSteps ∷ goal.MoreParts ∷ right_paren ∷ []

-- a step, and what is wanted behind it
abbrev pub step_before : List Goal → Look → GoalEffect
step_before others (looks.Reserved word.Skip) = Takes others
step_before others (looks.Name word) = Takes (goal.StepBehindName ∷ others)
step_before others (looks.Reserved word.If) = Takes (conditional ++ others)
step_before others (looks.Reserved word.While) = Takes (loop ++ others)
step_before others (looks.Reserved word.Scope) = Takes (scope ++ others)
step_before others (looks.Symbol punctuator.LeftParen) = Takes (group ++ others)
step_before others _ = Stops

abbrev pub take_step : Look → GoalEffect
take_step look = step_before [] look

-- behind the name at a step's front:
--   ":" name "(" expr ")" "->" name "(" name ")" | "@" name "=" ( "input" "(" ")" | expr )
abbrev pub sending_goals : List Goal
sending_goals =
    goal.Name ∷ left_paren ∷ goal.Expression kinds.Step ∷ right_paren ∷ arrow_sign
    ∷ goal.Name ∷ left_paren ∷ goal.Name ∷ right_paren ∷ []

abbrev pub step_behind_name : Look → GoalEffect
step_behind_name (looks.Symbol punctuator.Colon) = Takes sending_goals
step_behind_name (looks.Symbol punctuator.At) =
    Takes (goal.Name ∷ equal ∷ goal.Assigned ∷ [])
step_behind_name _ = Stops

abbrev pub assigned : Look → GoalEffect
assigned (looks.Reserved word.Input) = Takes (left_paren ∷ right_paren ∷ [])
assigned look = take_expression kinds.Step look

-- behind a `;` of a sequence: a step, or nothing
abbrev pub or_nothing : GoalEffect → GoalEffect
or_nothing Stops = Passes
or_nothing other = other

abbrev pub next_step : Look → GoalEffect
next_step look = or_nothing (step_before (goal.MoreSteps ∷ []) look)

-- a property behind its `N`: "." name "=" value
abbrev pub property : List Goal
property = dot ∷ goal.Name ∷ equal ∷ goal.Value ∷ goal.MoreProperties ∷ []

-- what may be left out, behind its first token:
--   seq = step { ";" step } [ ";" ]
--   choreo = seq { "|" seq }
--   [ "else" "{" choreo "}" ]
--   in version 2 alone: [ "roles" "{" name { "," name } "}" ]
--   [ "prop" "{" [ props ] "}" ]
--   props = "N" "." name "=" value { "," "N" "." name "=" value }
abbrev pub optional : Bool → Goal → Look → GoalEffect
optional second goal.MoreSteps (looks.Symbol punctuator.Semicolon) = Takes (goal.NextStep ∷ [])
optional second goal.MoreParts (looks.Symbol punctuator.Bar) =
    Takes (goal.Step ∷ goal.MoreSteps ∷ goal.MoreParts ∷ [])
optional second goal.Otherwise (looks.Reserved word.Else) = Takes block_goals
optional true goal.ExtraRoles (looks.Name (Some place.Roles)) =
    Takes (left_brace ∷ goal.Name ∷ goal.MoreNames ∷ right_brace ∷ [])
optional second goal.MoreNames (looks.Symbol punctuator.Comma) =
    Takes (goal.Name ∷ goal.MoreNames ∷ [])
optional second goal.Properties (looks.Reserved word.Prop) =
    Takes (left_brace ∷ goal.FirstProperty ∷ right_brace ∷ [])
optional second goal.FirstProperty (looks.Reserved word.N) = Takes property
optional second goal.MoreProperties (looks.Symbol punctuator.Comma) = Takes (n_word ∷ property)
optional _ _ _ = Passes

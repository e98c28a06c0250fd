-- Rules and changes: what each goal makes of a token.
use Rattle.std.specs.Prelude.{Bool, true, List, [], ◌∷◌, ◌++◌, Some, if◌then◌else◌, nat_le}
use Rattle.limits.specs.Limits.{most_priority}
use Rattle.aioc_tokens.specs.declared.words.Word.TheVariants as word
use Rattle.aioc_tokens.specs.declared.words.Punctuator.TheVariants as punctuator
use Rattle.expr_syntax.specs.declared.levels.ExprKind.TheVariants as kinds
use Rattle.wanted_tokens.specs.declared.looks.PlaceWord.TheVariants as place
use Rattle.wanted_tokens.specs.declared.looks.Look.{Look}
use Rattle.wanted_tokens.specs.declared.looks.Look.TheVariants as looks
use Rattle.wanted_tokens.specs.declared.goals.Goal.{Goal}
use Rattle.wanted_tokens.specs.declared.goals.Goal.TheVariants as goal
use Rattle.wanted_tokens.specs.Goals.{left_brace, right_brace, equal, on_word, do_word, rule_word}
use Rattle.wanted_tokens.specs.Takings.{GoalEffect, Takes, Passes, Stops}
use Rattle.wanted_tokens.specs.Choreographies.{block_goals}

-- a rule behind its first word:
--   rule = "rule" name [ "priority" [ "-" ] number ] "{" "on" "{" expr "}" "do" "{" choreo "}" "}"
abbrev pub rule_goals : List Goal
rule_goals =
    goal.Name ∷ goal.Priority ∷ left_brace ∷ on_word ∷ left_brace
    ∷ goal.Expression kinds.Condition ∷ right_brace ∷ do_word ∷ block_goals ++ right_brace ∷ []

-- { rule }
abbrev pub rules : Look → GoalEffect
rules (looks.Reserved word.Rule) = Takes (rule_goals ++ goal.Rules ∷ [])
rules _ = Passes

-- in version 2 alone: [ "priority" [ "-" ] number ]
abbrev pub priority : Bool → Look → GoalEffect
priority true (looks.Name (Some place.Priority)) = Takes (goal.Rank ∷ [])
priority _ _ = Passes

abbrev pub rank : Look → GoalEffect
rank (looks.Number (Some n)) = if nat_le n most_priority then Takes [] else Stops
rank (looks.Symbol punctuator.Minus) = Takes (goal.Number most_priority ∷ [])
rank _ = Stops

-- name "=" value, behind the name
abbrev pub binding : List Goal
binding = equal ∷ goal.Value ∷ []

-- change = "add" rule | "drop" name | "env" name "=" value
abbrev pub change : Look → GoalEffect
change (looks.Name (Some place.Add)) = Takes (rule_word ∷ rule_goals)
change (looks.Name (Some place.Drop)) = Takes (goal.Name ∷ [])
change (looks.Name (Some place.Env)) = Takes (goal.Name ∷ binding)
change _ = Stops

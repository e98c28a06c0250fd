-- Values and expressions: what each goal makes of a token.
use Rattle.std.specs.Prelude.{Bool, true, false, List, [], ◌∷◌, ◌++◌, Some, if◌then◌else◌, nat_le}
use Rattle.aioc_tokens.specs.declared.words.Word.{Word}
use Rattle.aioc_tokens.specs.declared.words.Word.TheVariants as word
use Rattle.aioc_tokens.specs.declared.words.Punctuator.{Punctuator}
use Rattle.aioc_tokens.specs.declared.words.Punctuator.TheVariants as punctuator
use Rattle.expr_syntax.specs.Constants.{greatest, greatest_negated}
use Rattle.expr_syntax.specs.declared.levels.ExprKind.{ExprKind}
use Rattle.expr_syntax.specs.declared.levels.ExprKind.TheVariants as kinds
use Rattle.wanted_tokens.specs.declared.looks.Look.{Look}
use Rattle.wanted_tokens.specs.declared.looks.Look.TheVariants as looks
use Rattle.wanted_tokens.specs.declared.goals.Goal.{Goal}
use Rattle.wanted_tokens.specs.declared.goals.Goal.TheVariants as goal
use Rattle.wanted_tokens.specs.Goals.{right_paren, dot}
use Rattle.wanted_tokens.specs.Takings.{GoalEffect, Takes, Passes, Stops}

-- value = "nil" | "true" | "false" | [ "-" ] number | text
abbrev pub value_word : Word → GoalEffect
value_word word.Nil = Takes []
value_word word.True = Takes []
value_word word.False = Takes []
value_word _ = Stops

abbrev pub value : Look → GoalEffect
value looks.Text = Takes []
value (looks.Number (Some n)) = if nat_le n greatest then Takes [] else Stops
value (looks.Symbol punctuator.Minus) = Takes (goal.Number greatest_negated ∷ [])
value (looks.Reserved word) = value_word word
value _ = Stops

-- { "," value }
abbrev pub more_values : Look → GoalEffect
more_values (looks.Symbol punctuator.Comma) = Takes (goal.Value ∷ goal.MoreValues ∷ [])
more_values _ = Passes

-- what stands in brackets, and the bracket behind it
abbrev pub bracketed : ExprKind → List Goal
bracketed kind = goal.Expression kind ∷ right_paren ∷ []

-- a word that begins an operand
abbrev pub word_operand : ExprKind → Bool → Word → GoalEffect
word_operand kind comparable word.Nil = Takes (goal.MoreOperands kind comparable ∷ [])
word_operand kind comparable word.True = Takes (goal.MoreOperands kind comparable ∷ [])
word_operand kind comparable word.False = Takes (goal.MoreOperands kind comparable ∷ [])
word_operand kinds.Condition comparable word.N =
    Takes (dot ∷ goal.Name ∷ goal.MoreOperands kinds.Condition comparable ∷ [])
word_operand kinds.Condition comparable word.E =
    Takes (dot ∷ goal.Name ∷ goal.MoreOperands kinds.Condition comparable ∷ [])
word_operand kind comparable _ = Stops

-- an operand, and what follows it:
--   unary = "-" number | "-" unary | atom
--   atom = "nil" | "true" | "false" | number | text | name | "N" "." name | "E" "." name
--        | "(" expr ")"
abbrev pub take_operand : ExprKind → Bool → Look → GoalEffect
take_operand kind comparable (looks.Name word) = Takes (goal.MoreOperands kind comparable ∷ [])
take_operand kind comparable looks.Text = Takes (goal.MoreOperands kind comparable ∷ [])
take_operand kind comparable (looks.Number (Some n)) =
    if nat_le n greatest then Takes (goal.MoreOperands kind comparable ∷ []) else Stops
take_operand kind comparable (looks.Symbol punctuator.Minus) =
    Takes (goal.Negated kind comparable ∷ [])
take_operand kind comparable (looks.Symbol punctuator.LeftParen) =
    Takes (bracketed kind ++ goal.MoreOperands kind comparable ∷ [])
take_operand kind comparable (looks.Reserved word) = word_operand kind comparable word
take_operand kind comparable _ = Stops

-- neg = "not" neg | comp
abbrev pub take_expression : ExprKind → Look → GoalEffect
take_expression kind (looks.Reserved word.Not) = Takes (goal.Expression kind ∷ [])
take_expression kind look = take_operand kind true look

-- behind a `-`: a number directly behind it may be greater by one
abbrev pub take_negated : ExprKind → Bool → Look → GoalEffect
take_negated kind comparable (looks.Number (Some n)) =
    Takes (goal.MoreOperands kind comparable ∷ [])
take_negated kind comparable look = take_operand kind comparable look

-- a sum has at most one comparison beside another one
abbrev pub take_compared : ExprKind → Bool → GoalEffect
take_compared kind true = Takes (goal.Operand kind false ∷ [])
take_compared kind false = Passes

-- a condition joins no texts
abbrev pub take_joined : ExprKind → Bool → GoalEffect
take_joined kinds.Step comparable = Takes (goal.Operand kinds.Step comparable ∷ [])
take_joined kinds.Condition comparable = Passes

-- an operator that is a symbol
abbrev pub symbol_behind : ExprKind → Bool → Punctuator → GoalEffect
symbol_behind kind comparable punctuator.EqualEqual = take_compared kind comparable
symbol_behind kind comparable punctuator.NotEqual = take_compared kind comparable
symbol_behind kind comparable punctuator.Less = take_compared kind comparable
symbol_behind kind comparable punctuator.LessEqual = take_compared kind comparable
symbol_behind kind comparable punctuator.Greater = take_compared kind comparable
symbol_behind kind comparable punctuator.GreaterEqual = take_compared kind comparable
symbol_behind kind comparable punctuator.Plus = Takes (goal.Operand kind comparable ∷ [])
symbol_behind kind comparable punctuator.Minus = Takes (goal.Operand kind comparable ∷ [])
symbol_behind kind comparable punctuator.Star = Takes (goal.Operand kind comparable ∷ [])
symbol_behind kind comparable punctuator.Slash = Takes (goal.Operand kind comparable ∷ [])
symbol_behind kind comparable punctuator.Percent = Takes (goal.Operand kind comparable ∷ [])
symbol_behind kind comparable punctuator.PlusPlus = take_joined kind comparable
symbol_behind kind comparable _ = Passes

-- an operator and another operand, or nothing
abbrev pub more_operands : ExprKind → Bool → Look → GoalEffect
more_operands kind comparable (looks.Reserved word.And) = Takes (goal.Expression kind ∷ [])
more_operands kind comparable (looks.Reserved word.Or) = Takes (goal.Expression kind ∷ [])
more_operands kind comparable (looks.Symbol punctuator) = symbol_behind kind comparable punctuator
more_operands kind comparable _ = Passes

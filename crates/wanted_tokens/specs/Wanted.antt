-- What may come next in a text, token by token, and the first token that may not. Brackets and
-- depths have no limit here.
use Rattle.std.specs.Prelude.{ℕ, suc, Bool, true, false, List, [], ◌∷◌, ◌++◌, Option, Some, None, option_map, if◌then◌else◌}
use Rattle.std.specs.List.{list_all}
use Rattle.aioc_tokens.specs.Lexemes.{Lexeme}
use Rattle.wanted_tokens.specs.declared.looks.Look.{Look}
use Rattle.wanted_tokens.specs.declared.looks.Look.TheVariants as looks
use Rattle.wanted_tokens.specs.declared.goals.Goal.{Goal}
use Rattle.wanted_tokens.specs.declared.goals.Goal.TheVariants as goal
use Rattle.wanted_tokens.specs.Looks.{look}
use Rattle.wanted_tokens.specs.Takings.{GoalEffect, Takes, Passes, Stops}
use Rattle.wanted_tokens.specs.Tokens.{symbol, reserved, name, take_number, done, as_word, truth, two}
use Rattle.wanted_tokens.specs.Expressions.{value, more_values, take_operand, take_expression, take_negated, more_operands}
use Rattle.wanted_tokens.specs.Choreographies.{take_step, step_behind_name, assigned, next_step, optional}
use Rattle.wanted_tokens.specs.Rules.{rules, priority, rank, change}
use Rattle.wanted_tokens.specs.Traces.{take_lines, tag_of_put, auxiliary_of_put, begun, tag_of_take, auxiliary_of_take, chosen}
use Rattle.wanted_tokens.specs.Sections.{bindings, inputs, take_script, sections, sections_behind_trace, later_sections, last_sections, bundle, session}

-- what a goal makes of a token, in a text of the second version or not
abbrev pub taking : Bool → Goal → Look → GoalEffect
taking second (goal.Symbol wanted) look = symbol wanted look
taking second (goal.Reserved wanted) look = reserved wanted look
taking second goal.Name look = name look
taking second (goal.Number most) look = take_number most look
taking second goal.Done look = done look
taking second goal.As look = as_word look
taking second goal.Truth look = truth look
taking second goal.Value look = value look
taking second goal.MoreValues look = more_values look
taking second (goal.Expression kind) look = take_expression kind look
taking second (goal.Operand kind comparable) look = take_operand kind comparable look
taking second (goal.Negated kind comparable) look = take_negated kind comparable look
taking second (goal.MoreOperands kind comparable) look = more_operands kind comparable look
taking second goal.Step look = take_step look
taking second goal.StepBehindName look = step_behind_name look
taking second goal.Assigned look = assigned look
taking second goal.MoreSteps look = optional second goal.MoreSteps look
taking second goal.NextStep look = next_step look
taking second goal.MoreParts look = optional second goal.MoreParts look
taking second goal.Otherwise look = optional second goal.Otherwise look
taking second goal.ExtraRoles look = optional second goal.ExtraRoles look
taking second goal.MoreNames look = optional second goal.MoreNames look
taking second goal.Properties look = optional second goal.Properties look
taking second goal.FirstProperty look = optional second goal.FirstProperty look
taking second goal.MoreProperties look = optional second goal.MoreProperties look
taking second goal.Rules look = rules look
taking second goal.Priority look = priority second look
taking second goal.Rank look = rank look
taking second goal.Change look = change look
taking second goal.Lines look = take_lines look
taking second goal.TagOfPut look = tag_of_put look
taking second goal.AuxiliaryOfPut look = auxiliary_of_put look
taking second goal.Begun look = begun look
taking second goal.TagOfTake look = tag_of_take look
taking second goal.AuxiliaryOfTake look = auxiliary_of_take look
taking second goal.Chosen look = chosen look
taking second goal.Bindings look = bindings look
taking second goal.Inputs look = inputs look
taking second goal.Script look = take_script look
taking second goal.Bundle look = bundle look
taking second goal.Sections look = sections look
taking second goal.SectionsBehindTrace look = sections_behind_trace look
taking second goal.LaterSections look = later_sections look
taking second goal.LastSections look = last_sections look
taking second goal.Sessions look = session Stops look
taking second goal.MoreSessions look = session Passes look
taking second goal.Two look = two look

-- whether the text is of the second version, once the goal took a token; each session has a version
-- of its own
abbrev pub version_behind : Bool → Goal → Bool
version_behind second goal.Two = true
version_behind second goal.MoreSessions = false
version_behind second _ = second

-- how far a text was read: whether it is of the second version, and what is wanted, in its order
pub record Reading : Type 0 where
  pub second : Bool
  pub wanted : List Goal

-- what is wanted behind a token: of several goals the first takes it, or passes it on to the next
abbrev pub answer : GoalEffect → Bool → List Goal → Option Reading → Option Reading
answer (Takes goals) second others passed =
    Some (record { second = second; wanted = goals ++ others })
answer Passes second others passed = passed
answer Stops second others passed = None

abbrev pub reading_behind : Bool → List Goal → Look → Option Reading
reading_behind second [] seen = None
reading_behind second (first ∷ others) seen =
    answer (taking second first seen) (version_behind second first) others
    (reading_behind second others seen)

-- no token is left, and none is wanted
abbrev pub is_passed : GoalEffect → Bool
is_passed Passes = true
is_passed _ = false

abbrev pub may_end : Bool → List Goal → Bool
may_end second goals = list_all (λ goal. is_passed (taking second goal looks.End)) goals

-- the place of the first token that isn't wanted, or the end where more is wanted; none where the
-- list is read whole
abbrev pub next_stop : Option Reading → (Reading → Option ℕ) → Option ℕ
next_stop None later = Some 0
next_stop (Some reading) later = option_map suc (later reading)

abbrev pub stop : List Lexeme → Reading → Option ℕ
stop [] reading = if may_end reading.second reading.wanted then None else Some 0
stop (first ∷ others) reading =
    next_stop (reading_behind reading.second reading.wanted (look (first ∷ others))) (stop others)

-- the first token of a text that may not stand there
abbrev pub unwanted : Goal → List Lexeme → Option ℕ
unwanted whole text = stop text (record { second = false; wanted = whole ∷ [] })

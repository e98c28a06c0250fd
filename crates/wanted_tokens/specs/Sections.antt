-- Sections, bundles and sessions: what each goal makes of a token.
use Rattle.std.specs.Prelude.{[], ◌∷◌, ◌++◌, Some}
use Rattle.expr_syntax.specs.Constants.{greatest}
use Rattle.aioc_tokens.specs.declared.words.Word.TheVariants as word
use Rattle.wanted_tokens.specs.declared.looks.PlaceWord.TheVariants as place
use Rattle.wanted_tokens.specs.declared.looks.Look.{Look}
use Rattle.wanted_tokens.specs.declared.looks.Look.TheVariants as looks
use Rattle.wanted_tokens.specs.declared.goals.Goal.{Goal}
use Rattle.wanted_tokens.specs.declared.goals.Goal.TheVariants as goal
use Rattle.wanted_tokens.specs.Goals.{left_brace, right_brace, semicolon, colon}
use Rattle.wanted_tokens.specs.Takings.{GoalEffect, Takes, Passes, Stops}
use Rattle.wanted_tokens.specs.Rules.{binding}
use Rattle.wanted_tokens.specs.Choreographies.{block_goals}

-- { name "=" value ";" }
abbrev pub bindings : Look → GoalEffect
bindings (looks.Name word) = Takes (binding ++ semicolon ∷ goal.Bindings ∷ [])
bindings _ = Passes

-- { name ":" value { "," value } ";" }
abbrev pub inputs : Look → GoalEffect
inputs (looks.Name word) =
    Takes (colon ∷ goal.Value ∷ goal.MoreValues ∷ semicolon ∷ goal.Inputs ∷ [])
inputs _ = Passes

-- { "after" number change }
abbrev pub take_script : Look → GoalEffect
take_script (looks.Name (Some place.After)) =
    Takes (goal.Number greatest ∷ goal.Change ∷ goal.Script ∷ [])
take_script _ = Passes

-- a section of these items, and what is wanted behind it
abbrev pub section_of : Goal → Goal → GoalEffect
section_of items next =
    Takes (left_brace ∷ items ∷ right_brace ∷ next ∷ [])

-- a section of a kind that may come any number of times, and the same sections behind it
abbrev pub take_repeated : Goal → GoalEffect → Look → GoalEffect
take_repeated next other (looks.Name (Some place.Rules)) = section_of goal.Rules next
take_repeated next other (looks.Name (Some place.Env)) = section_of goal.Bindings next
take_repeated next other (looks.Name (Some place.Inputs)) = section_of goal.Inputs next
take_repeated next other (looks.Name (Some place.Script)) = section_of goal.Script next
take_repeated next other _ = other

-- a section of the trace, and what is wanted behind it; else what the other kinds are
abbrev pub take_traced : Goal → Goal → GoalEffect → Look → GoalEffect
take_traced next again other (looks.Name (Some place.Trace)) = section_of goal.Lines next
take_traced next again other look = take_repeated again other look

-- sections, with one choreography and at most one trace
abbrev pub sections : Look → GoalEffect
sections (looks.Reserved word.Aioc) = Takes (block_goals ++ goal.LaterSections ∷ [])
sections look = take_traced goal.SectionsBehindTrace goal.Sections Stops look

abbrev pub sections_behind_trace : Look → GoalEffect
sections_behind_trace (looks.Reserved word.Aioc) = Takes (block_goals ++ goal.LastSections ∷ [])
sections_behind_trace look = take_repeated goal.SectionsBehindTrace Stops look

abbrev pub later_sections : Look → GoalEffect
later_sections look = take_traced goal.LastSections goal.LaterSections Passes look

abbrev pub last_sections : Look → GoalEffect
last_sections look = take_repeated goal.LastSections Passes look

-- bundle = [ "version" "2" ] section { section }
abbrev pub bundle : Look → GoalEffect
bundle (looks.Name (Some place.Version)) = Takes (goal.Two ∷ goal.Sections ∷ [])
bundle look = sections look

-- sessions = session { session }, session = "session" "{" bundle "}"
abbrev pub session : GoalEffect → Look → GoalEffect
session other (looks.Name (Some place.Session)) =
    Takes (left_brace ∷ goal.Bundle ∷ right_brace ∷ goal.MoreSessions ∷ [])
session other _ = other

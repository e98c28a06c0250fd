-- A visible trace driven: the history that has its entries, and before each of them as many
-- auxiliary moves as it takes.
use Rattle.std.specs.Prelude.{ℕ, zero, suc, ◌*◌, List, [], ◌∷◌, length, Bool, true, false, ◌&&◌, Option, Some, None, if◌then◌else◌, option_map, option_and_then}
use Rattle.std.specs.List.{find}
use Rattle.std.specs.Option.{option_map_or}
use Rattle.dioc_terms.specs.declared.names.Role.{Role}
use Rattle.dioc_terms.specs.declared.entries.Act.{Act}
use Rattle.dioc_terms.specs.declared.entries.Entry.{Entry}
use Rattle.dioc_terms.specs.Messages.{doer, act_of}
use Rattle.dioc_terms.specs.Plain.{PlainBundle, Setting, setting}
use Rattle.drive_laws.specs.Laws.{is_aux_act}
use Rattle.network_steps.specs.Network.{Network, NextNetwork, network_start, network_step}
use Rattle.network_steps.specs.declared.moves.Move.{Move}
use Rattle.network_steps.specs.declared.moves.Move.TheVariants as move
use Rattle.network_steps.specs.Schedule.{is_ready, moves, move_step}
use Rattle.process_steps.specs.Steps.{offers, is_offered}

abbrev pub is_aux_move : Move → Bool
is_aux_move move.Change = false
is_aux_move (move.Act q a) = is_aux_act a

-- the first move of the schedule's list that is auxiliary
abbrev pub first_auxiliary : Setting → Network → Option NextNetwork
first_auxiliary b N = option_and_then (move_step b N) (find is_aux_move (moves b N))

-- the act of a role may come: it is offered, and its message is pending where it is a take; a
-- change may come at any time
abbrev pub act_may_come : Network → Option Role → Option Act → Bool
act_may_come N None a = true
act_may_come N (Some q) None = true
act_may_come N (Some q) (Some a) = is_offered a (offers q (N.processes q)) && is_ready N a

abbrev pub may_come : Network → Entry → Bool
may_come N e = act_may_come N (doer e) (act_of e)

abbrev pub put_before : Entry → Option (List Entry) → Option (List Entry)
put_before e entries = option_map (λ es. e ∷ es) entries

-- In at most so many turns: before each entry, as long as it may not come, and after the last one,
-- the first auxiliary move. None where an entry can't be done, or the turns run out.
abbrev pub driven_from : Setting → ℕ → Network → List Entry → Option (List Entry)
driven_from b zero N t = None
driven_from b (suc count) N [] =
    option_map_or (λ (outcome : NextNetwork). put_before outcome.entry
    (driven_from b count outcome.network [])) (first_auxiliary b N) (Some [])
driven_from b (suc count) N (e ∷ es) =
    if may_come N e then option_and_then (λ next. put_before e (driven_from b count next es))
    (network_step b N e) else option_and_then (λ (outcome : NextNetwork). put_before outcome.entry
    (driven_from b count outcome.network (e ∷ es))) (first_auxiliary b N)

-- The turns suffice for each settled trace that the choreography plays: it takes at most six
-- auxiliary entries for each visible one and each role.
abbrev pub turns_for : PlainBundle → List Entry → ℕ
turns_for b t = suc (length t * suc (6 * length b.cast))

abbrev pub driven : PlainBundle → List Entry → Option (List Entry)
driven b t = driven_from (setting b) (turns_for b t) (network_start b) t

-- The moves of a network, the runs that a schedule takes, and which histories are prompt.
use Rattle.std.specs.Prelude.{◌≡◌, ℕ, zero, suc, ◌+◌, ◌-◌, ◌*◌, ◌/◌, ◌%◌, ◌^◌, List, [], ◌∷◌, ◌++◌, length, map, filter, flat_map, Bool, true, false, ◌&&◌, not, nat_le, Option, Some, None, if◌then◌else◌, is_some, is_none, slice_get, option_map, option_and_then}
use Rattle.std.specs.Option.{option_map_or}
use Rattle.dioc_terms.specs.declared.names.Role.{Role}
use Rattle.dioc_terms.specs.declared.entries.Act.{Act}
use Rattle.dioc_terms.specs.declared.entries.Act.TheVariants as act
use Rattle.dioc_terms.specs.declared.entries.Entry.{Entry}
use Rattle.dioc_terms.specs.declared.bundles.Timed.{Timed}
use Rattle.dioc_terms.specs.Messages.{visible, doer}
use Rattle.dioc_terms.specs.Plain.{PlainBundle, Setting, setting}
use Rattle.process_steps.specs.Steps.{offers}
use Rattle.network_steps.specs.Network.{Network, NextNetwork, act_step, change_step, network_run, network_ended, pending_at}
use Rattle.network_steps.specs.declared.moves.Move.{Move}
use Rattle.network_steps.specs.declared.moves.Move.TheVariants as move

-- whether the script's next change, after so many, may stand after so many visible entries
abbrev pub change_due : List Timed → ℕ → ℕ → Bool
change_due script changes visible_entries =
    option_map_or (λ (timed : Timed). nat_le timed.after visible_entries) (slice_get script changes)
    false

-- every act but a take whose message isn't pending
abbrev pub is_ready : Network → Act → Bool
is_ready N (act.Take k) = is_some (pending_at k N.pending)
is_ready N _ = true

-- the acts that a role can do now, from left to right in the text
abbrev pub role_moves : Network → Role → List Move
role_moves N q = map (move.Act q) (filter (is_ready N) (offers q (N.processes q)))

-- the script's next change first, where it is due and the network has not ended, and then the acts,
-- role by role in the cast's order
abbrev pub moves : Setting → Network → List Move
moves b N =
    (if change_due b.script N.changes N.visible && not (network_ended b.cast N) then move.Change
    ∷ [] else []) ++ flat_map (role_moves N) b.cast

abbrev pub move_step : Setting → Network → Move → Option NextNetwork
move_step b N move.Change = change_step b N
move_step b N (move.Act q a) = act_step b N q a

-- the next number of a seeded schedule
abbrev pub next_number : ℕ → ℕ
next_number x = (x * 6364136223846793005 + 1442695040888963407) % 2 ^ 64

-- the place, among so many moves, of the move that a schedule takes: the first, or with a seed by
-- the next number
abbrev pub move_place : Option ℕ → ℕ → ℕ
move_place None count = 0
move_place (Some x) count = (next_number x / 2 ^ 33) % count

abbrev pub next_seed : Option ℕ → Option ℕ
next_seed seed = option_map next_number seed

-- what a schedule takes next
abbrev pub scheduled : Setting → Network → Option ℕ → Option NextNetwork
scheduled b N seed =
    option_and_then (move_step b N) (slice_get (moves b N) (move_place seed (length (moves b N))))

-- the entries that a schedule takes from a network on: until it has ended, and at most so many
abbrev pub continued : Setting → Option ℕ → ℕ → Network → List Entry
continued b seed zero N = []
continued b seed (suc count) N =
    if network_ended b.cast N then [] else
    option_map_or (λ (outcome : NextNetwork). outcome.entry ∷ continued b (next_seed seed) count
    outcome.network) (scheduled b N seed) []

-- a history continued by the schedule, to at most limit entries
abbrev pub sched_from : PlainBundle → List Entry → Option ℕ → ℕ → List Entry
sched_from b H seed limit =
    H ++ option_map_or (continued (setting b) seed (limit - length H)) (network_run b H) []

-- the run that the schedule takes from the start
abbrev pub sched : PlainBundle → Option ℕ → ℕ → List Entry
sched b seed limit = sched_from b [] seed limit

-- how many changes stand in a history
abbrev pub changes_in : List Entry → ℕ
changes_in H = length (filter (λ e. is_none (doer e)) H)

-- the script's next change is due after a history
abbrev pub change_is_due : PlainBundle → List Entry → Bool
change_is_due b H = change_due b.script (changes_in H) (length (visible H))

-- no entry of a role stands directly after a part of the history after which the next change is due
abbrev pub IsPrompt : PlainBundle → List Entry → Type 0
IsPrompt b H =
    (before : List Entry) (e : Entry) (rest : List Entry) → H ≡ before ++ e ∷ rest
    → is_some (doer e) ≡ true → change_is_due b before ≡ false

-- The judgement of the entries that are left is that of all of them.
use Rattle.std.proofs.Common.{◌≡◌, ◌≤◌, suc, drop}
use Rattle.dioc_terms.specs.Messages.{visible}
use Rattle.global_follower.specs.KeptPlays.{setting_of, state_of}
use Rattle.global_steps.specs.Follow.{play_from, stray_from}
use Rattle.global_follower.proofs.follower.Follower.first_stray.Given as goal

abbrev pub invariant-loop-entry : goal.invariant-loop-entry
invariant-loop-entry l =
    (l.number ≡ l.entry-index) × (setting_of l.self ≡ setting_of l.fn.self)
    × ((state_of l.self).entries ≤ l.entry-index)
    × (stray_from (setting_of l.fn.self) (state_of l.fn.self) 1 l.entries
    ≡ stray_from (setting_of l.fn.self) (state_of l.self) (suc l.entry-index) (drop l.entry-index l.entries))
    × (play_from (setting_of l.fn.self) (state_of l.fn.self) (visible l.entries)
    ≡ play_from (setting_of l.fn.self) (state_of l.self) (visible (drop l.entry-index l.entries)))

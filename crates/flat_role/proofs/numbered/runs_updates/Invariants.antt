-- None runs at the places so far.
use Rattle.std.proofs.Common.{◌≡◌, ◌<◌, ℕ, false, get_or}
use Rattle.flat_role.specs.Leaves.{is_became}
use Rattle.flat_role.specs.Progress.{marks_by}
use Rattle.flat_role.proofs.numbered.runs_updates.Given as goal

abbrev pub invariant-loop-at : goal.invariant-loop-at
invariant-loop-at l = (i : ℕ) → i < l.at
    → is_became (marks_by l.me l.plan l.progress (get_or l.progress.active.items i 0)) ≡ false

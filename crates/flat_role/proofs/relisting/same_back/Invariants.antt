-- The last acts so far are those of the last places so far.
use Rattle.std.proofs.Common.{◌≡◌, ◌-◌, drop, length}
use Rattle.flat_role.specs.Progress.{acts_at}
use Rattle.flat_role.proofs.relisting.same_back.Given as goal

abbrev pub invariant-loop-back : goal.invariant-loop-back
invariant-loop-back l =
    drop (length l.acts - l.back) l.acts ≡ acts_at l.me l.plan l.progress (drop (length l.progress.active.items - l.back) l.progress.active.items)

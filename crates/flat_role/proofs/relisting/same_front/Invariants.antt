-- The acts so far are those of the places so far.
use Rattle.std.proofs.Common.{◌≡◌, take}
use Rattle.flat_role.specs.Progress.{acts_at}
use Rattle.flat_role.proofs.relisting.same_front.Given as goal

abbrev pub invariant-loop-at : goal.invariant-loop-at
invariant-loop-at l = take l.at l.acts ≡ acts_at l.me l.plan l.progress (take l.at l.progress.active.items)

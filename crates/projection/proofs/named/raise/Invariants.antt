-- The flags so far are raised as the others say.
use Rattle.std.proofs.Common.{◌≡◌, take}
use Rattle.projection.specs.Named.{raised}
use Rattle.projection.proofs.named.raise.Given as goal

abbrev pub invariant-loop-place : goal.invariant-loop-place
invariant-loop-place l = l.named ≡ raised (take l.place l.more) l.initial.named

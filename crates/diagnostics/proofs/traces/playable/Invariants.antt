-- The follower stands behind the entries, and those that were found may come there.
use Rattle.std.proofs.Common.{IfSome}
use Rattle.std.specs.List.{All}
use Rattle.dioc_terms.specs.Plain.{plain}
use Rattle.global_follower.specs.KeptPlays.{setting_of, state_of}
use Rattle.diagnostics.specs.Traces.{IsBehind, MayCome}
use Rattle.diagnostics.proofs.traces.playable.Given as goal

abbrev pub invariant-loop-candidate : goal.invariant-loop-candidate
invariant-loop-candidate l =
    IfSome l.standing (λ follower. IsBehind (plain l.bundle) l.before (setting_of follower) (state_of follower))
    × All (MayCome (plain l.bundle) l.before) l.found.items

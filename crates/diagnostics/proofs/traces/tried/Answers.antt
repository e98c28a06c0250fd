-- An entry that is followed may come there.
use Rattle.std.proofs.Common.{◌≡◌, Some, subst}
use Rattle.global_follower.specs.KeptPlays.{state_of}
use Rattle.global_steps.specs.Follow.{follow}
use Rattle.global_follower.specs.Passing.{GoesTo}
use Rattle.diagnostics.proofs.traces.tried.Goals as goal

pub returns-then-branch-clause-comes : goal.returns-then-branch-clause-comes
returns-then-branch-clause-comes c = λ _.
    let S = state_of c.args.follower in
    let T = state_of c.plays.new.self in
    let here = c.requires.stands in
    let followed = subst (GoesTo S T _) c.if-branch.true c.in_ok-plays.ensures.goes in
    record {
      state = S;
      played = here.played;
      next = T;
      follows = subst (λ s. follow s S c.args.entry.now ≡ Some T) here.same followed;
    }

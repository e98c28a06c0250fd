-- Whatever was tried, the seat went on. A seat that was marked or stopped has looked on, and its role's state is tied to it still.
use Rattle.std.proofs.Common.{sym, ◌∙◌}
use Rattle.dioc_terms.specs.Plain.{plain}
use Rattle.flat_role.specs.FlatStates.{local_of}
use Rattle.role_runner.proofs.TieLemmas.{done_not_behind, looked_tied, refused_not_behind, tied_finished, went_looked, went_nowhere, went_through}
use Rattle.turn_lock.specs.Words.{view}
use Rattle.role_runner.proofs.playing.play_on.Goals as goal

pub returns-then-is_done-clause-tied : goal.returns-then-is_done-clause-tied
returns-then-is_done-clause-tied g c =
    looked_tied (plain c.args.actor.now.bundle.now) c.args.actor.now.role.now (view c.loop.seat) (view c.finish.result) (local_of c.loop.state) c.finish.ensures.saw.looked c.loop.invariant.can.tied

pub returns-in-Refused-Full-clause-tied : goal.returns-in-Refused-Full-clause-tied
returns-in-Refused-Full-clause-tied g c =
    looked_tied (plain c.args.actor.now.bundle.now) c.args.actor.now.role.now (view c.take_turn-next.result.0) (view c.stop.result) (local_of c.take_turn-next.new.state) c.stop.ensures.saw.looked
    (c.take_turn-next.ensures.left.leaves.tied (λ behind. refused_not_behind c.in-Refused-Full.is behind))

pub returns-in-Refused-Memory-clause-tied : goal.returns-in-Refused-Memory-clause-tied
returns-in-Refused-Memory-clause-tied g c =
    looked_tied (plain c.args.actor.now.bundle.now) c.args.actor.now.role.now (view c.take_turn-next.result.0) (view c.stop-in-Refused-Memory.result) (local_of c.take_turn-next.new.state) c.stop-in-Refused-Memory.ensures.saw.looked
    (c.take_turn-next.ensures.left.leaves.tied (λ behind. refused_not_behind c.in-Refused-Memory.is behind))

pub returns-in-Refused-clause-tied : goal.returns-in-Refused-clause-tied
returns-in-Refused-clause-tied g c = c.take_turn-next.ensures.left.leaves.tied (λ behind. refused_not_behind c.in-Refused.is behind)

pub loop-init : goal.loop-init
loop-init g c = record { can = c.requires.can; went = went_nowhere (view c.args.seat) c.requires.can.tied.met }

pub loop-preserved : goal.loop-preserved
loop-preserved g c =
    let left = c.take_turn-next.ensures.left in
    record {
      can = record { sound = c.requires.can.sound; of = left.of; tied = left.leaves.tied (λ behind. refused_not_behind c.in-Refused-NotYet.is behind) };
      went = went_through (view c.args.seat) (view c.loop.seat) (view c.take_turn-next.result.0) c.loop.invariant.went left.leaves.went;
    }

pub loop-preserved-in-Done : goal.loop-preserved-in-Done
loop-preserved-in-Done g c =
    let left = c.take_turn-next.ensures.left in
    record {
      can = record { sound = c.requires.can.sound; of = left.of; tied = left.leaves.tied (λ behind. done_not_behind c.in-Done.is behind) };
      went = went_through (view c.args.seat) (view c.loop.seat) (view c.take_turn-next.result.0) c.loop.invariant.went left.leaves.went;
    }

pub finish-requires-clause-ended : goal.finish-requires-clause-ended
finish-requires-clause-ended g c =
    tied_finished (plain c.args.actor.now.bundle.now) c.args.actor.now.role.now (view c.loop.seat) (local_of c.loop.state) c.loop.invariant.can.tied (sym c.is_done.ensures ∙ c.if-is_done.true)

pub returns-then-is_done-clause-went : goal.returns-then-is_done-clause-went
returns-then-is_done-clause-went g c =
    went_looked (view c.args.seat) (view c.loop.seat) (view c.finish.result) c.loop.invariant.went c.finish.ensures.saw.looked

pub returns-in-Refused-Full-clause-went : goal.returns-in-Refused-Full-clause-went
returns-in-Refused-Full-clause-went g c =
    went_looked (view c.args.seat) (view c.take_turn-next.result.0) (view c.stop.result)
    (went_through (view c.args.seat) (view c.loop.seat) (view c.take_turn-next.result.0) c.loop.invariant.went c.take_turn-next.ensures.left.leaves.went) c.stop.ensures.saw.looked

pub returns-in-Refused-Memory-clause-went : goal.returns-in-Refused-Memory-clause-went
returns-in-Refused-Memory-clause-went g c =
    went_looked (view c.args.seat) (view c.take_turn-next.result.0) (view c.stop-in-Refused-Memory.result)
    (went_through (view c.args.seat) (view c.loop.seat) (view c.take_turn-next.result.0) c.loop.invariant.went c.take_turn-next.ensures.left.leaves.went) c.stop-in-Refused-Memory.ensures.saw.looked

pub returns-in-Behind-clause-went : goal.returns-in-Behind-clause-went
returns-in-Behind-clause-went g c =
    went_looked (view c.args.seat) (view c.take_turn-next.result.0) (view c.stop-in-Behind.result)
    (went_through (view c.args.seat) (view c.loop.seat) (view c.take_turn-next.result.0) c.loop.invariant.went c.take_turn-next.ensures.left.leaves.went) c.stop-in-Behind.ensures.saw.looked

pub returns-in-Refused-clause-went : goal.returns-in-Refused-clause-went
returns-in-Refused-clause-went g c =
    went_through (view c.args.seat) (view c.loop.seat) (view c.take_turn-next.result.0) c.loop.invariant.went c.take_turn-next.ensures.left.leaves.went

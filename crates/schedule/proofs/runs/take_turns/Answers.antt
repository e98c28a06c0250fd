-- Each turn goes on with the run.
use Rattle.std.proofs.Common.{◌≤◌, sym, ◌∙◌, subst}
use Rattle.net_core.specs.Nets.{IsSoundRun}
use Rattle.schedule.proofs.RunLemmas.{goes_here, goes_more, goes_on}
use Rattle.schedule.specs.Runs.{HasGone}
use Rattle.schedule.proofs.runs.take_turns.Goals as goal

pub turns-init : goal.turns-init
turns-init g c = record { goes = goes_here c.args.net.now c.args.seed; stale = c.requires.stale }

pub returns-in-Some-clause-goes : goal.returns-in-Some-clause-goes
returns-in-Some-clause-goes g c = record { next = c.turns.numbers; goes = c.turns.invariant.goes }

pub returns-in-Some-clause-finish : goal.returns-in-Some-clause-finish
returns-in-Some-clause-finish g c = sym c.finish_of.ensures.finish ∙ c.in-Some.is

pub take_turn-requires-clause-goes : goal.take_turn-requires-clause-goes
take_turn-requires-clause-goes g c = (goes_on c.turns.net (sym c.finish_of.ensures.finish ∙ c.in_default.is)).0

pub take_turn-requires-clause-room : goal.take_turn-requires-clause-room
take_turn-requires-clause-room g c = (goes_on c.turns.net (sym c.finish_of.ensures.finish ∙ c.in_default.is)).1

pub take_turn-requires-clause-limit : goal.take_turn-requires-clause-limit
take_turn-requires-clause-limit g c = subst (λ limit. limit ≤ 4294967295) (sym c.turns.invariant.goes.limit) c.requires.limit

pub take_turn-requires-clause-stale : goal.take_turn-requires-clause-stale
take_turn-requires-clause-stale g c = c.turns.invariant.stale

pub returns-in_err-take_turn-clause-goes : goal.returns-in_err-take_turn-clause-goes
returns-in_err-take_turn-clause-goes g c =
    subst (HasGone c.args.net.now c.args.seed) (sym c.in_err-take_turn.ensures.err)
    (record { next = c.turns.numbers; goes = c.turns.invariant.goes })

pub returns-in_err-take_turn-clause-run : goal.returns-in_err-take_turn-clause-run
returns-in_err-take_turn-clause-run g c = subst IsSoundRun (sym c.in_err-take_turn.ensures.err) c.finish_of.ensures.run

pub turns-preserved : goal.turns-preserved
turns-preserved g c = record {
  goes = goes_more c.args.net.now c.turns.net c.take_turn.new.net c.args.seed c.turns.numbers c.next_seed-numbers.result c.turns.invariant.goes
      c.finish_of.ensures.run (sym c.finish_of.ensures.finish ∙ c.in_default.is) c.in_ok-take_turn.ensures.advanced c.next_seed-numbers.ensures;
  stale = c.in_ok-take_turn.ensures.stale;
}

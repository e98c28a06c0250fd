-- A look leaves the role tied to its seat.
use Rattle.std.proofs.Common.{◌≡◌}
use Rattle.role_runner.proofs.PlayLemmas.{looked_can, looked_left}
use Rattle.role_runner.specs.declared.acting.Tried.TheVariants as tried
use Rattle.stage.specs.declared.faults.CommitFault.TheVariants as fault
use Rattle.role_runner.proofs.playing.go_round.Goals as goal

not_full : tried.Done ≡ tried.Refused fault.Full → ⊥
not_full is = cc

pub returns-in_default-clause-left : goal.returns-in_default-clause-left
returns-in_default-clause-left g c =
    let looked = c.next_to_try-next.ensures in
    looked_left c.args.actor.now c.loop.seat c.next_to_try-next.result.0 c.loop.state looked.of looked.looked c.loop.invariant.can c.args.seat tried.Done not_full c.loop.invariant.went

pub try_act-next-requires : goal.try_act-next-requires
try_act-next-requires g c =
    let looked = c.next_to_try-next.ensures in
    record { can = looked_can c.args.actor.now c.loop.seat c.next_to_try-next.result.0 c.loop.state looked.of looked.looked c.loop.invariant.can }

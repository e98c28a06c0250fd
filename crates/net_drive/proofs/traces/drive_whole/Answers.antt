-- The trace is driven, or the number of its first stray is counted.
use Rattle.std.proofs.Common.{Some, subst}
use Rattle.net_drive.specs.Driving.{IsDriven}
use Rattle.net_drive.proofs.traces.drive_whole.Goals as goal

pub returns-in-Ok-None-clause-driven : goal.returns-in-Ok-None-clause-driven
returns-in-Ok-None-clause-driven g c =
    subst (IsDriven c.args.net.now c.args.trace.now c.drive_through.new.net) c.in-Ok-None.field-0-is c.in-Ok-None.ensures.driven

pub returns-in-Ok-Some-clause-stray : goal.returns-in-Ok-Some-clause-stray
returns-in-Ok-Some-clause-stray g c =
    subst (IsDriven c.args.net.now c.args.trace.now c.drive_through.new.net) c.in-Ok-Some.field-0-is c.in-Ok-Some.ensures.driven

pub returns-in-Ok-Some-clause-counted : goal.returns-in-Ok-Some-clause-counted
returns-in-Ok-Some-clause-counted g c =
    let far : IsDriven c.args.net.now c.args.trace.now c.drive_through.new.net (Some c.in-Ok-Some.number) =
    subst (IsDriven c.args.net.now c.args.trace.now c.drive_through.new.net) c.in-Ok-Some.field-0-is c.in-Ok-Some.ensures.driven in
    (c.drive_strays_are_exact.ensures.some c.args.net.now.bundle c.args.trace.now c.in-Ok-Some.number c.requires.sound c.requires.shown).1 far

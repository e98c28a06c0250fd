-- A step that is refused, but for want of memory, is none of the network.
use Rattle.net_drive.proofs.Refused.{none_made, refused_step}
use Rattle.net_drive.proofs.steps.step.Goals as goal

pub returns-in-Err-clause-makes : goal.returns-in-Err-clause-makes
returns-in-Err-clause-makes g c =
    none_made c.args.net.now c.step.new.self _ c.in-Err.fault c.no_step.result c.no_step.ensures
    (λ other. refused_step c.known.ensures.casts c.known.ensures.offers c.known.ensures.outsiders c.args.net.now c.requires.run c.args.role.now c.args.act.now
    c.in-Err.fault c.requires.room (c.in-Err.ensures.refused other))
    c.in-Err.ensures.err

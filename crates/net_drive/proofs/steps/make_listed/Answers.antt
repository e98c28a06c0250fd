-- The step that is listed is made, or is none of the network, but for want of memory.
use Rattle.std.proofs.Common.{Some, ap, ◌∙◌}
use Rattle.std.specs.Prelude.{map}
use Rattle.dioc_terms.specs.Plain.{setting}
use Rattle.network_steps.specs.Schedule.{move_step}
use Rattle.net_core.specs.Nets.{network_of}
use Rattle.net_drive.proofs.Refused.{none_listed, refused_step}
use Rattle.schedule.proofs.ActedLemmas.{listed_act}
use Rattle.schedule.specs.declared.roles.Listed.TheVariants as listed
use Rattle.schedule.specs.Agendas.{ready_seen}
use Rattle.net_drive.proofs.steps.make_listed.Goals as goal

pub returns-in-Ok : goal.returns-in-Ok
returns-in-Ok g c = λ m there.
    let made = c.in-Ok.ensures.stepped m there in
    (made.outcome, made.steps, made.goes)

pub returns-in-Err : goal.returns-in-Err
returns-in-Err g c =
    let net = c.args.net.now in
    let agenda = c.args.agenda.now in
    none_listed net c.step_listed.new.net (map ready_seen agenda) (listed.Act c.args.doer c.args.place) c.in-Err.fault c.no_step.result c.no_step.ensures
    (λ other m there.
    let act = listed_act agenda c.args.doer c.args.place m there in
    ap (move_step (setting net.bundle) (network_of net)) act.2
    ∙ refused_step c.known.ensures.casts c.known.ensures.offers c.known.ensures.outsiders net c.requires.run act.0 act.1
    c.in-Err.fault c.requires.room (c.in-Err.ensures.refused other act.0 act.1 (there ∙ ap Some act.2)))
    c.in-Err.ensures.err

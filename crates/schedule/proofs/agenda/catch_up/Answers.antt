-- The agenda lists the act that made it stale.
use Rattle.std.proofs.Common.{subst}
use Rattle.std.specs.Prelude.{map}
use Rattle.schedule.proofs.ActedLemmas.{stale_act, stale_change}
use Rattle.schedule.specs.declared.roles.Listed.{Listed}
use Rattle.schedule.specs.Agendas.{IsStaleAt, ready_seen}
use Rattle.schedule.proofs.agenda.catch_up.Goals as goal

pub refresh-requires : goal.refresh-requires
refresh-requires g c =
    stale_act c.args.net.now c.in-Act.doer c.in-Act.place (map ready_seen c.args.agenda.now)
    (subst (λ (made : Listed). IsStaleAt c.args.net.now made (map ready_seen c.args.agenda.now)) c.in-Act.is c.requires)

pub returns-in-Change : goal.returns-in-Change
returns-in-Change g c =
    stale_change c.args.net.now (map ready_seen c.args.agenda.now)
    (subst (λ (made : Listed). IsStaleAt c.args.net.now made (map ready_seen c.args.agenda.now)) c.in-Change.is c.requires)

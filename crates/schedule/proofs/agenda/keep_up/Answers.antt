-- The agenda lists the move that made it stale.
use Rattle.std.proofs.Common.{List, Option, sym, subst}
use Rattle.std.specs.Prelude.{map}
use Rattle.schedule.specs.declared.roles.Listed.{Listed}
use Rattle.schedule.specs.declared.roles.ReadyRole.{ReadyRole}
use Rattle.schedule.specs.Agendas.{IsBehind, IsStaleAt, ready_seen}
use Rattle.schedule.proofs.agenda.keep_up.Goals as goal

pub catch_up-requires : goal.catch_up-requires
catch_up-requires g c =
    subst (λ (l : List ReadyRole). IsStaleAt c.args.net.now c.in-Some.made (map ready_seen l)) (sym c.as_mut_slice.ensures.value)
    (subst (λ (made : Option Listed). IsBehind c.args.net.now made (map ready_seen c.args.agenda.now.items)) c.in-Some.is c.requires)

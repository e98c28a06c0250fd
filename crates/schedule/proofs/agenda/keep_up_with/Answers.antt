-- The agenda is that from before the act.
use Rattle.std.proofs.Common.{Some, subst}
use Rattle.std.specs.Prelude.{map}
use Rattle.network_steps.specs.declared.moves.Move.{Move}
use Rattle.schedule.specs.Agendas.{IsStale, ready_seen}
use Rattle.schedule.proofs.agenda.keep_up_with.Goals as goal

pub refreshed-requires : goal.refreshed-requires
refreshed-requires g c = subst (λ (m : Move). IsStale c.args.net.now (Some m) (map ready_seen c.args.agenda.items)) c.in-Act.is c.requires

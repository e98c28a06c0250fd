-- The agenda that is handed on is the one from before the move.
use Rattle.std.proofs.Common.{List, Some, sym, subst}
use Rattle.std.specs.Prelude.{map}
use Rattle.schedule.specs.Agendas.{IsStale, Shown, ready_seen}
use Rattle.net_drive.proofs.entries.bring_up.Goals as goal

pub keep_up_with-requires : goal.keep_up_with-requires
keep_up_with-requires g c =
    subst (λ (agenda : List Shown). IsStale c.args.net.now (Some c.args.made.now) agenda)
    (λ j. map ready_seen (sym c.replace-before.ensures.value j).items) c.requires

-- A role that is made ready for an act tells the others as before.
use Rattle.std.proofs.Common.{sym, subst}
use Rattle.dpoc_process.specs.LocalStates.{LocalState}
use Rattle.net_core.specs.Scopes.{Tells}
use Rattle.net_core.proofs.parts.do_act.Goals as goal

pub finish-requires-clause-tells : goal.finish-requires-clause-tells
finish-requires-clause-tells g c =
    subst (λ (s : LocalState). Tells c.args.fixed.now.cast.now s c.args.asked.act.now)
    (sym c.prepare_at.ensures.same) c.requires.tells

pub finish-requires-in-Ok-prepare_act-clause-tells : goal.finish-requires-in-Ok-prepare_act-clause-tells
finish-requires-in-Ok-prepare_act-clause-tells g c =
    subst (λ (s : LocalState). Tells c.args.fixed.now.cast.now s c.args.asked.act.now)
    (sym c.prepare_act.ensures.same) c.requires.tells

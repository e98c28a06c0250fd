-- Each role that is asked is one of the cast.
use Rattle.std.proofs.Common.{sym, ap, ◌∙◌}
use Rattle.dioc_terms.specs.Equality.{member}
use Rattle.schedule.proofs.AgendaLemmas.{member_at}
use Rattle.schedule.proofs.agenda.list_ready.Goals as goal

pub list_role-requires : goal.list_role-requires
list_role-requires g c =
    ap (member c.role-item.result) (sym c.cast-cast.ensures) ∙ member_at c.cast-cast.result.now c.loop-role.role-index c.role-item.result c.loop-role-test.true c.role-item.is

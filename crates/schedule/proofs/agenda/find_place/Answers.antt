-- The act stands at the place of that number.
use Rattle.std.proofs.Common.{Some, sym, ap, ◌∙◌}
use Rattle.marked_laws.proofs.Equality.{act_same}
use Rattle.net_core.proofs.Choosing.{chosen_at}
use Rattle.schedule.proofs.agenda.find_place.Goals as goal

pub returns-then-eq : goal.returns-then-eq
returns-then-eq c =
    let x = c.index-acts-places.result in
    chosen_at c.args.acts.now c.args.places.now c.loop-place.place x c.requires c.loop-place-test.true c.index-acts-places.is
    ∙ ap Some (act_same x c.args.act.now (sym c.eq.ensures ∙ c.if-eq.true))

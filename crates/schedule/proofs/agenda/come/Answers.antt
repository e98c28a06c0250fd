-- The takes of the message are put among the places of what the role can do.
use Rattle.std.proofs.Common.{◌≡◌, List, Bool, subst}
use Rattle.std.specs.Prelude.{◌||◌}
use Rattle.std.proofs.lemmas.Result.{on_ok_weaker}
use Rattle.dioc_terms.specs.declared.entries.Act.{Act}
use Rattle.net_core.specs.Places.{places_of}
use Rattle.schedule.proofs.AgendaLemmas.{come_listed}
use Rattle.schedule.specs.Agendas.{takes}
use Rattle.schedule.proofs.agenda.come.Goals as goal

pub returns : goal.returns
returns c =
    let ready = c.args.ready.now in
    let k = c.args.key.now in
    on_ok_weaker c.add_takes.result
    (λ put N was. come_listed N k ready.role ready.acts.items ready.ready.items c.add_takes.new.ready.items was
    (subst (λ (acts : List Act). (p : Act → Bool) → ready.ready.items ≡ places_of p acts → c.add_takes.new.ready.items ≡ places_of (λ a. takes k a || p a) acts)
    c.as_slice.ensures.value put))
    c.add_takes.ensures.places

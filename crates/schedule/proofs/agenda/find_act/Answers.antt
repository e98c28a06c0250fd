-- The act is one of those that the role can do, and the role stands at its place.
use Rattle.std.proofs.Common.{◌≡◌, ℕ, List, Some, slice_get, sym, ap₂, ◌∙◌}
use Rattle.dioc_terms.specs.declared.entries.Act.{Act}
use Rattle.net_core.specs.MovesIn.{chosen}
use Rattle.schedule.proofs.ActedLemmas.{found_act}
use Rattle.schedule.specs.Agendas.{ready_seen}
use Rattle.schedule.proofs.agenda.find_act.Goals as goal

pub returns : goal.returns
returns c =
    let is = c.index-agenda-doer.is in
    let ready = c.index-agenda-doer.result in
    let place = c.in_ok-place.place in
    let got : slice_get (ready_seen ready).1 place ≡ Some c.args.act.now =
    ap₂ (λ (places : List ℕ) (acts : List Act). slice_get (chosen places acts) place)
    (sym c.as_slice-2.ensures.value) (sym c.as_slice.ensures.value)
    ∙ c.in_ok-place.ensures in
    found_act c.args.agenda.now c.in_ok-doer.doer place ready c.args.role.now c.args.act.now is (sym c.find_role.ensures ∙ c.in_ok-doer.was) got

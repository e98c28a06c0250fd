-- A take of the message is one more.
use Rattle.std.proofs.Common.{◌≡◌, sym, ap, ◌∙◌, rules}
use Rattle.net_core.specs.MovesIn.{are_places}
use Rattle.schedule.proofs.ComeLemmas.{come_more, come_same, place_stands}
use Rattle.schedule.specs.Agendas.{with_place}
use Rattle.schedule.proofs.agenda.add_takes.Goals as goal
use Rattle.schedule.proofs.agenda.add_takes.Goals.{then-takes+in_ok-add_place, else-takes}

pub loop-at-init : goal.loop-at-init
loop-at-init c = record { places = λ p is. is; inside = c.requires }

pub loop-at-preserved : goal.loop-at-preserved
loop-at-preserved c =
    let xs = c.args.acts.now in
    let k = c.args.key.now in
    let i = c.loop-at.at in
    let x = c.index-acts-at.result in
    elim c.if-takes.branch [
      | then-takes+in_ok-add_place w ↦
          let added : w.add_place.new.ready.items ≡ with_place i c.loop-at.ready.items = search rules in
          record {
            places = λ p is. ap (λ v. v.items) w.ready-is ∙ added
                ∙ come_more k p xs i x c.loop-at-test.true c.index-acts-at.is (sym c.takes.ensures ∙ w.if-takes.true) c.loop-at.ready.items (c.loop-at.invariant.places p is);
            inside = ap (λ v. are_places v.items xs) w.ready-is ∙ ap (λ ps. are_places ps xs) added
                ∙ place_stands i xs c.loop-at-test.true c.loop-at.ready.items c.loop-at.invariant.inside;
          }
      | else-takes w ↦ record {
        places = λ p is. ap (λ v. v.items) w.ready-is ∙ c.loop-at.invariant.places p is
            ∙ come_same k p xs i x c.loop-at-test.true c.index-acts-at.is (sym c.takes.ensures ∙ w.if-takes.false);
        inside = ap (λ v. are_places v.items xs) w.ready-is ∙ c.loop-at.invariant.inside;
      }
    ]

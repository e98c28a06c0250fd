-- An act that can be done is one more.
use Rattle.std.proofs.Common.{◌≡◌, ◌∷◌, [], ◌++◌, sym, ap, ◌∙◌, rules}
use Rattle.dioc_terms.specs.declared.entries.Act.{Act}
use Rattle.net_core.proofs.Choosing.{chosen_more, chosen_same, one_more_place}
use Rattle.net_core.proofs.PlacesLemmas.{places_more, places_stay}
use Rattle.net_core.specs.Deeds.{is_there}
use Rattle.net_core.specs.MovesIn.{are_places, chosen}
use Rattle.net_core.proofs.listing.add_ready.Goals as goal
use Rattle.net_core.proofs.listing.add_ready.Goals.{then-is_there+in_ok-push, else-is_there}

pub loop-at-preserved : goal.loop-at-preserved
loop-at-preserved c =
    let xs = c.args.acts.now in
    let i = c.loop-at.at in
    let x = c.index-acts-at.result in
    let there = (λ (a : Act). is_there a c.args.mail.now) in
    elim c.if-is_there.branch [
      | then-is_there+in_ok-push w ↦
          let pushed : w.push.new.self.items ≡ c.loop-at.ready.items ++ i ∷ [] = search rules in
          record {
            places = ap (λ v. v.items) w.ready-is ∙ pushed ∙ ap (λ ps. ps ++ i ∷ []) c.loop-at.invariant.places
                ∙ sym (places_more there xs i x c.loop-at-test.true c.index-acts-at.is (sym c.is_there.ensures ∙ w.if-is_there.true));
            ready = ap (λ v. chosen v.items xs) w.ready-is ∙ ap (λ ps. chosen ps xs) pushed
                ∙ chosen_more there xs c.loop-at.ready.items i x c.loop-at-test.true c.loop-at.invariant.ready c.index-acts-at.is (sym c.is_there.ensures ∙ w.if-is_there.true);
            inside = ap (λ v. are_places v.items xs) w.ready-is ∙ ap (λ ps. are_places ps xs) pushed ∙ one_more_place xs c.loop-at.ready.items i c.loop-at-test.true c.loop-at.invariant.inside;
          }
      | else-is_there w ↦ record {
        places = ap (λ v. v.items) w.ready-is ∙ c.loop-at.invariant.places
            ∙ sym (places_stay there xs i x c.loop-at-test.true c.index-acts-at.is (sym c.is_there.ensures ∙ w.if-is_there.false));
        ready = ap (λ v. chosen v.items xs) w.ready-is
            ∙ chosen_same there xs c.loop-at.ready.items i x c.loop-at-test.true c.loop-at.invariant.ready c.index-acts-at.is (sym c.is_there.ensures ∙ w.if-is_there.false);
        inside = ap (λ v. are_places v.items xs) w.ready-is ∙ c.loop-at.invariant.inside;
      }
    ]

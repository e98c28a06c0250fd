-- The act at each of the places is looked at.
use Rattle.std.proofs.Common.{◌≡◌, ◌<◌, ◌≤◌, length, get_or, sym, ap, ◌∙◌, arith}
use Rattle.std.specs.List.{find}
use Rattle.std.proofs.lemmas.List.{drop_all, get_or_default}
use Rattle.drive_laws.specs.Laws.{is_aux_act}
use Rattle.net_core.proofs.Choosing.{chosen_at, place_inside}
use Rattle.net_core.specs.MovesIn.{chosen}
use Rattle.net_drive.proofs.Trying.{aux_here, aux_later}
use Rattle.net_drive.proofs.entries.first_auxiliary.Goals as goal

pub index-act-requires : goal.index-act-requires
index-act-requires c =
    let ready = c.args.ready.now in
    let place = c.loop-place.place in
    let here : place < length ready.ready.items = omega (arith, c.loop-place-test.true) in
    let at : c.index-number.result.now ≡ get_or ready.ready.items place 0 =
    c.index-number.ensures ∙ get_or_default ready.ready.items place c.index-number.result.now 0 here in
    omega (arith, at, place_inside ready.acts.items ready.ready.items place ready.inside here, ready.acts.ok.0)

pub returns-then-is_aux_act-clause-found : goal.returns-then-is_aux_act-clause-found
returns-then-is_aux_act-clause-found c =
    let ready = c.args.ready.now in
    let place = c.loop-place.place in
    let x = c.index-act.result.now in
    let here : place < length ready.ready.items = omega (arith, c.loop-place-test.true) in
    let at : c.index-number.result.now ≡ get_or ready.ready.items place 0 =
    c.index-number.ensures ∙ get_or_default ready.ready.items place c.index-number.result.now 0 here in
    let is = c.index-act.ensures ∙ ap (λ n. get_or ready.acts.items n x) at in
    record {
      act = x;
      there = chosen_at ready.acts.items ready.ready.items place x ready.inside here is;
      first = c.loop-place.invariant ∙ aux_here ready.acts.items ready.ready.items place x ready.inside here is (sym c.is_aux_act.ensures ∙ c.if-is_aux_act.true);
    }

pub loop-place-preserved : goal.loop-place-preserved
loop-place-preserved c =
    let ready = c.args.ready.now in
    let place = c.loop-place.place in
    let x = c.index-act.result.now in
    let here : place < length ready.ready.items = omega (arith, c.loop-place-test.true) in
    let at : c.index-number.result.now ≡ get_or ready.ready.items place 0 =
    c.index-number.ensures ∙ get_or_default ready.ready.items place c.index-number.result.now 0 here in
    let is = c.index-act.ensures ∙ ap (λ n. get_or ready.acts.items n x) at in
    c.loop-place.invariant ∙ aux_later ready.acts.items ready.ready.items place x ready.inside here is (sym c.is_aux_act.ensures ∙ c.if-is_aux_act.false)

pub returns-clause-none : goal.returns-clause-none
returns-clause-none c = λ _.
    let ready = c.args.ready.now in
    let past : length ready.ready.items ≤ c.loop-place.place = omega (arith, c.loop-place-test.false) in
    c.loop-place.invariant ∙ ap (λ ps. find is_aux_act (chosen ps ready.acts.items)) (drop_all c.loop-place.place ready.ready.items past)

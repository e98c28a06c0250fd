-- The place is put before the first that isn't below it.
use Rattle.std.proofs.Common.{◌≡◌, ◌∷◌, [], ◌++◌, sym, ap, ◌∙◌, rules, arith}
use Rattle.std.specs.Prelude.{nat_le}
use Rattle.std.specs.List.{insert, position}
use Rattle.std.proofs.lemmas.List.{get_or_default}
use Rattle.schedule.proofs.ComeLemmas.{none_found, place_found}
use Rattle.schedule.proofs.agenda.add_place.Goals as goal

pub returns-in_default-clause-added : goal.returns-in_default-clause-added
returns-in_default-clause-added c =
    let items = c.args.ready.now.items in
    let pushed : c.push.new.self.items ≡ items ++ c.args.at ∷ [] = search rules in
    pushed ∙ sym (none_found c.args.at items (ap (position (nat_le c.args.at)) (sym c.as_slice.ensures.value) ∙ sym c.place_for.ensures ∙ c.in_default.is))

pub index-requires : goal.index-requires
index-requires c =
    let items = c.args.ready.now.items in
    let found = place_found c.args.at items c.in-Some.place (ap (position (nat_le c.args.at)) (sym c.as_slice.ensures.value) ∙ sym c.place_for.ensures ∙ c.in-Some.is) in
    omega (arith, found.0, c.args.ready.now.ok.0)

pub returns-then-index-at-clause-added : goal.returns-then-index-at-clause-added
returns-then-index-at-clause-added c =
    let items = c.args.ready.now.items in
    let found = place_found c.args.at items c.in-Some.place (ap (position (nat_le c.args.at)) (sym c.as_slice.ensures.value) ∙ sym c.place_for.ensures ∙ c.in-Some.is) in
    sym (found.1 (sym (c.index.ensures ∙ get_or_default items c.in-Some.place c.index.result.now 0 found.0) ∙ c.if-index-at.true))

pub returns-clause-added : goal.returns-clause-added
returns-clause-added c =
    let items = c.args.ready.now.items in
    let found = place_found c.args.at items c.in-Some.place (ap (position (nat_le c.args.at)) (sym c.as_slice.ensures.value) ∙ sym c.place_for.ensures ∙ c.in-Some.is) in
    let inserted : c.insert.new.self.items ≡ insert items c.in-Some.place c.args.at = search rules in
    inserted ∙ sym (found.2 (λ same. c.if-index-at.false (c.index.ensures ∙ get_or_default items c.in-Some.place c.index.result.now 0 found.0 ∙ same)))

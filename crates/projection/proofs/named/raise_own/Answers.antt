use Rattle.std.proofs.Common.{◌≡◌, ◌<◌, ◌||◌, ◌∙◌, Bool, ap, arith, false, get_or, length, map, sym}
use Rattle.std.proofs.lemmas.List.{get_or-map, length-map}
use Rattle.dioc_terms.specs.declared.names.Role.{Role}
use Rattle.dioc_terms.specs.Terms.{term}
use Rattle.projection.specs.Named.{names_itself}
use Rattle.projection.proofs.Places.{none_yet, raised_all, raised_next}
use Rattle.projection.proofs.named.raise_own.Goals as goal

pub loop-place-init : goal.loop-place-init
loop-place-init c = none_yet c.args.named.now

pub loop-place-preserved : goal.loop-place-preserved
loop-place-preserved c =
    let test : Role → Bool = λ q. names_itself q (term c.args.part.now) in
    let of_cast : c.loop-place.place < length c.args.cast.now = omega (arith, c.loop-place-test.true, c.min-places.ensures) in
    let within : c.loop-place.place < length (map test c.args.cast.now) = omega (arith, of_cast, length-map c.args.cast.now test) in
    let inside : c.loop-place.place < length c.args.named.now = omega (arith, c.loop-place-test.true, c.min-places.ensures) in
    let is : c.names_itself.result ≡ get_or (map test c.args.cast.now) c.loop-place.place false =
    c.names_itself.ensures ∙ ap test c.index-cast-place.is ∙ sym (get_or-map test c.args.cast.now c.loop-place.place c.index-cast-place.result false of_cast) in
    raised_next (map test c.args.cast.now) c.args.named.now c.loop-place.named c.loop-place.place c.raise_flag.new.flag within inside c.loop-place.invariant
    (c.raise_flag.ensures ∙ ap (λ b. get_or c.loop-place.named c.loop-place.place false || b) is)

pub returns : goal.returns
returns c =
    let test : Role → Bool = λ q. names_itself q (term c.args.part.now) in
    c.loop-place.invariant
    ∙ raised_all (map test c.args.cast.now) c.args.named.now c.loop-place.place
    (λ i within inside. omega (arith, within, inside, length-map c.args.cast.now test, c.loop-place-test.false, c.min-places.ensures))

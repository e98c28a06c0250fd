use Rattle.std.proofs.Common.{◌<◌, ◌++◌, ◌∙◌, ◌∷◌, [], Bool, ap, arith, cond, filter, length, not}
use Rattle.dioc_terms.specs.declared.names.Role.{Role}
use Rattle.dioc_terms.specs.Equality.{role_eq}
use Rattle.projection.proofs.Places.{flagged_all, passed_next}
use Rattle.projection.proofs.named.others.Goals as goal

pub loop-place-preserved : goal.loop-place-preserved
loop-place-preserved c =
    let within : c.loop-place.place < length c.args.cast.now = omega (arith, c.loop-place-test.true, c.min-places.ensures) in
    let inside : c.loop-place.place < length c.args.named.now = omega (arith, c.loop-place-test.true, c.min-places.ensures) in
    let follows : Role → Bool = λ q. not (role_eq q c.args.leader.now) in
    passed_next follows c.args.cast.now c.args.named.now c.loop-place.place c.index-cast-place.result c.loop-place.roles.items _ within inside c.index-cast-place.is c.loop-place.invariant
    (c.in_ok-keep.ensures ∙ ap (λ b. c.loop-place.roles.items ++ cond b (c.index-cast-place.result ∷ []) []) c.is_other.ensures)

pub returns : goal.returns
returns c =
    let follows : Role → Bool = λ q. not (role_eq q c.args.leader.now) in
    c.new.ensures
    ∙ (c.loop-place.invariant
    ∙ ap (filter follows) (flagged_all c.args.cast.now c.args.named.now c.loop-place.place (λ i within inside. omega (arith, within, inside, c.loop-place-test.false, c.min-places.ensures))))

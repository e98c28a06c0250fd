use Rattle.std.proofs.Common.{◌+◌, drop, sym, ◌∙◌, ap, arith}
use Rattle.aioc_tokens.specs.declared.words.Sort.TheVariants.{End}
use Rattle.aioc_tokens.specs.Lexemes.{sort_of}
use Rattle.aioc_tokens.proofs.Looks.{begins_more, drop_capped}
use Rattle.aioc_tokens.proofs.view.Lexed.begins.Goals as goal

pub loop-place-preserved : goal.loop-place-preserved
loop-place-preserved c =
    let all = c.args.self.now in
    let wanted = c.args.sorts.now in
    let place = c.loop-place.place in
    let small = c.has.ensures.small in
    let capped = ap (λ count. drop count all) c.saturating_add.ensures ∙ drop_capped all (c.args.at + place) 18446744073709551615 (omega arith) in
    begins_more wanted all c.args.at place End c.loop-place-test.true (ap sort_of (sym capped) ∙ c.has.ensures.value.0 c.if-not-has.false) c.loop-place.invariant

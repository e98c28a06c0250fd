use Rattle.std.proofs.Common.{◌≡◌, ◌+◌, ◌<◌, ℕ, List, length, ap, ap₂, sym, ◌∙◌, arith}
use Rattle.std.proofs.lemmas.Bool.Decides.{nat_tests}
use Rattle.std.proofs.lemmas.Result.{IfOk-weaker}
use Rattle.dioc_terms.specs.Terms.{Seq, term}
use Rattle.load_gen.specs.declared.draws.Kind.{Kind}
use Rattle.load_gen.specs.Blocks.{blocks}
use Rattle.load_gen.specs.Made.{sequence}
use Rattle.load_gen.proofs.Rows.{block_more}
use Rattle.load_gen.proofs.texts.+group.Goals as goal

pub returns-in-Ok : goal.returns-in-Ok
returns-in-Ok t c =
    let kind = c.in-Some.kind.now in
    let rest = c.in-Some.rest.now in
    let some : 0 < length rest = grind (arith, nat_tests) in
    IfOk-weaker c.sequence.result
    (λ made. term made ≡ Seq (term c.in-Ok.first) (term c.in_ok-later.later))
    _
    (λ made is. is ∙ (ap₂ Seq c.in-Ok.ensures (c.in_ok-later.ensures
    ∙ ap (λ (d : ℕ). sequence (blocks rest (c.args.b + 1) d)) c.role_after.ensures.value)
    ∙ (block_more kind rest c.args.b c.args.c some
    ∙ ap (λ (l : List Kind). sequence (blocks l c.args.b c.args.c))
    (sym c.in-Some.ensures.cases.0))))
    c.sequence.ensures

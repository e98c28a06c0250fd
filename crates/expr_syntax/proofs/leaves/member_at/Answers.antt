use Rattle.std.proofs.Common.{◌+◌, sym, refl, [], ◌∷◌}
use Rattle.aioc_tokens.specs.declared.words.Punctuator.TheVariants as punctuator
use Rattle.aioc_tokens.specs.declared.words.Sort.TheVariants as sorts
use Rattle.aioc_tokens.proofs.Places.{begins_here, symbol_at}
use Rattle.expr_syntax.proofs.LeafFacts.{member_taken, member_none}
use Rattle.expr_syntax.proofs.leaves.member_at.Goals as goal

pub returns-then-not-begins : goal.returns-then-not-begins
returns-then-not-begins c = member_none c.args.reader.now.text.now c.args.at (λ begins. let found = c.begins.ensures.1 begins in let missed = c.if-not-begins.true in cc)

pub name_at-requires : goal.name_at-requires
name_at-requires c =
    let here = begins_here c.args.reader.now.text.now c.args.at (sorts.Symbol punctuator.Dot) (sorts.Name ∷ []) (c.begins.ensures.0 c.if-not-begins.false) in
    sym (begins_here c.args.reader.now.text.now (c.args.at + 1) sorts.Name [] here.1).0

pub returns : goal.returns
returns c =
    let here = begins_here c.args.reader.now.text.now c.args.at (sorts.Symbol punctuator.Dot) (sorts.Name ∷ []) (c.begins.ensures.0 c.if-not-begins.false) in
    member_taken c.args.reader.now.text.now c.args.at c.in_ok-name.name (symbol_at c.args.reader.now.text.now c.args.at punctuator.Dot punctuator.Dot here.0 refl) c.in_ok-name.ensures.value

use Rattle.std.proofs.Common.{sym, refl, rules, w64}
use mir.Val.{SFits}
use Rattle.aioc_tokens.specs.declared.words.Punctuator.TheVariants as punctuator
use Rattle.aioc_tokens.proofs.Places.{symbol_at}
use Rattle.expr_syntax.proofs.ConstantFacts.{negative_taken, negative_none}
use Rattle.expr_syntax.proofs.constants.negative_at.Goals as goal

pub returns-in-Some : goal.returns-in-Some
returns-in-Some c =
    let minus = symbol_at c.args.text.now c.args.at punctuator.Minus punctuator.Minus (sym c.requires.sort) refl in
    let fits : SFits w64 c.negative.result = search rules in
    negative_taken c.args.text.now c.args.at minus c.in-Some.number c.negative.result c.negative.ensures fits c.in-Some.ensures

pub returns-in-None : goal.returns-in-None
returns-in-None c = negative_none c.args.text.now c.args.at (symbol_at c.args.text.now c.args.at punctuator.Minus punctuator.Minus (sym c.requires.sort) refl) c.in-None.ensures

use Rattle.std.proofs.Common.{true, false, refl}
use Rattle.dioc_terms.specs.declared.values.Value.TheVariants as value
use Rattle.aioc_tokens.specs.declared.words.Word.TheVariants as word
use Rattle.aioc_tokens.specs.Lexemes.{Reserved}
use Rattle.aioc_tokens.proofs.Places.{reserved_at}
use Rattle.expr_syntax.proofs.ConstantFacts.{one_taken}
use Rattle.expr_syntax.proofs.constants.constant_at.Goals as goal

pub returns-in-Reserved-Nil : goal.returns-in-Reserved-Nil
returns-in-Reserved-Nil c = let here = c.in-Reserved-Nil in one_taken c.args.text.now c.args.at (Reserved word.Nil) value.Nil (reserved_at c.args.text.now c.args.at here.field-0 word.Nil here.ensures.value here.field-0-is) refl (here.ensures.within (λ same. cc))

pub returns-in-Reserved-True : goal.returns-in-Reserved-True
returns-in-Reserved-True c = let here = c.in-Reserved-True in one_taken c.args.text.now c.args.at (Reserved word.True) (value.Bool true) (reserved_at c.args.text.now c.args.at here.field-0 word.True here.ensures.value here.field-0-is) refl (here.ensures.within (λ same. cc))

pub returns-in-Reserved-False : goal.returns-in-Reserved-False
returns-in-Reserved-False c = let here = c.in-Reserved-False in one_taken c.args.text.now c.args.at (Reserved word.False) (value.Bool false) (reserved_at c.args.text.now c.args.at here.field-0 word.False here.ensures.value here.field-0-is) refl (here.ensures.within (λ same. cc))

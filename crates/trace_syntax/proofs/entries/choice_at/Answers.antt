use Rattle.std.proofs.Common.{sym, refl}
use Rattle.aioc_tokens.specs.declared.words.Word.TheVariants as word
use Rattle.aioc_tokens.specs.Lexemes.{Reserved}
use Rattle.aioc_tokens.proofs.Places.{reserved_at}
use Rattle.trace_syntax.specs.Reading.{first_rule, first_kept, first_choice}
use Rattle.trace_syntax.proofs.Fronts.{rule_found, kept_found, found_same, found_behind}
use Rattle.trace_syntax.proofs.entries.choice_at.Goals as goal

pub returns-then-has : goal.returns-then-has
returns-then-has c =
    found_behind c.args.text.now c.args.at first_choice first_rule (Reserved word.Rule) c.rule_at.result
    (reserved_at c.args.text.now c.args.at word.Rule word.Rule (sym (c.has.ensures.value.0 cc)) refl) (rule_found _) c.rule_at.ensures

pub returns : goal.returns
returns c =
    found_same first_choice first_kept c.args.text.now c.args.at c.kept_at.result
    (kept_found _ (λ is. let found = c.has.ensures.value.1 is in let missed = c.if-has.false in cc)) c.kept_at.ensures

use Rattle.std.proofs.Common.{ap, sym, ◌∙◌, subst, get_or}
use Rattle.aioc_tokens.specs.declared.kinds.Kind.TheVariants.{Name, Number, Text, Symbol}
use Rattle.aioc_tokens.specs.Tokens.{IsLongestToken}
use Rattle.aioc_tokens.proofs.Firsts.{kind_by, symbol_by}
use Rattle.aioc_tokens.proofs.Runs.{name_longest, number_longest}
use Rattle.bundle_layout.proofs.Lengths.{of_kind}
use Rattle.bundle_layout.proofs.parts.token_length.Goals as goal

pub returns-then-is_ascii_alphabetic : goal.returns-then-is_ascii_alphabetic
returns-then-is_ascii_alphabetic c =
    let text = c.args.text.now in
    subst (IsLongestToken text Name) (sym c.run_length.ensures.value) (name_longest text (sym c.is_ascii_alphabetic.ensures.value ∙ c.if-is_ascii_alphabetic.true))

pub returns-then-is_ascii_digit : goal.returns-then-is_ascii_digit
returns-then-is_ascii_digit c =
    let text = c.args.text.now in
    subst (IsLongestToken text Number) (sym c.run_length-then-is_ascii_digit.ensures.value) (number_longest text (sym c.is_ascii_digit.ensures.value ∙ c.if-is_ascii_digit.true))

pub quoted_length-requires : goal.quoted_length-requires
quoted_length-requires c = of_kind c.args.text.now Text c.requires (ap kind_by c.if-first-eq34.true)

pub symbol_length-requires : goal.symbol_length-requires
symbol_length-requires c =
    let no_letter = sym c.is_ascii_alphabetic.ensures.value ∙ c.if-is_ascii_alphabetic.false in
    let no_digit = sym c.is_ascii_digit.ensures.value ∙ c.if-is_ascii_digit.false in
    of_kind c.args.text.now Symbol c.requires (symbol_by (get_or c.args.text.now 0 0) no_letter no_digit c.if-first-eq34.false)

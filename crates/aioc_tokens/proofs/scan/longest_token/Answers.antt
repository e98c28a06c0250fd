use Rattle.std.proofs.Common.{◌≡◌, ap, sym, ◌∙◌, subst, get_or}
use Rattle.std.specs.Char.{is_ascii_alphabetic, is_ascii_digit}
use Rattle.std.proofs.lemmas.Option.{get_or_from_slice_get}
use Rattle.aioc_tokens.specs.declared.kinds.Kind.TheVariants.{Name, Number, Text, Symbol}
use Rattle.aioc_tokens.specs.Tokens.{IsLongestToken}
use Rattle.aioc_tokens.proofs.Firsts.{kind_by, no_other, symbol_by}
use Rattle.aioc_tokens.proofs.Runs.{name_longest, number_longest}
use Rattle.aioc_tokens.proofs.scan.longest_token.Goals as goal

pub returns-then-is_ascii_alphabetic : goal.returns-then-is_ascii_alphabetic
returns-then-is_ascii_alphabetic c =
    let text = c.args.text.now in
    let first = get_or_from_slice_get text 0 _ 0 (sym c.in_ok-first.ensures.value) in
    subst (IsLongestToken text Name) (sym c.name_length.ensures) (name_longest text (ap is_ascii_alphabetic first ∙ sym c.is_ascii_alphabetic.ensures.value ∙ c.if-is_ascii_alphabetic.true))

pub returns-then-is_ascii_digit : goal.returns-then-is_ascii_digit
returns-then-is_ascii_digit c =
    let text = c.args.text.now in
    let first = get_or_from_slice_get text 0 _ 0 (sym c.in_ok-first.ensures.value) in
    subst (IsLongestToken text Number) (sym c.number_length.ensures) (number_longest text (ap is_ascii_digit first ∙ sym c.is_ascii_digit.ensures.value ∙ c.if-is_ascii_digit.true))

pub returns-in_err-length : goal.returns-in_err-length
returns-in_err-length c =
    let text = c.args.text.now in
    let first = get_or_from_slice_get text 0 _ 0 (sym c.in_ok-first.ensures.value) in
    let kind : kind_by (get_or text 0 0) ≡ Text = ap kind_by (first ∙ c.if-first-eq34.true) in
    rw c.from_residual-in_err-length.ensures (no_other text Text kind c.in_err-length.ensures)

pub returns-in_err-length-2 : goal.returns-in_err-length-2
returns-in_err-length-2 c =
    let text = c.args.text.now in
    let first = get_or_from_slice_get text 0 _ 0 (sym c.in_ok-first.ensures.value) in
    let no_letter = sym c.is_ascii_alphabetic.ensures.value ∙ c.if-is_ascii_alphabetic.false in
    let no_digit = sym c.is_ascii_digit.ensures.value ∙ c.if-is_ascii_digit.false in
    let kind = ap kind_by first ∙ symbol_by c.in_ok-first.field-0.now no_letter no_digit c.if-first-eq34.false in
    rw c.from_residual-in_err-length-2.ensures (no_other text Symbol kind c.in_err-length-2.ensures)

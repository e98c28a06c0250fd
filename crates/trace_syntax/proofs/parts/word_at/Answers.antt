use Rattle.std.proofs.Common.{◌≡◌, ◌+◌, ◌∷◌, ◌∙◌, drop, sym, ap, subst}
use Rattle.std.proofs.lemmas.Slice.Eq.{bytes_eq-Decides}
use Rattle.aioc_tokens.specs.Lexemes.{Name}
use Rattle.trace_syntax.specs.Reading.{behind_word}
use Rattle.trace_syntax.proofs.Fronts.{no_word, word_passed, other_word, passed_here}
use Rattle.trace_syntax.proofs.parts.word_at.Goals as goal

pub returns-then-not-has : goal.returns-then-not-has
returns-then-not-has c = no_word c.args.word.now _ (λ is. let found = c.has.ensures.value.1 is in let missed = c.if-not-has.true in cc)

pub returns-then-eq : goal.returns-then-eq
returns-then-eq c =
    let word = c.args.word.now in
    let same = (bytes_eq-Decides c.name.result.now word).0 (sym c.if-eq.ensures) in
    let here = subst (λ name. drop c.args.at c.args.text.now ≡ Name name ∷ drop (c.args.at + 1) c.args.text.now) same c.name.ensures.value in
    passed_here c.args.text.now c.args.at (behind_word word) (Name word) here (word_passed word _)

pub returns-else-eq : goal.returns-else-eq
returns-else-eq c = ap (behind_word c.args.word.now) c.name.ensures.value ∙ other_word c.args.word.now c.name.result.now _ (sym c.if-eq.ensures)

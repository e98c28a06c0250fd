use Rattle.std.proofs.Common.{◌≡◌, ◌+◌, Some, ◌∷◌, codes, drop, refl, ap, sym, ◌∙◌}
use Rattle.aioc_tokens.specs.Lexemes.{Name}
use Rattle.dioc_syntax.proofs.HeadSorts.{further}
use Rattle.expr_syntax.specs.Constants.{number}
use Rattle.rule_syntax.proofs.Unique.{some_same}
use Rattle.bundle_text.proofs.Found.{unversioned, no_two, versioned}
use Rattle.bundle_text.proofs.reader.version_at.Goals as goal

pub returns-then-not-named : goal.returns-then-not-named
returns-then-not-named c =
    unversioned (drop c.args.at c.args.text.now)
    (λ is. let found = c.named.ensures.1 (is ∙ ap (λ l. Name (codes "version") ∷ l) (further c.args.text.now c.args.at _ refl)) in let missed = c.if-not-named.true in cc)

pub returns-in-Some-eq2 : goal.returns-in-Some-eq2
returns-in-Some-eq2 c =
    let rest = further c.args.text.now c.args.at _ refl in
    let here = c.named.ensures.0 cc in
    versioned (drop c.args.at c.args.text.now) (here ∙ ap (λ l. Name (codes "version") ∷ l) (sym rest))
    (let test = c.in-Some-eq2.field-0-test in let found : Some c.in-Some-eq2.field-0 ≡ number 2 (drop (c.args.at + 1) c.args.text.now) = c.in-Some-eq2.ensures in let far = ap (number 2) rest in cc)

pub returns-in_default : goal.returns-in_default
returns-in_default c =
    let rest = ap (number 2) (further c.args.text.now c.args.at _ refl) in
    no_two (drop c.args.at c.args.text.now) (λ two. c.in_default.field-0-test.1 (some_same (c.in_default.ensures ∙ (sym rest ∙ two))))

pub returns-in_default-2 : goal.returns-in_default-2
returns-in_default-2 c =
    let rest = ap (number 2) (further c.args.text.now c.args.at _ refl) in
    no_two (drop c.args.at c.args.text.now) (λ two. let found = c.number_at.ensures in let is = c.in_default.is in cc)

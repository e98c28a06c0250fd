use Rattle.std.proofs.Common.{◌+◌, subst}
use Rattle.bundle_text.specs.Readers.{ValuesAt}
use Rattle.bundle_text.proofs.Found.{input_missing, input_valueless, input_open, input_found}
use Rattle.bundle_text.proofs.items.input_at.Goals as goal

pub returns-then-not-begins : goal.returns-then-not-begins
returns-then-not-begins c = input_missing c.args.text.now c.args.at (λ is. let found = c.begins.ensures.1 is in let missed = c.if-not-begins.true in cc)

pub returns-in-None : goal.returns-in-None
returns-in-None c = input_valueless c.args.text.now c.args.at (c.begins.ensures.0 cc) (subst (ValuesAt c.args.text.now (c.args.at + 2)) c.in-None.is c.in_ok-read.ensures)

pub returns-then-not-has : goal.returns-then-not-has
returns-then-not-has c =
    input_open c.args.text.now c.args.at c.in-Some.read.0 c.in-Some.read.1 (c.begins.ensures.0 cc) (subst (ValuesAt c.args.text.now (c.args.at + 2)) c.in-Some.is c.in_ok-read.ensures)
    (λ is. let found = c.has.ensures.value.1 is in let missed = c.if-not-has.true in cc)

pub returns : goal.returns
returns c =
    input_found c.args.text.now c.args.at c.in_ok-name_at.field-0 c.in-Some.read.0 c.in-Some.read.1 (c.begins.ensures.0 cc) (subst (ValuesAt c.args.text.now (c.args.at + 2)) c.in-Some.is c.in_ok-read.ensures)
    (c.has.ensures.value.0 cc) c.in_ok-name_at.ensures.value

use Rattle.std.proofs.Common.{◌-◌, length, map, arith}
use Rattle.std.proofs.lemmas.List.{length-map}
use Rattle.dioc_terms.specs.Plain.{plain_rule}
use Rattle.rule_book.proofs.OrderLemmas.{numbers_from-below}
use Rattle.rule_book.proofs.book.Book.new.Goals as goal

pub keep_script-requires-clause-there : goal.keep_script-requires-clause-there
keep_script-requires-clause-there c =
    let b = c.args.bundle.now in
    rw (c.as_slice-rules.ensures, c.as_slice.ensures, c.requires.added)
    (numbers_from-below (length b.rules) b.opening (length (map plain_rule b.rules) - b.opening)
    (omega (arith, c.requires.opening, length-map b.rules plain_rule)))

pub returns-clause-of : goal.returns-clause-of
returns-clause-of c = record {
  kept = rw (← c.as_slice-rules.ensures) c.in_ok-rules.ensures.kept;
  coming = rw (← c.as_slice-rules.ensures) c.in_ok-coming.ensures.kept;
}

-- No property so far has the name and the number.
use Rattle.std.proofs.Common.{◌≡◌, take, false}
use Rattle.dioc_terms.specs.declared.values.Value.TheVariants as values
use Rattle.dioc_terms.specs.Equality.{value_eq}
use Rattle.dioc_terms.specs.Values.{bound}
use Rattle.rule_book.proofs.kept.is_no_number.Given as goal

abbrev pub invariant-loop-key : goal.invariant-loop-key
invariant-loop-key l =
    value_eq (bound (take l.key-index l.props) l.name) (values.Int l.number) ≡ false

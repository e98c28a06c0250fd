-- The changes so far are those of the script so far, and each is kept as it is.
use Rattle.std.proofs.Common.{◌≡◌, map, take}
use Rattle.std.specs.List.{AllByRecursion}
use Rattle.dioc_terms.specs.Plain.{plain_rule}
use Rattle.rule_book.specs.Kept.{change_of, IsKeptChange}
use Rattle.rule_book.proofs.keeping.keep_script.Given as goal

abbrev pub invariant-loop-timed : goal.invariant-loop-timed
invariant-loop-timed l = record {
  changes : map change_of l.kept.items ≡ map (λ timed. timed.change) (take l.timed-index l.script);
  kept : AllByRecursion (IsKeptChange (map plain_rule l.rules)) l.kept.items;
}

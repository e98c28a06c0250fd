-- One for each number so far, and there is room for all and for two more.
use Rattle.std.proofs.Common.{◌≡◌, ◌≤◌, length, map}
use Rattle.dioc_terms.specs.Bundles.{numbers_from}
use Rattle.load_gen.specs.Made.{add}
use Rattle.load_gen.proofs.rules.script.Given as goal

abbrev pub invariant-loop-j : goal.invariant-loop-j
invariant-loop-j l = record {
  made : l.script.items ≡ map add (numbers_from 0 l.j);
  count : length l.script.items ≡ l.j;
  room : 10 ≤ l.script.cap;
}

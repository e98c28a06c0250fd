-- One for each number so far, and there is room for all.
use Rattle.std.proofs.Common.{◌≡◌, ◌≤◌, length, map}
use Rattle.dioc_terms.specs.Bundles.{numbers_from}
use Rattle.load_gen.specs.Pieces.{role_numbered}
use Rattle.load_gen.proofs.rules.roles.Given as goal

abbrev pub invariant-loop-j : goal.invariant-loop-j
invariant-loop-j l = record {
  made : l.roles.items ≡ map role_numbered (numbers_from 0 l.j);
  count : length l.roles.items ≡ l.j;
  room : 8 ≤ l.roles.cap;
}

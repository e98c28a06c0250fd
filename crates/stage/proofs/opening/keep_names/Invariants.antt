-- The names so far are those of the rules so far, and there is room for all.
use Rattle.std.proofs.Common.{◌≡◌, ◌≤◌, length, map, take}
use Rattle.stage.proofs.opening.keep_names.Given as goal

abbrev pub invariant-loop-rule : goal.invariant-loop-rule
invariant-loop-rule l = record {
  names : l.names.items ≡ map (λ rule. rule.name) (take l.rule-index l.rules);
  count : length l.names.items ≡ l.rule-index;
  room : length l.rules ≤ l.names.cap;
}

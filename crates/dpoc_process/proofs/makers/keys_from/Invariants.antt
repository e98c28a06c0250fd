-- The keys so far are those from the others so far, and there is room for all.
use Rattle.std.proofs.Common.{◌≡◌, ◌≤◌, length, map, take}
use Rattle.process_steps.specs.Steps.{key}
use Rattle.dpoc_process.proofs.makers.keys_from.Given as goal

abbrev pub invariant-loop-other : goal.invariant-loop-other
invariant-loop-other l = record {
  keys : l.keys.items ≡ map (λ other. key other l.me l.index l.tag) (take l.other-index l.others);
  count : length l.keys.items ≡ l.other-index;
  room : length l.others ≤ l.keys.cap;
}

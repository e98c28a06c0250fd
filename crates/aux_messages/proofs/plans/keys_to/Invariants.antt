-- The keys so far are those to the others so far, and there is room for all.
use Rattle.std.proofs.Common.{◌≡◌, ◌≤◌, length, map, take}
use Rattle.process_steps.specs.Steps.{key}
use Rattle.aux_messages.proofs.plans.keys_to.Given as goal

abbrev pub invariant-loop-other : goal.invariant-loop-other
invariant-loop-other l = record {
  keys : l.plan.items ≡ map (λ other. key l.leader other l.index l.tag) (take l.other-index l.others);
  count : length l.plan.items ≡ l.other-index;
  room : length l.others ≤ l.plan.cap;
}

-- The values so far, with what is given for the role further on, are all of them.
use Rattle.std.proofs.Common.{◌≡◌, ◌++◌, drop}
use Rattle.global_steps.specs.Follow.{inputs_of}
use Rattle.net_core.proofs.starting.take_inputs.Given as goal

abbrev pub invariant-loop-given : goal.invariant-loop-given
invariant-loop-given l =
    l.values.items ++ inputs_of (drop l.given-index l.inputs) l.role ≡ l.initial.values.items ++ inputs_of l.inputs l.role

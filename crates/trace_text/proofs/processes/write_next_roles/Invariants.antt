use Rattle.std.proofs.Common.{◌≡◌, ◌++◌, take, flat_map}
use Rattle.trace_text.specs.Process.{next_role_text}
use Rattle.trace_text.proofs.processes.write_next_roles.Given as goal

abbrev pub invariant-loop-next : goal.invariant-loop-next
invariant-loop-next l =
    l.out.items ≡ l.fn.out.items ++ flat_map next_role_text (take l.next-index l.rest)

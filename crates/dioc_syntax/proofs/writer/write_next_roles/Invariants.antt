use Rattle.std.proofs.Common.{◌≡◌, ◌++◌, take, flat_map}
use Rattle.dioc_syntax.specs.Pieces.{next_role_text}
use Rattle.dioc_syntax.proofs.writer.write_next_roles.Given as goal

abbrev pub invariant-loop-next : goal.invariant-loop-next
invariant-loop-next l =
    l.out.items ≡ l.fn.out.items ++ flat_map next_role_text (take l.next-index l.rest)

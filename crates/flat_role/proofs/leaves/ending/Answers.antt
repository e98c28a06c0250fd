-- The end is the one message that is put.
use Rattle.std.proofs.Common.{ap}
use Rattle.dioc_terms.specs.Processes.{Nothing}
use Rattle.flat_code.specs.Places.{op_process}
use Rattle.flat_role.specs.Leaves.{front}
use Rattle.role_statuses.specs.Marks as mark
use Rattle.flat_role.proofs.leaves.ending.Goals as goal

pub returns-in-WhileFollow-clause-next : goal.returns-in-WhileFollow-clause-next
returns-in-WhileFollow-clause-next c me parts =
    (Nothing, ap (λ o. front me mark.Ending (op_process parts o)) c.in-WhileFollow.is)

pub returns-in-ScopeFollow-clause-next : goal.returns-in-ScopeFollow-clause-next
returns-in-ScopeFollow-clause-next c me parts =
    (Nothing, ap (λ o. front me mark.Ending (op_process parts o)) c.in-ScopeFollow.is)

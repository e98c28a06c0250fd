use Rattle.std.proofs.Common.{arith}
use Rattle.std.proofs.lemmas.Grind.{common_steps}
use Rattle.trace_text.proofs.processes.write_head.Goals as goal

pub returns-in-Assign-clause-ok : goal.returns-in-Assign-clause-ok
returns-in-Assign-clause-ok c = grind (arith, common_steps)

pub returns-in-IfFollow-clause-ok : goal.returns-in-IfFollow-clause-ok
returns-in-IfFollow-clause-ok c = grind (arith, common_steps)

pub returns-in-IfLead-clause-ok : goal.returns-in-IfLead-clause-ok
returns-in-IfLead-clause-ok c = grind (arith, common_steps)

pub returns-in-Read-clause-ok : goal.returns-in-Read-clause-ok
returns-in-Read-clause-ok c = grind (arith, common_steps)

pub returns-in-Recv-clause-ok : goal.returns-in-Recv-clause-ok
returns-in-Recv-clause-ok c = grind (arith, common_steps)

pub returns-in-ScopeFollow-clause-ok : goal.returns-in-ScopeFollow-clause-ok
returns-in-ScopeFollow-clause-ok c = grind (arith, common_steps)

pub returns-in-ScopeLead-clause-ok : goal.returns-in-ScopeLead-clause-ok
returns-in-ScopeLead-clause-ok c = grind (arith, common_steps)

pub returns-in-Send-clause-ok : goal.returns-in-Send-clause-ok
returns-in-Send-clause-ok c = grind (arith, common_steps)

pub returns-in-Seq-clause-ok : goal.returns-in-Seq-clause-ok
returns-in-Seq-clause-ok c = grind (arith, common_steps)

pub returns-in-Skip-clause-ok : goal.returns-in-Skip-clause-ok
returns-in-Skip-clause-ok c = grind (arith, common_steps)

pub returns-in-Tell-2-clause-ok : goal.returns-in-Tell-2-clause-ok
returns-in-Tell-2-clause-ok c = grind (arith, common_steps)

pub returns-in-Tell-clause-ok : goal.returns-in-Tell-clause-ok
returns-in-Tell-clause-ok c = grind (arith, common_steps)

pub returns-in-WhileFollow-clause-ok : goal.returns-in-WhileFollow-clause-ok
returns-in-WhileFollow-clause-ok c = grind (arith, common_steps)

pub returns-in-WhileLead-clause-ok : goal.returns-in-WhileLead-clause-ok
returns-in-WhileLead-clause-ok c = grind (arith, common_steps)

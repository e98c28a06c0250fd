use Rattle.std.proofs.Common.{rules}
use Rattle.dpoc_process.proofs.growth.growth_at.Goals as goal

pub returns-in-IfLead : goal.returns-in-IfLead
returns-in-IfLead c = search rules depth 3

pub returns-in-WhileLead : goal.returns-in-WhileLead
returns-in-WhileLead c = search rules depth 3

pub returns-in-ScopeLead : goal.returns-in-ScopeLead
returns-in-ScopeLead c = search rules depth 3

pub returns-in-WhileFollow : goal.returns-in-WhileFollow
returns-in-WhileFollow c = search rules depth 3

pub returns-in-ScopeFollow : goal.returns-in-ScopeFollow
returns-in-ScopeFollow c = search rules depth 3

pub returns-in-Tell : goal.returns-in-Tell
returns-in-Tell c = search rules depth 3

pub returns-in_default : goal.returns-in_default
returns-in_default c = search rules depth 3

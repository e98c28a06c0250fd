-- Terms and processes with no other one inside, and what follows another role.
use Rattle.std.specs.Prelude.{Bool, true, false}
use Rattle.dioc_terms.specs.Terms.{Term}
use Rattle.dioc_terms.specs.Terms as term
use Rattle.dioc_terms.specs.Processes.{Process}
use Rattle.dioc_terms.specs.Processes as process

-- a term with no term inside
abbrev pub is_leaf_term : Term → Bool
is_leaf_term (term.Seq I J) = false
is_leaf_term (term.Par I J) = false
is_leaf_term (term.If i r g I J) = false
is_leaf_term (term.While i r g I) = false
is_leaf_term (term.Scope i r I extra props level) = false
is_leaf_term _ = true

-- a construct that another role leads
abbrev pub is_follower : Process → Bool
is_follower (process.IfFollow i r P Q) = true
is_follower (process.WhileFollow i r P) = true
is_follower (process.ScopeFollow i r P) = true
is_follower _ = false

-- a process with neither a process nor messages inside
abbrev pub is_leaf_process : Process → Bool
is_leaf_process (process.Seq P Q) = false
is_leaf_process (process.Par P Q) = false
is_leaf_process (process.IfLead i g others P Q) = false
is_leaf_process (process.IfFollow i r P Q) = false
is_leaf_process (process.WhileLead i g others P) = false
is_leaf_process (process.WhileFollow i r P) = false
is_leaf_process (process.ScopeLead head others P) = false
is_leaf_process (process.ScopeFollow i r P) = false
is_leaf_process (process.Tell ms) = false
is_leaf_process _ = true

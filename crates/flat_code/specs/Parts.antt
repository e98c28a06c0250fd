-- A process with other parts, and a loop or a scope with another body.
use Rattle.dioc_terms.specs.Processes.{Process, Seq, Par, IfLead, IfFollow, WhileLead, WhileFollow, ScopeLead, ScopeFollow}

-- the process with two other parts
abbrev pub with_two : Process → Process → Process → Process
with_two (Seq P Q) R S = Seq R S
with_two (Par P Q) R S = Par R S
with_two (IfLead i g others P Q) R S = IfLead i g others R S
with_two (IfFollow i leader P Q) R S = IfFollow i leader R S
with_two P R S = P

-- the loop or the scope with another body
abbrev pub with_body : Process → Process → Process
with_body (WhileLead i g others P) Q = WhileLead i g others Q
with_body (WhileFollow i leader P) Q = WhileFollow i leader Q
with_body (ScopeLead head others P) Q = ScopeLead head others Q
with_body (ScopeFollow i leader P) Q = ScopeFollow i leader Q
with_body P Q = P

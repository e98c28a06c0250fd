-- The process of one role of a choreography. A construct without the role is Skip; sequences and
-- parallels are kept as they are.
use Rattle.std.specs.Prelude.{List, if◌then◌else◌}
use Rattle.dioc_terms.specs.declared.names.Role.{Role}
use Rattle.dioc_terms.specs.Equality.{role_eq}
use Rattle.dioc_terms.specs.Terms as term
use Rattle.dioc_terms.specs.Terms.{Term, is_in, others, head_of}
use Rattle.dioc_terms.specs.Processes as process
use Rattle.dioc_terms.specs.Processes.{Process}

abbrev pub projected : List Role → Term → Role → Process
projected cast term.Skip r = process.Skip
projected cast (term.Com i o a e b x) r =
    if role_eq r a then process.Send i o b e else if role_eq r b then process.Recv i o a x else
    process.Skip
projected cast (term.Set i x q e) r = if role_eq r q then process.Assign i x e else process.Skip
projected cast (term.Input i x q) r = if role_eq r q then process.Read i x else process.Skip
projected cast (term.Seq I J) r = process.Seq (projected cast I r) (projected cast J r)
projected cast (term.Par I J) r = process.Par (projected cast I r) (projected cast J r)
projected cast (term.If i q g I J) r =
    if role_eq r q then process.IfLead i g (others cast q (term.If i q g I J)) (projected cast I r)
    (projected cast J r)
    else if is_in r (term.If i q g I J) then process.IfFollow i q (projected cast I r)
    (projected cast J r) else process.Skip
projected cast (term.While i q g I) r =
    if role_eq r q then process.WhileLead i g (others cast q (term.While i q g I))
    (projected cast I r)
    else if is_in r (term.While i q g I) then process.WhileFollow i q (projected cast I r) else
    process.Skip
-- a role that the scope names and its body lacks follows the scope with nothing to do inside
projected cast (term.Scope i q I extra props level) r =
    if role_eq r q then process.ScopeLead (head_of cast i q I extra props level)
    (others cast q (term.Scope i q I extra props level)) (projected cast I r)
    else if is_in r (term.Scope i q I extra props level) then process.ScopeFollow i q
    (if is_in r I then projected cast I r else process.Skip)
    else process.Skip

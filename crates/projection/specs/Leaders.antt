-- Constructs that a role leads.
use Rattle.std.specs.Prelude.{Bool, true, false}
use Rattle.dioc_terms.specs.declared.names.Role.{Role}
use Rattle.dioc_terms.specs.Equality.{role_eq}
use Rattle.dioc_terms.specs.Terms.{Term, If, While, Scope}

-- a choice, a loop or a scope
abbrev pub is_construct : Term → Bool
is_construct (If i q g I J) = true
is_construct (While i q g I) = true
is_construct (Scope i q I extra props level) = true
is_construct _ = false

-- a loop or a scope
abbrev pub is_block : Term → Bool
is_block (While i q g I) = true
is_block (Scope i q I extra props level) = true
is_block _ = false

-- a choice, a loop or a scope that the role leads
abbrev pub leads : Role → Term → Bool
leads r (If i q g I J) = role_eq r q
leads r (While i q g I) = role_eq r q
leads r (Scope i q I extra props level) = role_eq r q
leads r _ = false

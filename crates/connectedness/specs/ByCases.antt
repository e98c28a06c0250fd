-- Who begins a term, and who is in each group that ends it: the same questions as those to the
-- lists, by recursion over the term.
use Rattle.std.specs.Prelude.{Bool, true, false, ◌&&◌, ◌||◌, if◌then◌else◌}
use Rattle.dioc_terms.specs.declared.names.Role.{Role}
use Rattle.dioc_terms.specs.Equality.{role_eq}
use Rattle.dioc_terms.specs.Terms.{Term, Skip, Com, Set, Input, Seq, Par, If, While, Scope, empty, is_in}

-- whether the role begins the term
abbrev pub begins : Role → Term → Bool
begins q Skip = false
begins q (Com i o a e b x) = role_eq q a
begins q (Set i x r e) = role_eq q r
begins q (Input i x r) = role_eq q r
begins q (Seq I J) = if empty I then begins q J else begins q I
begins q (Par I J) = begins q I || begins q J
begins q (If i r g I J) = role_eq q r
begins q (While i r g I) = role_eq q r
begins q (Scope i r I extra props level) = role_eq q r

-- whether the role is in each group that ends the term
abbrev pub attends_ends : Role → Term → Bool
attends_ends q Skip = true
attends_ends q (Com i o a e b x) = role_eq q a || role_eq q b
attends_ends q (Set i x r e) = role_eq q r
attends_ends q (Input i x r) = role_eq q r
attends_ends q (Seq I J) = if empty J then attends_ends q I else attends_ends q J
attends_ends q (Par I J) = attends_ends q I && attends_ends q J
attends_ends q (If i r g I J) =
    (if empty I then is_in q (If i r g I J) else attends_ends q I)
    && (if empty J then is_in q (If i r g I J) else attends_ends q J)
attends_ends q (While i r g I) = is_in q (While i r g I)
attends_ends q (Scope i r I extra props level) = is_in q (Scope i r I extra props level)

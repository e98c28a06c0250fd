-- Which roles a part of a choreography names, as a flag for each role of the cast.
use Rattle.std.specs.Prelude.{Bool, false, ◌||◌, List, [], ◌∷◌, map, if◌then◌else◌}
use Rattle.dioc_terms.specs.declared.names.Role.{Role}
use Rattle.dioc_terms.specs.Equality.{role_eq, member}
use Rattle.dioc_terms.specs.Terms.{Term, Skip, Com, Set, Input, Seq, Par, If, While, Scope, is_in}

-- whether the part itself names the role, whatever stands inside it
abbrev pub names_itself : Role → Term → Bool
names_itself q Skip = false
names_itself q (Com i o a e b x) = role_eq q a || role_eq q b
names_itself q (Set i x r e) = role_eq q r
names_itself q (Input i x r) = role_eq q r
names_itself q (Seq I J) = false
names_itself q (Par I J) = false
names_itself q (If i r g I J) = role_eq q r
names_itself q (While i r g I) = role_eq q r
names_itself q (Scope i r I extra props level) = role_eq q r || member q extra

-- whether what stands inside the part names the role
abbrev pub names_inside : Role → Term → Bool
names_inside q (Seq I J) = is_in q I || is_in q J
names_inside q (Par I J) = is_in q I || is_in q J
names_inside q (If i r g I J) = is_in q I || is_in q J
names_inside q (While i r g I) = is_in q I
names_inside q (Scope i r I extra props level) = is_in q I
names_inside q _ = false

-- the flags of a part
abbrev pub named_in : List Role → Term → List Bool
named_in cast I = map (λ q. is_in q I) cast

-- as many flags as the second list has, raised where it or the first one has them raised
abbrev pub raised : List Bool → List Bool → List Bool
raised more [] = []
raised [] (b ∷ bs) = b ∷ bs
raised (m ∷ ms) (b ∷ bs) = (b || m) ∷ raised ms bs

-- the roles whose flags are raised
abbrev pub flagged : List Role → List Bool → List Role
flagged [] bs = []
flagged (q ∷ qs) [] = []
flagged (q ∷ qs) (b ∷ bs) = if b then q ∷ flagged qs bs else flagged qs bs

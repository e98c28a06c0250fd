-- A sequence is connected where whoever begins its second part took part in each ending of its
-- first.
use Rattle.std.specs.Prelude.{List, [], ◌∷◌, ◌++◌, Bool, true, ◌&&◌, not, if◌then◌else◌, Option, Some, None, find}
use Rattle.std.specs.List.{list_all}
use Rattle.dioc_terms.specs.declared.names.Role.{Role}
use Rattle.dioc_terms.specs.declared.names.Index.{Index}
use Rattle.dioc_terms.specs.Equality.{member}
use Rattle.dioc_terms.specs.Terms.{Term, Skip, Com, Set, Input, Seq, Par, If, While, Scope, empty, mentions}

-- the roles that begin a term
abbrev pub starters : Term → List Role
starters Skip = []
starters (Com i o a e b x) = a ∷ []
starters (Set i x r e) = r ∷ []
starters (Input i x r) = r ∷ []
starters (Seq I J) = if empty I then starters J else starters I
starters (Par I J) = starters I ++ starters J
starters (If i r g I J) = r ∷ []
starters (While i r g I) = r ∷ []
starters (Scope i r I extra props level) = r ∷ []

-- The groups of roles that end a term, one for each ending. An empty branch of a choice counts as
-- one group, all roles of the choice.
abbrev pub groups : Term → List (List Role)
groups Skip = []
groups (Com i o a e b x) = (a ∷ b ∷ []) ∷ []
groups (Set i x r e) = (r ∷ []) ∷ []
groups (Input i x r) = (r ∷ []) ∷ []
groups (Seq I J) = if empty J then groups I else groups J
groups (Par I J) = groups I ++ groups J
groups (If i r g I J) =
    (if empty I then mentions (If i r g I J) ∷ [] else groups I)
    ++ (if empty J then mentions (If i r g I J) ∷ [] else groups J)
groups (While i r g I) = mentions (While i r g I) ∷ []
groups (Scope i r I extra props level) = mentions (Scope i r I extra props level) ∷ []

-- whether the role is in each group that ends the term
abbrev pub in_each_group : Term → Role → Bool
in_each_group I q = list_all (member q) (groups I)

-- whoever begins the second is in each group that ends the first
abbrev pub linked : Term → Term → Bool
linked I J = list_all (in_each_group I) (starters J)

-- each sequence inside is linked
abbrev pub connected : Term → Bool
connected (Seq I J) = linked I J && connected I && connected J
connected (Par I J) = connected I && connected J
connected (If i r g I J) = connected I && connected J
connected (While i r g I) = connected I
connected (Scope i r I extra props level) = connected I
connected _ = true

-- the index of the first indexed construct
abbrev pub first_index : Term → Option Index
first_index Skip = None
first_index (Com i o a e b x) = Some i
first_index (Set i x r e) = Some i
first_index (Input i x r) = Some i
first_index (Seq I J) = first_some (first_index I) (first_index J)
  where
    first_some : Option Index → Option Index → Option Index
    first_some None second = second
    first_some (Some i) second = Some i
first_index (Par I J) = first_some (first_index I) (first_index J)
  where
    first_some : Option Index → Option Index → Option Index
    first_some None second = second
    first_some (Some i) second = Some i
first_index (If i r g I J) = Some i
first_index (While i r g I) = Some i
first_index (Scope i r I extra props level) = Some i

-- where a sequence isn't linked: its parts' first indices, and the role that is missing
pub record Gap : Type 0 where
  pub first : Index
  pub second : Index
  pub role : Role

-- the gap of one sequence: the first role of the cast that begins the second part and is missing
-- from a group of the first
abbrev pub gap_at : List Role → Term → Term → Option Gap
gap_at cast I J =
    gap (first_index I) (first_index J)
    (find (λ q. member q (starters J) && not (in_each_group I q)) cast)
  where
    gap : Option Index → Option Index → Option Role → Option Gap
    gap (Some i) (Some j) (Some q) = Some (record { first = i; second = j; role = q })
    gap _ _ _ = None

abbrev pub earlier : Option Gap → Option Gap → Option Gap
earlier (Some gap) later = Some gap
earlier None later = later

-- the first sequence that isn't linked, outer ones before those inside them, left before right
abbrev pub first_gap : List Role → Term → Option Gap
first_gap cast (Seq I J) = earlier (gap_at cast I J) (earlier (first_gap cast I) (first_gap cast J))
first_gap cast (Par I J) = earlier (first_gap cast I) (first_gap cast J)
first_gap cast (If i r g I J) = earlier (first_gap cast I) (first_gap cast J)
first_gap cast (While i r g I) = first_gap cast I
first_gap cast (Scope i r I extra props level) = first_gap cast I
first_gap cast _ = None

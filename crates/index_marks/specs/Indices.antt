-- The indices of a choreography, and whether they differ.
use Rattle.std.specs.Prelude.{List, [], ◌∷◌, ◌++◌, Bool, true, ◌&&◌, not}
use Rattle.std.specs.List.{list_any}
use Rattle.dioc_terms.specs.declared.names.Index.{Index}
use Rattle.dioc_terms.specs.Equality.{index_eq}
use Rattle.dioc_terms.specs.Terms.{Term, Skip, Com, Set, Input, Seq, Par, If, While, Scope}

-- the indices of a term's constructs, in the order in which they begin in its text
abbrev pub indices : Term → List Index
indices Skip = []
indices (Com i o a e b x) = i ∷ []
indices (Set i x r e) = i ∷ []
indices (Input i x r) = i ∷ []
indices (Seq I J) = indices I ++ indices J
indices (Par I J) = indices I ++ indices J
indices (If i r g I J) = i ∷ (indices I ++ indices J)
indices (While i r g I) = i ∷ indices I
indices (Scope i r I extra props level) = i ∷ indices I

-- whether the index is one of these
abbrev pub is_among : Index → List Index → Bool
is_among i seen = list_any (index_eq i) seen

-- no index stands twice
abbrev pub are_distinct : List Index → Bool
are_distinct [] = true
are_distinct (i ∷ is) = not (is_among i is) && are_distinct is

-- none of these has been seen before it, neither among the earlier ones nor among those seen at the
-- start
abbrev pub are_new : List Index → List Index → Bool
are_new seen [] = true
are_new seen (i ∷ is) = not (is_among i seen) && are_new (seen ++ i ∷ []) is

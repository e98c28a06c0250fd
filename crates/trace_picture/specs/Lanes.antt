-- The lanes of a picture: the roles of a trace, in the order in which it first names them.
use Rattle.std.specs.Prelude.{ℕ, List, [], ◌∷◌, not, length, max}
use Rattle.std.specs.List.{fold, prefix_len}
use Rattle.indexmap.specs.IndexSet.{insert_all}
use Rattle.dioc_terms.specs.declared.names.Role.{Role}
use Rattle.dioc_terms.specs.declared.entries.Entry.{Entry}
use Rattle.dioc_terms.specs.declared.entries.Entry.TheVariants as entry
use Rattle.dioc_terms.specs.Equality.{role_eq}

-- the roles that an entry names; a change names none
abbrev pub roles_of : Entry → List Role
roles_of (entry.Put k n) = k.from ∷ k.to ∷ []
roles_of (entry.Take k x) = k.from ∷ k.to ∷ []
roles_of (entry.Set i r x v) = r ∷ []
roles_of (entry.Input i r x v) = r ∷ []
roles_of (entry.Pick i r b) = r ∷ []
roles_of (entry.Scope i r c) = r ∷ []
roles_of _ = []

-- the lanes with those of an entry's roles, each new one behind the others
abbrev pub with_lanes : List Role → Entry → List Role
with_lanes lanes e = insert_all role_eq lanes (roles_of e)

abbrev pub lanes_of : List Entry → List Role
lanes_of entries = fold with_lanes [] entries

-- the number of the role's lane, counted from 0; as many as there are lanes where it has none
abbrev pub lane_of : List Role → Role → ℕ
lane_of lanes r = prefix_len (λ lane. not (role_eq lane r)) lanes

-- how long the longest name of a lane is, and `least` at least
abbrev pub longest_name : ℕ → List Role → ℕ
longest_name least lanes = fold (λ most lane. max most (length lane.0)) least lanes

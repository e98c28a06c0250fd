-- Whose an entry of a history is, as a number: the place of its role in the cast, and of a change
-- the number of roles.
use Rattle.std.specs.Prelude.{ℕ, suc, List, [], ◌∷◌, length, if◌then◌else◌}
use Rattle.std.specs.Option.{option_map_or}
use Rattle.dioc_terms.specs.declared.names.Role.{Role}
use Rattle.dioc_terms.specs.declared.entries.Entry.{Entry}
use Rattle.dioc_terms.specs.Equality.{role_eq}
use Rattle.dioc_terms.specs.Messages.{doer}

-- the place of a role in the cast, and the number of roles where it isn't there
abbrev pub cast_place : List Role → Role → ℕ
cast_place [] q = 0
cast_place (r ∷ rs) q = if role_eq q r then 0 else suc (cast_place rs q)

abbrev pub owner_in : List Role → Entry → ℕ
owner_in cast e = option_map_or (cast_place cast) (doer e) (length cast)

-- A history as contracts see it, and which entries are those of a role.
use Rattle.std.specs.Prelude.{ℕ, List, Bool, Some}
use Rattle.std.specs.Option.{option_eq}
use Rattle.dioc_terms.specs.declared.names.Role.{Role}
use Rattle.dioc_terms.specs.declared.entries.Entry.{Entry}
use Rattle.dioc_terms.specs.Equality.{role_eq}
use Rattle.dioc_terms.specs.Messages.{doer}

pub record Written : Type 0 where
  -- the entries so far, in their order
  pub entries : List Entry
  -- so many more can be added with no memory taken
  pub room : ℕ

-- whether the role is the one that the entry belongs to
abbrev pub is_of : Role → Entry → Bool
is_of role e = option_eq role_eq (doer e) (Some role)

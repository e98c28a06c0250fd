-- What holds of starters and groups, of gaps, and of stamped bodies.
use Rattle.std.specs.Prelude.{◌≡◌, ℕ, List, true, None}
use Rattle.dioc_terms.specs.declared.names.Role.{Role}
use Rattle.dioc_terms.specs.Equality.{member}
use Rattle.dioc_terms.specs.Terms.{Term, is_in, stamped}
use Rattle.connectedness.specs.Connected.{starters, groups, in_each_group, linked, connected, first_gap}
use Rattle.connectedness.specs.ByCases.{begins, attends_ends}

-- the starters and the groups of a term, asked for one role by recursion over the term
pub record RolesAtEnds : Type 0 where
  pub starter : (q : Role) (I : Term) → member q (starters I) ≡ begins q I
  pub in_groups : (q : Role) (I : Term) → in_each_group I q ≡ attends_ends q I
  -- so a sequence is linked where each role that begins the second part is in each group of the
  -- first
  pub links : (I J : Term) → linked I J ≡ true → (q : Role) → begins q J ≡ true → attends_ends q I
      ≡ true
  pub linked : (I J : Term) → ((q : Role) → begins q J ≡ true → attends_ends q I ≡ true)
      → linked I J ≡ true

abbrev pub HasRoles : List Role → Term → Type 0
HasRoles cast I = (q : Role) → is_in q I ≡ true → member q cast ≡ true

-- a term is connected exactly where it has no gap, for a cast with all its roles
pub record GapsAreFound : Type 0 where
  pub none : (cast : List Role) (I : Term) → connected I ≡ true → first_gap cast I ≡ None
  pub found : (cast : List Role) (I : Term) → HasRoles cast I → first_gap cast I ≡ None
      → connected I ≡ true

-- a stamped body has the same starters and groups, and is connected where the body is
pub record StampedConnected : Type 0 where
  pub same_starters : (I : Term) (n level : ℕ) → starters (stamped I n level) ≡ starters I
  pub same_groups : (I : Term) (n level : ℕ) → groups (stamped I n level) ≡ groups I
  pub as_connected : (I : Term) (n level : ℕ) → connected (stamped I n level) ≡ connected I

-- What holds of the roles that a term names, of its cast, and of a stamped body.
use Rattle.std.specs.Prelude.{◌≡◌, ℕ, [], map, true}
use Rattle.dioc_terms.specs.declared.names.Role.{Role}
use Rattle.dioc_terms.specs.Equality.{member}
use Rattle.dioc_terms.specs.Terms.{Term, empty, mentions, is_in, cast_of, distinct_roles, at_epoch, stamped, self_messages, constructs}

-- a term names exactly the roles that its text mentions
abbrev pub MentionsAreRoles : Type 0
MentionsAreRoles = (q : Role) (I : Term) → is_in q I ≡ member q (mentions I)

-- the cast of a term has exactly its roles, each once
pub record CastsAreRoles : Type 0 where
  pub same : (q : Role) (I : Term) → member q (cast_of I) ≡ is_in q I
  pub distinct : (I : Term) → distinct_roles (cast_of I) ≡ true

-- a stamped body mentions the same roles in the same order, has as many constructs, and the same
-- messages of a role to itself
pub record StampedBodies : Type 0 where
  pub mentioned : (I : Term) (n level : ℕ) → mentions (stamped I n level) ≡ mentions I
  pub named : (q : Role) (I : Term) (n level : ℕ) → is_in q (stamped I n level) ≡ is_in q I
  pub emptiness : (I : Term) (n level : ℕ) → empty (stamped I n level) ≡ empty I
  pub size : (I : Term) (n level : ℕ) → constructs (stamped I n level) ≡ constructs I
  pub to_self : (I : Term) (n level : ℕ) → self_messages (stamped I n level)
      ≡ map (at_epoch n) (self_messages I)
  pub none_to_self : (I : Term) (n level : ℕ) → self_messages I ≡ []
      → self_messages (stamped I n level) ≡ []

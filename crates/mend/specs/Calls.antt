-- What the calls that mend a choreography answer.
use Rattle.std.specs.Prelude.{◌≡◌, [], List, true, Some, None}
use Rattle.dioc_terms.specs.declared.names.Role.{Role}
use Rattle.dioc_terms.specs.Terms.{Term, is_in, self_messages, indexed}
use Rattle.connectedness.specs.Connected.{connected}
use Rattle.mend.specs.declared.faults.MendFault.{MendFault}
use Rattle.mend.specs.declared.faults.MendFault.TheVariants.{NameTaken, Memory}
use Rattle.mend.specs.Dropped.{dropped}
use Rattle.mend.specs.Mended.{mended}
use Rattle.mend.specs.Names.{taken_name}

-- the term is mended from another one, and what that means of it
pub record IsMendedFrom (cast : List Role) (I : Term) (made : Term) : Type 0 where
  pub mended : made ≡ mended cast I
  pub marks : made ≡ indexed made
  pub connected : connected made ≡ true
  pub same_roles : (q : Role) → is_in q made ≡ is_in q I
  pub no_self_message : self_messages made ≡ []
  -- dropping what was added and marking again gives the other one
  pub drops : indexed (dropped made) ≡ I
  -- which names nothing that begins with `sq_`
  pub free : taken_name I ≡ None

-- the first name that is taken; want of memory says nothing
abbrev pub IsMendFaultOf : Term → MendFault → Type 0
IsMendFaultOf I (NameTaken name) = taken_name I ≡ Some name
IsMendFaultOf I Memory = Unit {0}

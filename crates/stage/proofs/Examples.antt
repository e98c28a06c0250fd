-- Small rows, for which the definitions are computed: owners in a cast of two, and where two roles stand in the run of `hi: a(1) -> b(x)`.
use Rattle.std.proofs.Common.{◌≡◌, ℕ, List, [], ◌∷◌, ◌++◌, Option, Some, None, refl, pos}
use Rattle.std.specs.Prelude.{codes}
use Rattle.dioc_terms.specs.declared.names.Role.{Role}
use Rattle.dioc_terms.specs.declared.names.Index.{Index}
use Rattle.dioc_terms.specs.declared.values.Value.{Value}
use Rattle.dioc_terms.specs.declared.values.Value.TheVariants as value
use Rattle.dioc_terms.specs.declared.processes.Tag.{Tag}
use Rattle.dioc_terms.specs.declared.processes.Tag.TheVariants.{Op, End}
use Rattle.dioc_terms.specs.declared.entries.Act.TheVariants as act
use Rattle.dioc_terms.specs.declared.entries.Note.TheVariants as note
use Rattle.dioc_terms.specs.declared.entries.Entry.{Entry}
use Rattle.dioc_terms.specs.declared.entries.Entry.TheVariants as entry
use Rattle.dioc_terms.specs.Expressions.{Const}
use Rattle.dioc_terms.specs.Plain.{PlainBundle}
use Rattle.dioc_terms.specs.Processes.{Skip, Recv, Val}
use Rattle.dioc_terms.specs.Stores.{fresh_store, set_variable}
use Rattle.dioc_terms.specs.Terms.{Term, Com, cast_of, indexed}
use Rattle.process_steps.specs.Steps.{Alone, Puts, key}
use Rattle.stage.specs.Owners.{cast_place, owner_in}
use Rattle.stage.specs.Roles.{RoleStandsAt, CanDo}

-- a bundle of a choreography alone, with the indices of its text
abbrev program : Term → PlainBundle
program I = record {
  version = 1;
  cast = cast_of I;
  choreo = indexed I;
  rules = [];
  opening = 0;
  env = [];
  inputs = [];
  script = [];
  trace = record { entries = []; last = None };
}

abbrev role : List ℕ → Role
role name = record { 0 = name }

abbrev at : ℕ → ℕ → Index
at epoch place = record { epoch = epoch; place = place }

abbrev int : ℕ → Value
int n = value.Int (pos n)

abbrev put : List ℕ → List ℕ → Tag → Index → ℕ → Entry
put from to tag i n = entry.Put (key (role from) (role to) i tag) (note.Val (int n))

abbrev take : List ℕ → List ℕ → Tag → Index → Option (List ℕ) → Entry
take from to tag i var = entry.Take (key (role from) (role to) i tag) var

abbrev a : List ℕ
a = codes "a"

abbrev b : List ℕ
b = codes "b"

abbrev hi : List ℕ
hi = codes "hi"

abbrev x : List ℕ
x = codes "x"

abbrev cast : List Role
cast = role a ∷ role b ∷ []

-- a put is its sender's, a take its receiver's, whatever its tag; what a role does alone is its own; a change is the last number's, and so is a
-- role that isn't in the cast
put-owner : owner_in cast (put a b (Op hi) (at 0 0) 1) ≡ 0
put-owner = refl

take-owner : owner_in cast (take a b (Op hi) (at 0 0) (Some x)) ≡ 1
take-owner = refl

end-owner : owner_in cast (take b a End (at 0 0) None) ≡ 0
end-owner = refl

set-owner : owner_in cast (entry.Set (at 0 3) (role b) x (int 2)) ≡ 1
set-owner = refl

change-owner : owner_in cast (entry.Env x (int 2)) ≡ 2
change-owner = refl

no-owner : cast_place cast (role hi) ≡ 2
no-owner = refl

abbrev greeting : PlainBundle
greeting = program (Com (at 0 0) hi (role a) (Const (int 1)) (role b) x)

abbrev sent : List Entry
sent = put a b (Op hi) (at 0 0) 1 ∷ []

-- at the start the sender can put its value
sender : CanDo greeting [] (role a) (act.Put (key (role a) (role b) (at 0 0) (Op hi))) Alone (Puts (key (role a) (role b) (at 0 0) (Op hi)) (Val (int 1)))
sender = record {
  process = _;
  store = _;
  stands = record { network = _; runs = refl; process = refl; store = refl };
  next = Skip;
  does = refl;
}

-- after the put the sender has nothing left to do, and the receiver stands where it stood
sender_done : RoleStandsAt greeting sent (role a) Skip (fresh_store [])
sender_done = record { network = _; runs = refl; process = refl; store = refl }

receiver : RoleStandsAt greeting sent (role b) (Recv (at 0 0) hi (role a) x) (fresh_store [])
receiver = record { network = _; runs = refl; process = refl; store = refl }

-- after its take the receiver has the value
receiver_done : RoleStandsAt greeting (sent ++ take a b (Op hi) (at 0 0) (Some x) ∷ []) (role b) Skip (set_variable x (int 1) (fresh_store []))
receiver_done = record { network = _; runs = refl; process = refl; store = refl }

-- Terms of the language: choreographies without where they lie in memory, their roles, and the
-- marks that a text gives them.
use Rattle.std.specs.Prelude.{ℕ, suc, ◌+◌, max, List, [], ◌∷◌, ◌++◌, Bool, true, false, ◌&&◌, ◌||◌, not, filter, if◌then◌else◌}
use Rattle.dioc_terms.specs.declared.names.Role.{Role}
use Rattle.dioc_terms.specs.declared.names.Index.{Index}
use Rattle.dioc_terms.specs.declared.values.Value.{Value}
use Rattle.dioc_terms.specs.declared.choreographies.Choreo.{Choreo}
use Rattle.dioc_terms.specs.declared.processes.ScopeHead.{ScopeHead}
use Rattle.dioc_terms.specs.declared.choreographies.Choreo as choreo
use Rattle.dioc_terms.specs.Equality.{role_eq, member}
use Rattle.dioc_terms.specs.Expressions.{Expression, expression}

pub data Term : Type 0 where
  Skip : Term
  -- index, operation, sender, what it sends, receiver, the receiver's variable
  Com : Index → List ℕ → Role → Expression → Role → List ℕ → Term
  -- index, variable, role, what it becomes
  Set : Index → List ℕ → Role → Expression → Term
  -- index, variable, role
  Input : Index → List ℕ → Role → Term
  Seq : Term → Term → Term
  Par : Term → Term → Term
  -- index, leader, guard, the branches
  If : Index → Role → Expression → Term → Term → Term
  -- index, leader, guard, body
  While : Index → Role → Expression → Term → Term
  -- index, leader, body, roles that it names further, properties, level
  Scope : Index → Role → Term → List Role → List (List ℕ × Value) → ℕ → Term

-- the term that a program's value stands for
abbrev pub term : Choreo → Term
term choreo.Skip = Skip
term (choreo.Com i o a e b x) = Com i o a (expression e) b x
term (choreo.Set i x r e) = Set i x r (expression e)
term (choreo.Input i x r) = Input i x r
term (choreo.Seq' _ I _ J) = Seq (term I) (term J)
term (choreo.Par' _ I _ J) = Par (term I) (term J)
term (choreo.If' i r g _ I _ J) = If i r (expression g) (term I) (term J)
term (choreo.While' i r g _ I) = While i r (expression g) (term I)
term (choreo.Scope' i r _ I extra props level) = Scope i r (term I) extra props level

-- no indexed construct
abbrev pub empty : Term → Bool
empty Skip = true
empty (Seq I J) = empty I && empty J
empty (Par I J) = empty I && empty J
empty _ = false

-- the roles that a term names, each time that its text names one, in the order of the text
abbrev pub mentions : Term → List Role
mentions Skip = []
mentions (Com i o a e b x) = a ∷ b ∷ []
mentions (Set i x r e) = r ∷ []
mentions (Input i x r) = r ∷ []
mentions (Seq I J) = mentions I ++ mentions J
mentions (Par I J) = mentions I ++ mentions J
mentions (If i r g I J) = r ∷ (mentions I ++ mentions J)
mentions (While i r g I) = r ∷ mentions I
mentions (Scope i r I extra props level) = r ∷ (mentions I ++ extra)

-- whether the term names the role
abbrev pub is_in : Role → Term → Bool
is_in q Skip = false
is_in q (Com i o a e b x) = role_eq q a || role_eq q b
is_in q (Set i x r e) = role_eq q r
is_in q (Input i x r) = role_eq q r
is_in q (Seq I J) = is_in q I || is_in q J
is_in q (Par I J) = is_in q I || is_in q J
is_in q (If i r g I J) = role_eq q r || is_in q I || is_in q J
is_in q (While i r g I) = role_eq q r || is_in q I
is_in q (Scope i r I extra props level) = role_eq q r || is_in q I || member q extra

-- the roles of a list, each at its first appearance alone
abbrev pub first_appearances : List Role → List Role
first_appearances [] = []
first_appearances (r ∷ rs) = r ∷ filter (λ q. not (role_eq q r)) (first_appearances rs)

-- the roles of a term in the order of their first appearance in its text
abbrev pub cast_of : Term → List Role
cast_of I = first_appearances (mentions I)

-- no role twice
abbrev pub distinct_roles : List Role → Bool
distinct_roles [] = true
distinct_roles (r ∷ rs) = not (member r rs) && distinct_roles rs

-- the roles of a construct without its leader, in the order of the cast
abbrev pub others : List Role → Role → Term → List Role
others cast leader whole = filter (λ q. is_in q whole && not (role_eq q leader)) cast

-- the roles of a construct, in the order of the cast
abbrev pub roles_in : List Role → Term → List Role
roles_in cast whole = filter (λ q. is_in q whole) cast

abbrev pub at_epoch : ℕ → Index → Index
at_epoch n i = record { epoch = n; place = i.place }

-- the body of a rule as the update of number n: each index of that epoch, each scope at that level
abbrev pub stamped : Term → ℕ → ℕ → Term
stamped Skip n level = Skip
stamped (Com i o a e b x) n level = Com (at_epoch n i) o a e b x
stamped (Set i x r e) n level = Set (at_epoch n i) x r e
stamped (Input i x r) n level = Input (at_epoch n i) x r
stamped (Seq I J) n level = Seq (stamped I n level) (stamped J n level)
stamped (Par I J) n level = Par (stamped I n level) (stamped J n level)
stamped (If i r g I J) n level = If (at_epoch n i) r g (stamped I n level) (stamped J n level)
stamped (While i r g I) n level = While (at_epoch n i) r g (stamped I n level)
stamped (Scope i r I extra props _) n level =
    Scope (at_epoch n i) r (stamped I n level) extra props level

-- the interactions of a role with itself, in the order of the text
abbrev pub self_messages : Term → List Index
self_messages (Com i o a e b x) = if role_eq a b then i ∷ [] else []
self_messages (Seq I J) = self_messages I ++ self_messages J
self_messages (Par I J) = self_messages I ++ self_messages J
self_messages (If i r g I J) = self_messages I ++ self_messages J
self_messages (While i r g I) = self_messages I
self_messages (Scope i r I extra props level) = self_messages I
self_messages _ = []

-- how many indexed constructs
abbrev pub constructs : Term → ℕ
constructs Skip = 0
constructs (Com i o a e b x) = 1
constructs (Set i x r e) = 1
constructs (Input i x r) = 1
constructs (Seq I J) = constructs I + constructs J
constructs (Par I J) = constructs I + constructs J
constructs (If i r g I J) = suc (constructs I + constructs J)
constructs (While i r g I) = suc (constructs I)
constructs (Scope i r I extra props level) = suc (constructs I)

abbrev pub index_at : ℕ → Index
index_at n = record { epoch = 0; place = n }

-- the marks of a text where n indexed constructs begin before the term: epoch 0, places in order,
-- levels 0
abbrev pub indexed_from : ℕ → Term → Term
indexed_from n Skip = Skip
indexed_from n (Com i o a e b x) = Com (index_at n) o a e b x
indexed_from n (Set i x r e) = Set (index_at n) x r e
indexed_from n (Input i x r) = Input (index_at n) x r
indexed_from n (Seq I J) = Seq (indexed_from n I) (indexed_from (n + constructs I) J)
indexed_from n (Par I J) = Par (indexed_from n I) (indexed_from (n + constructs I) J)
indexed_from n (If i r g I J) =
    If (index_at n) r g (indexed_from (suc n) I) (indexed_from (suc n + constructs I) J)
indexed_from n (While i r g I) = While (index_at n) r g (indexed_from (suc n) I)
indexed_from n (Scope i r I extra props level) =
    Scope (index_at n) r (indexed_from (suc n) I) extra props 0

abbrev pub indexed : Term → Term
indexed I = indexed_from 0 I

-- how many nodes, each Skip, Seq and Par counted
abbrev pub nodes : Term → ℕ
nodes (Seq I J) = suc (nodes I + nodes J)
nodes (Par I J) = suc (nodes I + nodes J)
nodes (If i r g I J) = suc (nodes I + nodes J)
nodes (While i r g I) = suc (nodes I)
nodes (Scope i r I extra props level) = suc (nodes I)
nodes _ = 1

-- the depth of the tree: a leaf has 1
abbrev pub depth : Term → ℕ
depth (Seq I J) = suc (max (depth I) (depth J))
depth (Par I J) = suc (max (depth I) (depth J))
depth (If i r g I J) = suc (max (depth I) (depth J))
depth (While i r g I) = suc (depth I)
depth (Scope i r I extra props level) = suc (depth I)
depth _ = 1

-- what the leader of a scope shows the book: the scope without its body, its roles in the order of
-- the cast
abbrev pub head_of : List Role → Index → Role → Term → List Role → List (List ℕ × Value) → ℕ
    → ScopeHead
head_of cast i r I extra props level =
    record {
      index = i;
      leader = r;
      roles = roles_in cast (Scope i r I extra props level);
      props = props;
      level = level;
    }

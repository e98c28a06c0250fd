-- What the proofs ask of a choreography, and of the body of each rule: as facts by recursion over the term.
use Rattle.std.proofs.Common.{◌≡◌, ◌⊎◌, ℕ, List, Bool, true, false, ◌||◌, if◌then◌else◌, refl}
use Rattle.std.proofs.lemmas.Bool.{or_left, or_right, both_ways}
use Rattle.dioc_terms.specs.declared.names.Role.{Role}
use Rattle.dioc_terms.specs.declared.names.Index.{Index}
use Rattle.dioc_terms.specs.declared.values.Value.{Value}
use Rattle.dioc_terms.specs.Expressions.{Expression}
use Rattle.dioc_terms.specs.Equality.{role_eq, member}
use Rattle.dioc_terms.specs.Terms.{Term, Skip, Com, Set, Input, Seq, Par, If, While, Scope, is_in}
use Rattle.connectedness.specs.ByCases.{begins, attends_ends}

-- whoever begins the second is in each group that ends the first
abbrev pub Linked : Term → Term → Type 0
Linked I J = (q : Role) → begins q J ≡ true → attends_ends q I ≡ true

abbrev pub Connected : Term → Type 0
Connected (Seq I J) = Linked I J × Connected I × Connected J
Connected (Par I J) = Connected I × Connected J
Connected (If i r g I J) = Connected I × Connected J
Connected (While i r g I) = Connected I
Connected (Scope i r I extra props level) = Connected I
Connected _ = Unit {0}

-- nobody sends to itself
abbrev pub NoSelf : Term → Type 0
NoSelf (Com i o a e b x) = role_eq a b ≡ false
NoSelf (Seq I J) = NoSelf I × NoSelf J
NoSelf (Par I J) = NoSelf I × NoSelf J
NoSelf (If i r g I J) = NoSelf I × NoSelf J
NoSelf (While i r g I) = NoSelf I
NoSelf (Scope i r I extra props level) = NoSelf I
NoSelf _ = Unit {0}

-- the index is of a construct in the term
abbrev pub Within : Index → Term → Type 0
Within n Skip = ⊥
Within n (Com i o a e b x) = n ≡ i
Within n (Set i x r e) = n ≡ i
Within n (Input i x r) = n ≡ i
Within n (Seq I J) = Within n I ⊎ Within n J
Within n (Par I J) = Within n I ⊎ Within n J
Within n (If i r g I J) = (n ≡ i) ⊎ (Within n I ⊎ Within n J)
Within n (While i r g I) = (n ≡ i) ⊎ Within n I
Within n (Scope i r I extra props level) = (n ≡ i) ⊎ Within n I

-- no index is of both
abbrev pub Apart : Term → Term → Type 0
Apart I J = (n : Index) → Within n I → Within n J → ⊥

-- no two constructs have one index
abbrev pub Distinct : Term → Type 0
Distinct (Seq I J) = Apart I J × Distinct I × Distinct J
Distinct (Par I J) = Apart I J × Distinct I × Distinct J
Distinct (If i r g I J) = Apart I J × (Within i I → ⊥) × (Within i J → ⊥) × Distinct I × Distinct J
Distinct (While i r g I) = (Within i I → ⊥) × Distinct I
Distinct (Scope i r I extra props level) = (Within i I → ⊥) × Distinct I
Distinct _ = Unit {0}

pub record Proper (cast : List Role) (I : Term) : Type 0 where
  pub connected : Connected I
  pub no_self : NoSelf I
  pub distinct : Distinct I
  pub in_cast : (q : Role) → is_in q I ≡ true → member q cast ≡ true

-- the parts of a proper term are proper
module _ (cast : List Role) where
  pub proper_seq : (I J : Term) → Proper cast (Seq I J) → Proper cast I × Proper cast J × Apart I J × Linked I J
  proper_seq I J h = (
    record { connected = h.connected.1; no_self = h.no_self.0; distinct = h.distinct.1; in_cast = λ q k. h.in_cast q (or_left (is_in q I) (is_in q J) k) },
    record { connected = h.connected.2; no_self = h.no_self.1; distinct = h.distinct.2; in_cast = λ q k. h.in_cast q (or_right (is_in q I) (is_in q J) k) },
    h.distinct.0,
    h.connected.0,
  )

  pub proper_par : (I J : Term) → Proper cast (Par I J) → Proper cast I × Proper cast J × Apart I J
  proper_par I J h = (
    record { connected = h.connected.0; no_self = h.no_self.0; distinct = h.distinct.1; in_cast = λ q k. h.in_cast q (or_left (is_in q I) (is_in q J) k) },
    record { connected = h.connected.1; no_self = h.no_self.1; distinct = h.distinct.2; in_cast = λ q k. h.in_cast q (or_right (is_in q I) (is_in q J) k) },
    h.distinct.0,
  )

  -- a branch of a choice, and that the choice's index isn't in it
  pub proper_branch : (i : Index) (r : Role) (g : Expression) (I J : Term) (b : Bool) → Proper cast (If i r g I J)
      → Proper cast (if b then I else J) × (Within i (if b then I else J) → ⊥)
  proper_branch i r g I J true h = (
    record {
      connected = h.connected.0;
      no_self = h.no_self.0;
      distinct = h.distinct.3;
      in_cast = λ q k. h.in_cast q (or_left (role_eq q r || is_in q I) (is_in q J) (or_right (role_eq q r) (is_in q I) k));
    },
    h.distinct.1,
  )
  proper_branch i r g I J false h = (
    record { connected = h.connected.1; no_self = h.no_self.1; distinct = h.distinct.4; in_cast = λ q k. h.in_cast q (or_right (role_eq q r || is_in q I) (is_in q J) k) },
    h.distinct.2,
  )

  pub proper_while : (i : Index) (r : Role) (g : Expression) (I : Term) → Proper cast (While i r g I) → Proper cast I × (Within i I → ⊥)
  proper_while i r g I h = (
    record { connected = h.connected; no_self = h.no_self; distinct = h.distinct.1; in_cast = λ q k. h.in_cast q (or_right (role_eq q r) (is_in q I) k) },
    h.distinct.0,
  )

  pub proper_scope : (i : Index) (r : Role) (I : Term) (extra : List Role) (props : List (List ℕ × Value)) (level : ℕ)
      → Proper cast (Scope i r I extra props level) → Proper cast I × (Within i I → ⊥)
  proper_scope i r I extra props level h = (
    record {
      connected = h.connected;
      no_self = h.no_self;
      distinct = h.distinct.1;
      in_cast = λ q k. h.in_cast q (or_left (role_eq q r || is_in q I) (member q extra) (or_right (role_eq q r) (is_in q I) k));
    },
    h.distinct.0,
  )

  pub proper_skip : Proper cast Skip
  proper_skip = record { connected = tt; no_self = tt; distinct = tt; in_cast = λ q h. absurd (both_ways false refl h) }

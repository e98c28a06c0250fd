-- The stores of all roles, in a map of those that have a place.
use Rattle.std.proofs.Common.{◌≡◌, ◌<◌, ℕ, suc, List, [], ◌∷◌, ◌++◌, Bool, true, false, ◌&&◌, ◌||◌, is_none, is_some, cond, if◌then◌else◌, length, take, get_or, Option, Some, None, unwrap_or, refl, sym, ap, ◌∙◌}
use Rattle.std.proofs.Math.Seq.{take-suc}
use Rattle.std.proofs.lemmas.List.Folds.{list_any-append}
use Rattle.std.specs.List.{list_any}
use Rattle.std.specs.Option.{option_map}
use Rattle.dioc_terms.specs.declared.names.Role.{Role}
use Rattle.dioc_terms.specs.declared.values.Value.{Value}
use Rattle.dioc_terms.specs.declared.stores.Store.{Store as KeptStore}
use Rattle.dioc_terms.specs.Equality.{role_eq}
use Rattle.dioc_terms.specs.EqualityLemmas.{equivalence_from_Decides, role_eq-decides}
use Rattle.dioc_terms.specs.KeptStores.{store_of}
use Rattle.dioc_terms.specs.Stores.{Store, fresh_store}
use Rattle.global_follower.specs.StoreMaps.{IsOpened, store_at}
use Rattle.global_steps.specs.Follow.{updated, inputs_of}

-- one role's place is written, and no other
abbrev pub Writes : (Role → Option KeptStore) → (Role → Option KeptStore) → Role → KeptStore
    → Type 0
Writes old new r s = (q : Role) → new q ≡ cond (role_eq r q) (Some s) (old q)

module _ (old new : Role → Option KeptStore) (r : Role) (s : KeptStore) (writes : Writes old new r s)
  where
    -- the role has what is written
    pub written : (x : Store) → store_of s ≡ x
        → ◌≡◌ {A = Role → Store} (λ q. store_at (new q)) (updated r x (λ q. store_at (old q)))
    written x is j = λ q. (ap store_at (writes q) ∙ at q (role_eq r q)
        ∙ ap (λ t. if t then x else store_at (old q))
        ((equivalence_from_Decides role_eq role_eq-decides).symm r q)) j
      where
        at : (q : Role) (t : Bool) → store_at (cond t (Some s) (old q))
            ≡ (if t then x else store_at (old q))
        at q true = is
        at q false = refl

    -- where that is what it had, nothing changes
    pub kept : store_of s ≡ store_at (old r)
        → ◌≡◌ {A = Role → Store} (λ q. store_at (new q)) (λ q. store_at (old q))
    kept is j = λ q. (ap store_at (writes q) ∙ at q (role_eq r q) refl) j
      where
        at : (q : Role) (t : Bool) → role_eq r q ≡ t
            → store_at (cond t (Some s) (old q)) ≡ store_at (old q)
        at q true same = is ∙ ap (λ p. store_at (old p)) ((role_eq-decides r q).0 same)
        at q false same = refl

-- a store that stays as it is changes nothing
pub unaffected : (r : Role) (stores : Role → Store)
    → ◌≡◌ {A = Role → Store} stores (updated r (stores r) stores)
unaffected r stores j = λ q. by q (role_eq q r) refl j
  where
    by : (q : Role) (t : Bool) → role_eq q r ≡ t
        → stores q ≡ (if t then stores r else stores q)
    by q true same = ap stores ((role_eq-decides q r).0 same)
    by q false same = refl

-- whether inputs are given for the role
abbrev pub has_inputs : List (Role × List Value) → Role → Bool
has_inputs given q = list_any (λ (pair : Role × List Value). role_eq pair.0 q) given

-- the roles with a place are those of the front, each with all inputs that are given for it
abbrev pub OpenedSoFar : List (Role × List Value) → List (Role × List Value)
    → (Role → Option Store) → Type 0
OpenedSoFar given front stores = (q : Role)
    → stores q ≡ (if has_inputs front q then Some (fresh_store (inputs_of given q)) else None)

one_of : (b : Bool) → (b || true) ≡ true
one_of true = refl
one_of false = refl

or_none : (b : Bool) → (b || false) ≡ b
or_none true = refl
or_none false = refl

and_none : (b : Bool) → (b && false) ≡ false
and_none true = refl
and_none false = refl

pub a_place : (o : Option KeptStore) → is_some o ≡ true → is_none (option_map store_of o) ≡ false
a_place None there = cc
a_place (Some s) there = refl

pub no_place : (o : Option KeptStore) → is_some o ≡ false → is_none (option_map store_of o) ≡ true
no_place None missing = refl
no_place (Some s) missing = cc

module _ (given : List (Role × List Value)) where
  -- no place is given to a role that has one
  pub opened_there : (r : Role) (old : Role → Option Store) → is_none (old r) ≡ false
      → IsOpened given r old old
  opened_there r old there q =
      sym (ap (λ (t : Bool). if t then Some (fresh_store (inputs_of given r)) else old q)
      (ap (λ (t : Bool). role_eq r q && t) there ∙ and_none (role_eq r q)))

  pub opened_new : (r : Role) (old new : Role → Option KeptStore) (s : KeptStore)
      → Writes old new r s → is_none (option_map store_of (old r)) ≡ true
      → store_of s ≡ fresh_store (inputs_of given r)
      → IsOpened given r (λ q. option_map store_of (old q)) (λ q. option_map store_of (new q))
  opened_new r old new s writes none is q = ap (option_map store_of) (writes q) ∙ by (role_eq r q)
    where
      by : (t : Bool) → option_map store_of (cond t (Some s) (old q))
          ≡ (if t && is_none (option_map store_of (old r))
          then Some (fresh_store (inputs_of given r)) else option_map store_of (old q))
      by true = rw none (ap Some is)
      by false = refl

  pub opened_more : (i : ℕ) (pair : Role × List Value) (old new : Role → Option Store)
      → i < length given → pair ≡ get_or given i pair
      → OpenedSoFar given (take i given) old → IsOpened given pair.0 old new
      → OpenedSoFar given (take (suc i) given) new
  opened_more i pair old new within at so_far opened q =
      opened q ∙ by (role_eq pair.0 q) refl (has_inputs (take i given) q) refl
      ∙ ap (λ (t : Bool). if t then Some (fresh_store (inputs_of given q)) else None) (sym seen)
    where
      front : take (suc i) given ≡ take i given ++ pair ∷ []
      front = take-suc given i pair within
          ∙ ap (λ (p : Role × List Value). take i given ++ p ∷ []) (sym at)

      seen : has_inputs (take (suc i) given) q
          ≡ (has_inputs (take i given) q || (role_eq pair.0 q || false))
      seen = ap (λ l. has_inputs l q) front
          ∙ list_any-append (λ (p : Role × List Value). role_eq p.0 q) (take i given) (pair ∷ [])

      by : (t : Bool) → role_eq pair.0 q ≡ t → (u : Bool) → has_inputs (take i given) q ≡ u
          → (if t && is_none (old pair.0) then Some (fresh_store (inputs_of given pair.0))
          else old q)
          ≡ (if u || (t || false) then Some (fresh_store (inputs_of given q)) else None)
      by true same true had =
          let one : pair.0 ≡ q = (role_eq-decides pair.0 q).0 same in
          let there : old q ≡ Some (fresh_store (inputs_of given q)) =
          so_far q
          ∙ ap (λ (t : Bool). if t then Some (fresh_store (inputs_of given q)) else None) had in
          rw (one, there) refl
      by true same false had =
          let one : pair.0 ≡ q = (role_eq-decides pair.0 q).0 same in
          let there : old q ≡ None =
          so_far q
          ∙ ap (λ (t : Bool). if t then Some (fresh_store (inputs_of given q)) else None) had in
          rw (one, there) refl
      by false same u had =
          so_far q
          ∙ ap (λ (t : Bool). if t then Some (fresh_store (inputs_of given q)) else None)
          (had ∙ sym (or_none u))

none_given : (given : List (Role × List Value)) (q : Role) → has_inputs given q ≡ false
    → inputs_of given q ≡ []
none_given [] q h = refl
none_given (pair ∷ rest) q h = by (role_eq pair.0 q) h (none_given rest q)
  where
    by : (t : Bool) → (t || has_inputs rest q) ≡ false
        → (has_inputs rest q ≡ false → inputs_of rest q ≡ [])
        → (if t then pair.1 ++ inputs_of rest q else inputs_of rest q) ≡ []
    by true k later = cc
    by false k later = later k

pub opened_all : (given : List (Role × List Value)) (stores : Role → Option KeptStore)
    → OpenedSoFar given given (λ q. option_map store_of (stores q))
    → ◌≡◌ {A = Role → Store} (λ q. store_at (stores q)) (λ q. fresh_store (inputs_of given q))
opened_all given stores opened j = λ q. (ap (λ (o : Option Store). unwrap_or o (fresh_store []))
    (opened q) ∙ by q (has_inputs given q) refl) j
  where
    by : (q : Role) (t : Bool) → has_inputs given q ≡ t
        → unwrap_or (if t then Some (fresh_store (inputs_of given q)) else None) (fresh_store [])
        ≡ fresh_store (inputs_of given q)
    by q true h = refl
    by q false h = ap fresh_store (sym (none_given given q h))

-- The stores that a map from roles to stores stands for.
use Rattle.std.specs.Prelude.{◌≡◌, ◌<◌, ◌&&◌, List, [], Option, Some, is_none, if◌then◌else◌, unwrap_or, option_map}
use Rattle.indexmap.specs.IndexMap.{IndexMap, get}
use Rattle.dioc_terms.specs.declared.names.Role.{Role}
use Rattle.dioc_terms.specs.declared.stores.Store.{Store as KeptStore}
use Rattle.dioc_terms.specs.Equality.{role_eq}
use Rattle.dioc_terms.specs.KeptStores.{store_of, room}
use Rattle.dioc_terms.specs.Stores.{Store, fresh_store}
use Rattle.dioc_terms.specs.declared.values.Value.{Value}
use Rattle.global_steps.specs.Follow.{inputs_of}

-- a role without a place has an empty store
abbrev pub store_at : Option KeptStore → Store
store_at place = unwrap_or (option_map store_of place) (fresh_store [])

abbrev pub stores_in : {S : Type 0} → IndexMap Role KeptStore S → Role → Store
stores_in stores = λ q. store_at (get role_eq stores q)

-- the store that a role has a place for
abbrev pub places_in : {S : Type 0} → IndexMap Role KeptStore S → Role → Option Store
places_in stores = λ q. option_map store_of (get role_eq stores q)

-- the role has a place then: one with all inputs that are given for it, where it had none
abbrev pub IsOpened : List (Role × List Value) → Role → (Role → Option Store)
    → (Role → Option Store) → Type 0
IsOpened given r old new = (q : Role) → new q ≡ (if role_eq r q && is_none (old r)
    then Some (fresh_store (inputs_of given r)) else old q)

-- the role has a place, and room there for one more variable
pub record IsReadyAt {S : Type 0} (q : Role) (stores : IndexMap Role KeptStore S) : Type 0 where
  pub store : KeptStore
  pub is_there : get role_eq stores q ≡ Some store
  pub has_room : 0 < room store

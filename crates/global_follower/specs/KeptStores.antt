-- The stores that a program's value stands for.
use Rattle.dioc_terms.specs.declared.names.Role.{Role}
use Rattle.dioc_terms.specs.Stores.{Store}
use Rattle.global_follower.specs.declared.stores.Stores.{Stores}
use Rattle.global_follower.specs.StoreMaps.{stores_in, IsReadyAt}

abbrev pub stores_of : Stores → Role → Store
stores_of kept = stores_in kept.stores

-- the role has a place, and room there for one more variable
abbrev pub HasRoomFor : Role → Stores → Type 0
HasRoomFor q kept = IsReadyAt q kept.stores

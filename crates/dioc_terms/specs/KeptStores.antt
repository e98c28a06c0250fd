-- What a program's store shows: the store of the definitions, and how many more variables it has
-- room for.
use Rattle.std.specs.Prelude.{ℕ}
use Rattle.indexmap.specs.IndexMap.{get, spare}
use Rattle.dioc_terms.specs.declared.stores.Store.{Store as KeptStore}
use Rattle.dioc_terms.specs.Equality.{name_eq}
use Rattle.dioc_terms.specs.Stores.{Store}

abbrev pub store_of : KeptStore → Store
store_of kept =
    record { variables = λ name. get name_eq kept.variables name; inputs = kept.inputs.items }

-- so many new variables can be set with no memory taken
abbrev pub room : KeptStore → ℕ
room kept = spare kept.variables

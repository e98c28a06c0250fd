-- The keys of messages that are to be sent.
use Rattle.std.specs.Prelude.{List, [], ◌∷◌}
use Rattle.dioc_terms.specs.declared.processes.Key.{Key}
use Rattle.dioc_terms.specs.Processes.{Letters, Nothing, More}

-- the keys of these messages, in the order of their sending
abbrev pub keys_of : Letters → List Key
keys_of Nothing = []
keys_of (More k l ms) = k ∷ keys_of ms

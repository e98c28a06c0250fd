-- Which acts a role does alone, and what the book says to the begin of a scope.
use Rattle.std.specs.Prelude.{ℕ, Bool, true, false}
use Rattle.dioc_terms.specs.declared.entries.Act.{Act}
use Rattle.dioc_terms.specs.declared.entries.Act.TheVariants as act
use Rattle.dioc_terms.specs.Plain.{PlainBundle}
use Rattle.dioc_terms.specs.Rules.{Book}
use Rattle.dioc_terms.specs.Stores.{Store}
use Rattle.global_steps.specs.Follow.{book_choice}
use Rattle.network_steps.specs.Network.{decision}
use Rattle.process_steps.specs.Steps.{Given, FromBook}

-- it sets a variable, reads an input or picks a branch
abbrev pub is_alone : Act → Bool
is_alone (act.Set i) = true
is_alone (act.Input i) = true
is_alone (act.Pick i) = true
is_alone _ = false

-- it begins a scope
abbrev pub is_scope : Act → Bool
is_scope (act.Scope i) = true
is_scope _ = false

-- what this book says, after so many updates, to a leader with this store
abbrev pub book_given : PlainBundle → Book → ℕ → Store → Given
book_given b book count s =
    FromBook (λ head. decision b.cast count head (book_choice b.rules book head s))

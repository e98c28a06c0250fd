-- What the script's next change makes of a home.
use Rattle.std.specs.Prelude.{◌≡◌, ℕ, List, [], ◌∷◌, Option, Some, None, slice_get, option_and_then}
use Rattle.dioc_terms.specs.declared.bundles.Timed.{Timed}
use Rattle.dioc_terms.specs.declared.entries.Entry.{Entry}
use Rattle.global_steps.specs.Follow.{change_entry}
use Rattle.network_steps.specs.Schedule.{changes_in}
use Rattle.net_core.specs.Standing.{ScriptedChange}
use Rattle.stage.specs.Homes.{HomeState, with_entry}

-- how many visible entries the first of the changes still to come asks for, none where none is to
-- come
abbrev pub first_after : List ScriptedChange → Option ℕ
first_after [] = None
first_after (due ∷ rest) = Some due.after

-- the entry of the script's next change, none where the script has no more
abbrev pub next_entry : HomeState → Option Entry
next_entry home =
    option_and_then (λ (timed : Timed). change_entry home.bundle.rules timed.change)
    (slice_get home.bundle.script (changes_in home.history))

-- the home has made the script's next change
pub record IsChanged (old new : HomeState) : Type 0 where
  pub entry : Entry
  pub next : next_entry old ≡ Some entry
  pub added : new ≡ with_entry old entry

-- How an update runs: in the place of a scope, over code of its own, or as it came.
use Rattle.std.specs.Prelude.{◌≡◌, ◌+◌, ℕ, suc, List, [], ◌∷◌, Bool, true, false, Option, None, Some, length, max, min, get_or, option_map}
use Rattle.dioc_terms.specs.declared.entries.Act.{Act}
use Rattle.dioc_terms.specs.declared.names.Role.{Role}
use Rattle.dioc_terms.specs.Processes.{Process, letters, process}
use Rattle.flat_code.specs.declared.plan.Plan.{Plan}
use Rattle.flat_role.specs.declared.marks.Mark.{Mark}
use Rattle.flat_role.specs.declared.marks.Mark.TheVariants as marks
use Rattle.flat_role.specs.declared.marks.State.{State}
use Rattle.flat_role.specs.declared.marks.State.TheVariants as state
use Rattle.flat_role.specs.declared.progress.Progress.{Progress}
use Rattle.flat_role.specs.declared.steps.Chosen.{Chosen}
use Rattle.flat_role.specs.PlanMarks.{mark_in}
use Rattle.flat_role.specs.Progress.{IsFound, IsProgress, runs_by}
use Rattle.flat_role.specs.Running.{Running}
use Rattle.process_steps.specs.Steps.{telling}

-- how many updates stand one inside the other in what these marks hold
abbrev pub depth_of : Mark → ℕ
depth_of (marks.Became update) = suc update.value.depth
depth_of m = 0

abbrev pub deepest : List Mark → ℕ
deepest [] = 0
deepest (m ∷ ms) = max (depth_of m) (deepest ms)

-- how many ops run in the place of the code's own
abbrev pub update_len : Mark → ℕ
update_len (marks.Became update) = update.value.len
update_len m = 0

-- the greatest number of a count
abbrev pub most : ℕ
most = 18446744073709551615

-- so many, with those of the updates; the greatest number where there are more
abbrev pub with_updates : ℕ → List Mark → ℕ
with_updates n [] = n
with_updates n (m ∷ ms) = with_updates (min (n + update_len m) most) ms

-- an update that stands at the place of the act is ready for it too
abbrev pub IsInner : Act → Mark → Type 0
IsInner a (marks.Became update) = update.value.chosen ≡ Some a
IsInner a m = Unit {0}

-- nothing was done yet at the place of the act
abbrev pub is_fresh : Mark → Bool
is_fresh marks.Untouched = true
is_fresh (marks.Became update) = update.value.fresh
is_fresh m = false

abbrev pub fresh_by : Progress → Option Chosen → Bool
fresh_by progress None = false
fresh_by progress (Some chosen) =
    is_fresh (mark_in progress.marks.items (get_or progress.active.items chosen.at 0))

-- the place that does the act is the first that offers it
pub record IsChosenAt (me : Role) (plan : Plan) (progress : Progress) (a : Act)
    (at : ℕ) : Type 0 where
  pub place : ℕ
  pub found : IsFound me plan progress a at place
  pub inner : IsInner a (mark_in progress.marks.items place)

-- it is ready for the act that it says, if any
abbrev pub IsChosen : Role → Plan → Progress → Option Chosen → Type 0
IsChosen me plan progress None = Unit {0}
IsChosen me plan progress (Some chosen) = IsChosenAt me plan progress chosen.act.value chosen.at

abbrev pub chosen_by : Option Chosen → Option Act
chosen_by chosen = option_map (λ c. c.act.value) chosen

-- what it still has to do
abbrev pub process_in : Role → State → Process
process_in me (state.Came P) = process P
process_in me (state.Told ms chosen) = telling (letters ms.value)
process_in me (state.Runs plan progress) = runs_by me plan progress

-- it can be made ready for an act
abbrev pub is_running : State → Bool
is_running (state.Came P) = false
is_running x = true

-- the act that it is ready for
abbrev pub chosen_in : State → Option Act
chosen_in (state.Came P) = None
chosen_in (state.Told ms chosen) = option_map (λ c. c.value) chosen
chosen_in (state.Runs plan progress) = chosen_by progress.chosen

abbrev pub fresh_in : State → Bool
fresh_in (state.Came P) = false
fresh_in (state.Told ms chosen) = false
fresh_in (state.Runs plan progress) = fresh_by progress progress.chosen

abbrev pub depth_in : State → ℕ
depth_in (state.Came P) = 0
depth_in (state.Told ms chosen) = 0
depth_in (state.Runs plan progress) = deepest progress.marks.items

abbrev pub len_in : State → ℕ
len_in (state.Came P) = 0
len_in (state.Told ms chosen) = 0
len_in (state.Runs plan progress) =
    with_updates (length plan.code.ops.items) progress.marks.items

abbrev pub seen : Role → State → Running
seen me x = record {
  role = me;
  process = process_in me x;
  chosen = chosen_in x;
  fresh = fresh_in x;
  depth = depth_in x;
  len = len_in x;
}

-- what it has come to hangs together
abbrev pub IsSound : Role → State → Type 0
IsSound me (state.Came P) = Unit {0}
IsSound me (state.Told ms chosen) = Unit {0}
IsSound me (state.Runs plan progress) =
    IsProgress me plan progress × IsChosen me plan progress progress.chosen

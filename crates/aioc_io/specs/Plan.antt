-- Which calls of a device in memory fail.
use Rattle.std.specs.Prelude.{◌≡◌, ℕ, List, Contains}
use Rattle.aioc_io.specs.declared.plan.Plan.{Plan}
use Rattle.aioc_io.specs.Faults.{one_more}

-- no call was made yet
pub record IsNewPlan (plan : Plan) (limit : ℕ) (numbers : List ℕ) : Type 0 where
  pub most : plan.most ≡ limit
  pub fails : plan.fails.items ≡ numbers
  pub calls : plan.calls ≡ 0
  pub faults : plan.faults ≡ 0

-- The next call is among those that are to fail.
abbrev pub FailsNext : Plan → Type 0
FailsNext plan = Contains plan.fails.items (one_more plan.calls)

-- one call was made, and what is to come stays planned
pub record OneCall (old new : Plan) : Type 0 where
  pub calls : new.calls ≡ one_more old.calls
  pub fails : new.fails.items ≡ old.fails.items
  pub most : new.most ≡ old.most

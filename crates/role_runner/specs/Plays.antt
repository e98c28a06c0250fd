-- What it takes to play a role, and what a turn of it leaves.
use Rattle.std.specs.Prelude.{List, All}
use Rattle.dioc_terms.specs.declared.entries.Act.{Act}
use Rattle.dioc_terms.specs.Plain.{plain}
use Rattle.flat_role.specs.declared.states.FlatRole.{FlatRole}
use Rattle.flat_role.specs.FlatStates.{local_of}
use Rattle.marked_laws.specs.Laws.{IsSound}
use Rattle.role_runner.specs.declared.acting.Tried.{Tried}
use Rattle.role_runner.specs.declared.actors.Actor.{Actor}
use Rattle.role_runner.specs.Jobs.{HomeSeat}
use Rattle.role_runner.specs.Ties.{IsTied, Leaves, RefusedIn}
use Rattle.stage.specs.Faults.{act_fault}
use Rattle.stage.specs.declared.faults.CommitFault.TheVariants.{NotYet}
use Rattle.stage.specs.Stages.{IsSeatIn}
use Rattle.turn_lock.specs.Words.{view}

-- the bundle is sound, and the role's state is tied to its seat in the stage
pub record CanPlay {G : Type 0} (actor : Actor G) (seat : HomeSeat) (state : FlatRole) : Type 0
  where
    pub sound : IsSound (plain actor.bundle.now)
    pub of : IsSeatIn actor.stage.now seat
    pub tied : IsTied (plain actor.bundle.now) actor.role.now (view seat) (local_of state)

-- the seat is in the stage still, and the role's state is as a try leaves it
pub record Left {G : Type 0} (actor : Actor G) (before after : HomeSeat) (tried : Tried)
    (state : FlatRole) : Type 0 where
  pub of : IsSeatIn actor.stage.now after
  pub leaves : Leaves (plain actor.bundle.now) actor.role.now (view before) (view after) tried
      (local_of state)

-- each of the acts was refused since it may not come yet
abbrev pub AllNotYet : List Act → HomeSeat → HomeSeat → Type 0
AllNotYet acts before after =
    All (λ act. RefusedIn (act_fault act) (view before) (view after) NotYet) acts

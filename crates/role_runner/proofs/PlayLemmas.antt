-- A role that looks on may play on.
use Rattle.std.proofs.Common.{◌≢◌}
use Rattle.dioc_terms.specs.Plain.{plain}
use Rattle.flat_role.specs.declared.states.FlatRole.{FlatRole}
use Rattle.flat_role.specs.FlatStates.{local_of}
use Rattle.role_runner.proofs.TieLemmas.{looked_tied, went_looked}
use Rattle.role_runner.specs.declared.acting.Tried.{Tried}
use Rattle.role_runner.specs.declared.acting.Tried.TheVariants as tried
use Rattle.role_runner.specs.declared.actors.Actor.{Actor}
use Rattle.role_runner.specs.Jobs.{HomeSeat}
use Rattle.role_runner.specs.Plays.{CanPlay, Left}
use Rattle.role_runner.specs.Ties.{WentOn}
use Rattle.stage.specs.declared.faults.CommitFault.TheVariants as fault
use Rattle.stage.specs.Seats.{LookedOn}
use Rattle.stage.specs.Stages.{IsSeatIn}
use Rattle.turn_lock.specs.Words.{view}

module _ {G : Type 0} (actor : Actor G) (v w : HomeSeat) (state : FlatRole) (of : IsSeatIn actor.stage.now w) (looked : LookedOn (view v) (view w)) (can : CanPlay actor v state) where
  pub looked_can : CanPlay actor w state
  looked_can = record {
    sound = can.sound;
    of = of;
    tied = looked_tied (plain actor.bundle.now) actor.role.now (view v) (view w) (local_of state) looked can.tied;
  }

  pub looked_left : (u : HomeSeat) (t : Tried) → t ≢ tried.Refused fault.Full → WentOn (view u) (view v) → Left actor u w t state
  looked_left u t other went = record {
    of = of;
    leaves = record { went = went_looked (view u) (view v) (view w) went looked; tied = λ here. looked_can.tied; full = λ is. absurd (other is) };
  }

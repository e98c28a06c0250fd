-- A look finds an act to try, or that none may come yet. A try that may not come yet leaves the role tied to its seat.
use Rattle.std.proofs.Common.{◌≡◌, sym, ◌∙◌}
use Rattle.flat_role.specs.FlatStates.{local_of}
use Rattle.role_runner.proofs.EndLemmas.{all_by_place}
use Rattle.role_runner.proofs.PlayLemmas.{looked_can, looked_left}
use Rattle.role_runner.proofs.TieLemmas.{if_refused_at, not_yet_is, refused_not_behind, went_looked, went_nowhere}
use Rattle.role_runner.proofs.TurnLemmas.{looked_nowhere, looked_through, refused_here}
use Rattle.role_runner.specs.declared.acting.Tried.TheVariants as tried
use Rattle.role_runner.specs.Ties.{IsRefusedTry, RefusedIn}
use Rattle.stage.proofs.FirstLemmas.{none_comes}
use Rattle.stage.proofs.MetLemmas.{looked_met}
use Rattle.stage.specs.declared.faults.CommitFault.TheVariants as fault
use Rattle.stage.specs.Faults.{act_fault}
use Rattle.turn_lock.specs.Words.{view}
use Rattle.role_runner.proofs.playing.try_first.Goals as goal

not_memory : fault.NotYet ≡ fault.Memory → ⊥
not_memory is = cc

pub loop-init : goal.loop-init
loop-init g c = record { can = c.requires.can; looked = looked_nowhere (view c.args.seat) c.requires.can.tied.met }

pub loop-preserved : goal.loop-preserved
loop-preserved g c =
    let u = view c.args.seat in
    let v = view c.loop.seat in
    let x = view c.first_ready-next.result.0 in
    let w = view c.try_act-next.result.0 in
    let act = c.index-acts-at.result in
    let left = c.try_act-next.ensures.left in
    let is = not_yet_is c.try_act-next.result.1 (sym c.is_not_yet.ensures ∙ c.if-not-is_not_yet.false) in
    let refused = if_refused_at (IsRefusedTry act x w (local_of c.loop.state) (local_of c.try_act-next.new.state)) c.try_act-next.result.1 fault.NotYet c.try_act-next.ensures.refused is in
    let held = refused.held not_memory in
    record {
      can = record { sound = c.requires.can.sound; of = left.of; tied = left.leaves.tied (λ behind. refused_not_behind is behind) };
      looked = looked_through u x w (looked_through u v x c.loop.invariant.looked c.first_ready-next.ensures.first.looked) held.looked;
    }

pub try_act-next-requires : goal.try_act-next-requires
try_act-next-requires g c = record {
  can = looked_can c.args.actor.now c.loop.seat c.first_ready-next.result.0 c.loop.state c.first_ready-next.ensures.of c.first_ready-next.ensures.first.looked c.loop.invariant.can;
}

not_full : tried.Refused fault.NotYet ≡ tried.Refused fault.Full → ⊥
not_full is = cc

pub returns-in_default-clause-left : goal.returns-in_default-clause-left
returns-in_default-clause-left g c =
    let u = view c.args.seat in
    let v = view c.loop.seat in
    looked_left c.args.actor.now c.loop.seat c.first_ready-next.result.0 c.loop.state c.first_ready-next.ensures.of c.first_ready-next.ensures.first.looked c.loop.invariant.can
    c.args.seat (tried.Refused fault.NotYet) not_full (went_looked u u v (went_nowhere u c.requires.can.tied.met) c.loop.invariant.looked)

pub returns-in_default-clause-tried : goal.returns-in_default-clause-tried
returns-in_default-clause-tried g c = λ _.
    let u = view c.args.seat in
    let v = view c.loop.seat in
    let x = view c.first_ready-next.result.0 in
    let found = c.first_ready-next.ensures.first in
    all_by_place (λ a. RefusedIn (act_fault a) u x fault.NotYet) c.args.acts.now (λ i a at.
    refused_here (act_fault a) u v x fault.NotYet c.loop.invariant.looked (looked_met v x found.looked) (none_comes c.args.acts.now v x c.first_ready-next.result.1 found c.in_default.is i a at))

-- An act for which there is no memory leaves all as it was.
use Rattle.std.proofs.Common.{◌≡◌, sym, subst}
use Rattle.dioc_terms.specs.Plain.{plain}
use Rattle.flat_role.specs.FlatStates.{local_of}
use Rattle.role_runner.proofs.TieLemmas.{scarce_try, stays_leaves}
use Rattle.role_runner.specs.declared.acting.Tried.TheVariants as tried
use Rattle.role_runner.specs.Ties.{Leaves}
use Rattle.stage.specs.declared.faults.CommitFault.TheVariants as fault
use Rattle.turn_lock.specs.Words.{view}
use Rattle.role_runner.proofs.playing.try_act.Goals as goal

no_memory : fault.Memory ≡ fault.Full → ⊥
no_memory is = cc

pub returns-in-Err-Memory-clause-left : goal.returns-in-Err-Memory-clause-left
returns-in-Err-Memory-clause-left g c = record {
  of = c.requires.can.of;
  leaves = subst (λ s. Leaves (plain c.args.actor.now.bundle.now) c.args.actor.now.role.now (view c.args.seat) (view c.args.seat) (tried.Refused fault.Memory) s) (sym c.prepare_act.ensures.same)
      (stays_leaves (plain c.args.actor.now.bundle.now) c.args.actor.now.role.now (view c.args.seat) (local_of c.args.state.now) fault.Memory no_memory c.requires.can.tied);
}

pub returns-in-Err-Memory-clause-refused : goal.returns-in-Err-Memory-clause-refused
returns-in-Err-Memory-clause-refused g c =
    scarce_try c.args.act.now (view c.args.seat) (local_of c.args.state.now) (local_of c.prepare_act.new.self) c.prepare_act.ensures.same

-- The process offers the act, so it can be made ready for it; what is shown is the same but the act.
use Rattle.std.proofs.Common.{◌≡◌, Err, true, ap}
use Rattle.std.proofs.lemmas.Bool.{both_ways}
use Rattle.dpoc_process.proofs.StateLemmas.{stands-offered}
use Rattle.dpoc_process.specs.KeptStates.{local_of}
use Rattle.dpoc_process.specs.LocalStates.{offered}
use Rattle.process_steps.specs.Steps.{is_offered}
use Rattle.dpoc_process.proofs.states.RoleStateRuns.prepare_at.Goals as goal

pub unreachable-requires : goal.unreachable-requires
unreachable-requires c =
    let s = local_of c.args.self.now in
    let offers : is_offered c.args.act.now (offered s) ≡ true =
    stands-offered (offered s) c.args._number c.args.act.now c.requires.stands in
    absurd (both_ways (is_offered c.args.act.now (offered s)) (c.in-Err-NoAct.ensures.no_act.0 (ap Err c.in-Err-NoAct.field-0-is)) offers)

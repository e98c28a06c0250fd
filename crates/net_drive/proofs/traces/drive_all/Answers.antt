-- The net is that of the bundle, and so is what is said of the trace.
use Rattle.std.proofs.Common.{◌≡◌, ◌≤◌, List, length, Some, sym, subst, arith}
use Rattle.dioc_terms.specs.declared.entries.Entry.{Entry}
use Rattle.dioc_terms.specs.Messages.{visible}
use Rattle.dioc_terms.specs.Plain.{PlainBundle, plain}
use Rattle.marked_laws.specs.Laws.{IsSound}
use Rattle.net_drive.specs.Driven.{driven}
use Rattle.net_drive.specs.Faults.{LostAt, LostCounted}
use Rattle.net_drive.proofs.OnTheWay.{few_roles}
use Rattle.net_drive.proofs.traces.drive_all.Goals as goal

pub start-requires : goal.start-requires
start-requires g c = c.accepted_is_sound.ensures (plain c.args.bundle.now) c.requires.accepted

pub drive_whole-requires-clause-sound : goal.drive_whole-requires-clause-sound
drive_whole-requires-clause-sound g c =
    subst IsSound (sym c.in-Ok.ensures.bundle) (c.accepted_is_sound.ensures (plain c.args.bundle.now) c.requires.accepted)

pub drive_whole-requires-clause-room : goal.drive_whole-requires-clause-room
drive_whole-requires-clause-room g c = record {
  roles = subst (λ (B : PlainBundle). length B.cast ≤ 32) (sym c.in-Ok.ensures.bundle) (few_roles (plain c.args.bundle.now) c.requires.accepted);
  entries = subst (λ (h : List Entry). length (visible h) ≤ 1000000) (sym c.in-Ok.ensures.history) (omega arith);
  limit = c.in-Ok.ensures.limit;
}

pub returns-in-Ok-drive_whole-clause-driven : goal.returns-in-Ok-drive_whole-clause-driven
returns-in-Ok-drive_whole-clause-driven g c =
    subst (λ (B : PlainBundle). driven B c.args.trace.now ≡ Some c.drive_whole.new.net.history) c.in-Ok.ensures.bundle c.in-Ok-drive_whole.ensures.driven.0

pub returns-in-Ok-drive_whole-clause-shows : goal.returns-in-Ok-drive_whole-clause-shows
returns-in-Ok-drive_whole-clause-shows g c = c.in-Ok-drive_whole.ensures.driven.1

pub returns-in-Err-clause-stray : goal.returns-in-Err-clause-stray
returns-in-Err-clause-stray g c =
    subst (λ (B : PlainBundle). LostAt B c.args.trace.now c.in-Err.fault) c.in-Ok.ensures.bundle c.in-Err.ensures.stray

pub returns-in-Err-clause-counted : goal.returns-in-Err-clause-counted
returns-in-Err-clause-counted g c =
    subst (λ (B : PlainBundle). LostCounted B c.args.trace.now c.in-Err.fault) c.in-Ok.ensures.bundle c.in-Err.ensures.counted

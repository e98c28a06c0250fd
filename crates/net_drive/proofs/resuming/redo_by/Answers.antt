-- The entry was done again exactly where the network noted it.
use Rattle.std.proofs.Common.{◌∙◌, true, false, length, slice_get, sym, ap, subst}
use Rattle.std.specs.Option.{option_map_or}
use Rattle.dioc_terms.specs.Equality.{entry_eq}
use Rattle.dioc_terms.specs.Plain.{setting}
use Rattle.network_steps.specs.declared.moves.Move.{Move}
use Rattle.network_steps.specs.Schedule.{move_step}
use Rattle.net_core.specs.Nets.{network_of}
use Rattle.net_drive.proofs.Redone.{redoes_none, redoes_noted}
use Rattle.net_drive.specs.Making.{Makes}
use Rattle.net_drive.specs.Redoing.{Redoes}
use Rattle.net_drive.proofs.resuming.redo_by.Goals as goal

pub returns-then-is_made-clause-redone : goal.returns-then-is_made-clause-redone
returns-then-is_made-clause-redone g c =
    let old = c.args.net.now in
    let new = c.make.new.net in
    let e = c.args.entry.now in
    let made : Makes (move_step (setting old.bundle) (network_of old) c.args.next.now) old new true =
    subst (Makes (move_step (setting old.bundle) (network_of old) c.args.next.now) old new) c.if-is_made.true c.in_ok-is_made.ensures.makes in
    redoes_noted old new e c.is_noted-is_noted.result
    (subst (λ (m : Move). Makes (move_step (setting old.bundle) (network_of old) m) old new true) c.requires.next made)
    (c.is_noted-is_noted.ensures
    ∙ (λ j. option_map_or (entry_eq e) (slice_get (c.history-2.ensures.entries j) (c.len-place.ensures j)) false)
    ∙ ap (λ entries. option_map_or (entry_eq e) (slice_get new.history (length entries)) false) c.history.ensures.entries)

pub returns-else-is_made-clause-redone : goal.returns-else-is_made-clause-redone
returns-else-is_made-clause-redone g c =
    let old = c.args.net.now in
    let new = c.make.new.net in
    let stays : Makes (move_step (setting old.bundle) (network_of old) c.args.next.now) old new false =
    subst (Makes (move_step (setting old.bundle) (network_of old) c.args.next.now) old new) c.if-is_made.false c.in_ok-is_made.ensures.makes in
    subst (Redoes old c.args.entry.now new) (sym c.if-is_made.false)
    (redoes_none old new c.args.entry.now (ap (move_step (setting old.bundle) (network_of old)) (sym c.requires.next) ∙ stays.0))

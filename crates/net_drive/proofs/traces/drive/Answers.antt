-- What is said of the entries of the trace is said of the trace.
use Rattle.std.proofs.Common.{◌≡◌, ◌≤◌, List, length, Some, IfErr, IfOk, not, true, sym, subst}
use Rattle.std.specs.List.{list_all}
use Rattle.dioc_terms.specs.declared.entries.Entry.{Entry}
use Rattle.dioc_terms.specs.Messages.{is_aux, visible}
use Rattle.dioc_terms.specs.Plain.{plain}
use Rattle.net_core.specs.Nets.{NetState}
use Rattle.net_drive.specs.Driven.{driven}
use Rattle.net_drive.specs.Faults.{LostAt, LostCounted}
use Rattle.net_drive.proofs.traces.drive.Goals as goal

pub drive_all-requires-clause-shown : goal.drive_all-requires-clause-shown
drive_all-requires-clause-shown g c = subst (λ (es : List Entry). list_all (λ e. not (is_aux e)) es ≡ true) (sym c.as_slice.ensures) c.requires.shown

pub drive_all-requires-clause-few : goal.drive_all-requires-clause-few
drive_all-requires-clause-few g c = subst (λ (es : List Entry). length es ≤ 1000000) (sym c.as_slice.ensures) c.requires.few

pub returns-clause-driven : goal.returns-clause-driven
returns-clause-driven g c =
    subst (λ (es : List Entry). IfOk c.drive_all.result (λ (net : NetState). driven (plain c.args.bundle.now) es ≡ Some net.history)) c.as_slice.ensures c.drive_all.ensures.driven

pub returns-clause-shows : goal.returns-clause-shows
returns-clause-shows g c =
    subst (λ (es : List Entry). IfOk c.drive_all.result (λ (net : NetState). visible net.history ≡ es)) c.as_slice.ensures c.drive_all.ensures.shows

pub returns-clause-stray : goal.returns-clause-stray
returns-clause-stray g c =
    subst (λ (es : List Entry). IfErr c.drive_all.result (LostAt (plain c.args.bundle.now) es)) c.as_slice.ensures c.drive_all.ensures.stray

pub returns-clause-counted : goal.returns-clause-counted
returns-clause-counted g c =
    subst (λ (es : List Entry). IfErr c.drive_all.result (LostCounted (plain c.args.bundle.now) es)) c.as_slice.ensures c.drive_all.ensures.counted

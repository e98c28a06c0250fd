-- What was driven is the driven history of the visible entries of the section.
use Rattle.std.proofs.Common.{◌≡◌, Some, not, sym, ap, ◌∙◌, subst}
use Rattle.std.specs.List.{list_all}
use Rattle.dioc_terms.specs.Messages.{is_aux, visible}
use Rattle.dioc_terms.specs.Plain.{PlainBundle, plain}
use Rattle.marked_laws.specs.Laws.{IsSound}
use Rattle.net_drive.specs.Driven.{driven}
use Rattle.aioc_top.specs.Replies.{driven_or_no, driven_reply, trace_stray}
use Rattle.aioc_top.proofs.Driven.{all_shown, driven_is}
use Rattle.aioc_top.proofs.Judged.{with_reply}
use Rattle.aioc_top.proofs.commands.drive.drive_trace.Goals as goal

pub drive-requires-clause-shown : goal.drive-requires-clause-shown
drive-requires-clause-shown c =
    ap (list_all (λ e. not (is_aux e))) c.in_ok-trace.ensures ∙ all_shown c.as_slice-entries.result.now

pub returns-in-Ok : goal.returns-in-Ok
returns-in-Ok c =
    let b = plain c.args.bundle.now in
    let net = c.in-Ok.net in
    let trace : c.in_ok-trace.trace.entries ≡ visible b.trace.entries = c.in_ok-trace.ensures ∙ ap visible c.as_slice-entries.ensures in
    let drives : driven b (visible b.trace.entries) ≡ Some net.history = ap (driven b) (sym trace) ∙ c.in-Ok.ensures.driven in
    let sound : IsSound b = subst IsSound c.in-Ok.ensures.bundle c.in-Ok.ensures.run.sound in
    let same : driven_or_no b (trace_stray b) ≡ driven_reply b net.history = driven_is c.drive_strays_are_exact.ensures b sound net.history drives in
    let of_bundle : driven_reply net.bundle net.history ≡ driven_reply b net.history = ap (λ (B : PlainBundle). driven_reply B net.history) c.in-Ok.ensures.bundle in
    with_reply c.say_driven.result (driven_reply net.bundle net.history) (driven_or_no b (trace_stray b)) (of_bundle ∙ sym same) c.say_driven.ensures

-- The reply is the judgement of the role, from what its monitor has read.
use Rattle.std.proofs.Common.{◌≡◌, ◌+◌, suc, [], ◌∷◌, ◌++◌, take, drop, take-append-drop, rules, sym, ap, ◌∙◌, subst, arith}
use Rattle.std.proofs.Math.Seq.{drop-cons, take-suc}
use Rattle.std.proofs.lemmas.List.{take_all}
use Rattle.dioc_terms.specs.Plain.{plain}
use Rattle.role_monitor.specs.declared.monitor.FeedFault.TheVariants as fault
use Rattle.role_monitor.specs.Monitors.{Deviated, HasRead}
use Rattle.aioc_top.specs.Replies.{monitor_reply, no, yes}
use Rattle.aioc_top.proofs.Judged.{with_reply}
use Rattle.aioc_top.proofs.Monitored.{deviation_reply, kept_reply}
use Rattle.aioc_top.proofs.commands.monitor.monitor.Goals as goal

pub new-requires : goal.new-requires
new-requires c = c.accepted_is_sound.ensures (plain c.args.bundle.now) c.requires.accepted

pub loop-entry-preserved : goal.loop-entry-preserved
loop-entry-preserved c =
    let entries = c.as_slice-entries.result.now in
    let i = c.loop-entry.entry-index in
    let e = c.entry-item.result in
    let next : suc i ≡ i + 1 = omega arith in
    let front : take i entries ++ e ∷ [] ≡ take (i + 1) entries =
    ap (λ x. take i entries ++ x ∷ []) c.entry-item.is ∙ sym (take-suc entries i e c.loop-entry-test.true) ∙ ap (λ n. take n entries) next in
    subst (HasRead (plain c.args.bundle.now) c.args.role.now c.feed.new.self) front (c.in-Ok.ensures.read (plain c.args.bundle.now) c.args.role.now (take i entries) c.loop-entry.invariant)

pub returns-in-Err-Deviates : goal.returns-in-Err-Deviates
returns-in-Err-Deviates c =
    let b = plain c.args.bundle.now in
    let r = c.args.role.now in
    let entries = c.as_slice-entries.result.now in
    let i = c.loop-entry.entry-index in
    let e = c.entry-item.result in
    let number = c.in-Err-Deviates.number in
    let deviated : Deviated b r (take i entries) e (fault.Deviates number) =
    subst (Deviated b r (take i entries) e) c.in-Err-Deviates.field-0-is (c.in-Err-Deviates.ensures.deviates b r (take i entries) c.loop-entry.invariant) in
    let rest : drop i entries ≡ e ∷ drop (suc i) entries = drop-cons entries i e c.loop-entry-test.true ∙ ap (λ x. x ∷ drop (suc i) entries) (sym c.entry-item.is) in
    let reply : monitor_reply r b ≡ no number =
    deviation_reply b r entries c.as_slice-entries.ensures c.loop-entry.monitor (take i entries) (drop (suc i) entries) e number c.loop-entry.invariant deviated
    (ap (λ xs. take i entries ++ xs) (sym rest) ∙ take-append-drop i entries) in
    search (rules, reply)

pub returns : goal.returns
returns c =
    let b = plain c.args.bundle.now in
    let r = c.args.role.now in
    let entries = c.as_slice-entries.result.now in
    let read : HasRead b r c.loop-entry.monitor entries =
    subst (HasRead b r c.loop-entry.monitor) (take_all c.loop-entry.entry-index entries c.loop-entry-test.false) c.loop-entry.invariant in
    let reply = kept_reply b r entries c.as_slice-entries.ensures c.loop-entry.monitor c.judged.result read (c.judged.ensures b r entries read) in
    with_reply c.say_yes.result (yes c.judged.result) (monitor_reply r b) (sym reply) c.say_yes.ensures

-- The reply is the judgement of the trace.
use Rattle.std.proofs.Common.{◌≡◌, Some, None, sym, ◌∙◌}
use Rattle.dioc_terms.specs.Messages.{visible}
use Rattle.dioc_terms.specs.Plain.{plain}
use Rattle.global_follower.specs.KeptPlays.{state_of}
use Rattle.global_steps.specs.Follow.{play, play_from, stray, stray_from}
use Rattle.aioc_top.proofs.Judged.{told_stray, told_whole}
use Rattle.aioc_top.proofs.commands.replay.replay.Goals as goal

pub returns-in-None : goal.returns-in-None
returns-in-None c =
    let b = plain c.args.bundle.now in
    let began = c.in_ok-follower.ensures in
    let judged = c.in_ok-number.ensures in
    let entries = c.as_slice-entries.ensures in
    let none : stray b b.trace.entries ≡ None =
    (λ j. stray_from (sym began.setting j) (sym began.start j) 1 (sym entries j)) ∙ sym judged.stray ∙ c.in-None.is in
    let plays : play b (visible b.trace.entries) ≡ Some (state_of c.first_stray-stray.new.self) =
    (λ j. play_from (sym began.setting j) (sym began.start j) (visible (sym entries j))) ∙ judged.whole c.in-None.is in
    told_whole b c.say_whole.result c.as_slice-entries.result.now entries (state_of c.first_stray-stray.new.self) c.is_ended-is_over.result none plays c.is_ended-is_over.ensures
    c.say_whole.ensures.short c.say_whole.ensures.whole

pub returns-in-Some : goal.returns-in-Some
returns-in-Some c =
    let b = plain c.args.bundle.now in
    let began = c.in_ok-follower.ensures in
    let entries = c.as_slice-entries.ensures in
    let found : stray b b.trace.entries ≡ Some c.in-Some.number =
    (λ j. stray_from (sym began.setting j) (sym began.start j) 1 (sym entries j)) ∙ sym c.in_ok-number.ensures.stray ∙ c.in-Some.is in
    told_stray b c.say_no.result c.as_slice-entries.result.now entries c.in-Some.number found c.say_no.ensures

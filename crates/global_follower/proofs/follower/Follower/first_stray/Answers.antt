-- Each entry that is passed leaves the judgement to those behind it.
use Rattle.std.proofs.Common.{◌≡◌, ◌+◌, suc, ◌∷◌, Some, drop, sym, ap, ◌∙◌, subst, arith}
use Rattle.std.proofs.Math.Seq.{drop-cons}
use Rattle.dioc_terms.specs.Messages.{visible}
use Rattle.global_follower.specs.KeptPlays.{setting_of, state_of}
use Rattle.global_steps.specs.Follow.{play_from, stray_from}
use Rattle.global_follower.specs.Passing.{PlaysOn, passed}
use Rattle.global_follower.proofs.Played.{stray_on, play_on, seen}
use Rattle.global_follower.proofs.follower.Follower.first_stray.Goals as goal

pub loop-entry-preserved : goal.loop-entry-preserved
loop-entry-preserved c =
    let b = setting_of c.args.self.now in
    let S = state_of c.loop-entry.self in
    let T = state_of c.plays_on.new.self in
    let i = c.loop-entry.entry-index in
    let e = c.entry-item.result in
    let entries = c.args.entries.now in
    let so_far = c.loop-entry.invariant in
    let told : passed (setting_of c.loop-entry.self) S e ≡ Some T =
    subst (PlaysOn (setting_of c.loop-entry.self) S e T) c.if-not-branch.false c.in_ok-plays_on.ensures.plays in
    let on : passed b S e ≡ Some T = subst (λ setting. passed setting S e ≡ Some T) so_far.1 told in
    let next : suc i ≡ i + 1 = omega arith in
    let rest : drop i entries ≡ e ∷ drop (suc i) entries =
    drop-cons entries i e c.loop-entry-test.true ∙ ap (λ x. x ∷ drop (suc i) entries) (sym c.entry-item.is) in (
      ap (λ n. n + 1) so_far.0,
      c.plays_on.ensures.setting ∙ so_far.1,
      omega (arith, seen c.plays_go_on.ensures b S T e on, so_far.2),
      so_far.3 ∙ ap (stray_from b S (suc i)) rest ∙ stray_on b S e (drop (suc i) entries) (suc i) T on
          ∙ (λ j. stray_from b T (suc (next j)) (drop (next j) entries)),
      so_far.4 ∙ ap (λ es. play_from b S (visible es)) rest ∙ play_on b S e (drop (suc i) entries) T on
          ∙ (λ j. play_from b T (visible (drop (next j) entries))),
    )

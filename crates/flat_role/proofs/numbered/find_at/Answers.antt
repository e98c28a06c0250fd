-- Where no update runs so far, the place of the act's number offers it; else the process does.
use Rattle.std.proofs.Common.{◌≡◌, ◌<◌, ℕ, List, true, length, refl, sym, arith}
use Rattle.std.proofs.lemmas.Bool.{both_ways}
use Rattle.dpoc_process.proofs.StateLemmas.{stands-offered}
use Rattle.flat_role.specs.Progress.{runs_by}
use Rattle.process_steps.specs.Steps.{is_offered, offers}
use Rattle.flat_role.proofs.FillLemmas.{numbered-found}
use Rattle.flat_role.proofs.numbered.find_at.Goals as goal

pub returns-then-not-runs_updates : goal.returns-then-not-runs_updates
returns-then-not-runs_updates c =
    let ps : List ℕ = c.args.progress.now.active.items in
    let inside : c.args.number < length ps = omega arith in
    numbered-found c.args.me.now c.args.plan.now c.args.progress.now c.requires.progress c.args.number inside
    (λ i h. c.runs_updates.ensures c.if-not-runs_updates.true i h) c.args.act.now c.requires.numbered

pub unreachable-requires : goal.unreachable-requires
unreachable-requires c =
    let a = c.args.act.now in
    let all = offers c.args.me.now (runs_by c.args.me.now c.args.plan.now c.args.progress.now) in
    absurd (both_ways (is_offered a all) (c.find.ensures.none c.in-None.is)
    (stands-offered all c.args.number a c.requires.numbered.stands))

pub returns : goal.returns
returns c = c.in-Some.ensures.found c.in-Some.at refl

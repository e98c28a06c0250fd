-- Each place that can act offers just one act where no update runs.
use Rattle.std.proofs.Common.{◌≡◌, ◌+◌, ◌-◌, ◌≤◌, ◌++◌, ℕ, List, drop, length, take, ap, ◌∙◌, sym, arith}
use Rattle.std.specs.List.{between}
use Rattle.std.proofs.lemmas.List.{append_assoc, length-append, length-take-le, take-append-drop}
use Rattle.dioc_terms.specs.declared.entries.Act.{Act}
use Rattle.flat_role.specs.Progress.{acts_at}
use Rattle.flat_role.proofs.FillLemmas.{NoUpdate, fills, lacks-few, news-many}
use Rattle.flat_role.proofs.filling.fill_acts.Goals as goal

pub overflow_sub-missing : goal.overflow_sub-missing
overflow_sub-missing c =
    let few =
    lacks-few c.args.me.now c.args.plan.now c.args.progress.now c.requires.progress
    (λ i h. c.runs_updates.ensures c.if-runs_updates.false i (omega (arith, h)))
    c.args.acts.now.items c.args.at c.requires.inside c.requires.lacks in
    omega (arith, few)

pub add_acts-requires-clause-inside : goal.add_acts-requires-clause-inside
add_acts-requires-clause-inside c =
    let few =
    lacks-few c.args.me.now c.args.plan.now c.args.progress.now c.requires.progress
    (λ i h. c.runs_updates.ensures c.if-runs_updates.false i (omega (arith, h)))
    c.args.acts.now.items c.args.at c.requires.inside c.requires.lacks in
    omega (arith, few, c.requires.inside)

pub bring_forward-requires : goal.bring_forward-requires
bring_forward-requires c =
    let me = c.args.me.now in
    let plan = c.args.plan.now in
    let progress = c.args.progress.now in
    let old : List Act = c.args.acts.now.items in
    let missing : ℕ = c.len-places.result - c.len.result in
    let news : List Act =
    acts_at me plan progress (between c.args.at (c.args.at + missing) progress.active.items) in
    let own : NoUpdate me plan progress c.requires.progress =
    λ i h. c.runs_updates.ensures c.if-runs_updates.false i (omega (arith, h)) in
    let few : length old ≤ length progress.active.items =
    lacks-few me plan progress c.requires.progress own old c.args.at c.requires.inside
    c.requires.lacks in
    let count : length old + missing ≡ length progress.active.items = omega (arith, few) in
    let many : length news ≡ missing =
    news-many me plan progress c.requires.progress own c.args.at missing
    (omega (arith, count, c.requires.inside)) in
    omega (
      arith,
      many,
      ap length c.in_ok-add_acts.ensures,
      length-append old news,
      c.requires.inside,
    )

pub returns : goal.returns
returns c =
    let me = c.args.me.now in
    let plan = c.args.plan.now in
    let progress = c.args.progress.now in
    let at = c.args.at in
    let old : List Act = c.args.acts.now.items in
    let missing : ℕ = c.len-places.result - c.len.result in
    let news : List Act =
    acts_at me plan progress (between at (at + missing) progress.active.items) in
    let own : NoUpdate me plan progress c.requires.progress =
    λ i h. c.runs_updates.ensures c.if-runs_updates.false i (omega (arith, h)) in
    let few : length old ≤ length progress.active.items =
    lacks-few me plan progress c.requires.progress own old at c.requires.inside c.requires.lacks in
    let count : length old + missing ≡ length progress.active.items = omega (arith, few) in
    let many : length news ≡ missing =
    news-many me plan progress c.requires.progress own at missing
    (omega (arith, count, c.requires.inside)) in
    let parts : c.add_acts.new.acts.items ≡ take at old ++ (drop at old ++ news) =
    c.in_ok-add_acts.ensures ∙ ap (λ acts. acts ++ news) (sym (take-append-drop at old))
    ∙ append_assoc (take at old) (drop at old) news in
    c.bring_forward.ensures (take at old) (drop at old) news parts
    (length-take-le at old c.requires.inside) many
    ∙ fills me plan progress c.requires.progress own old at missing c.requires.inside
    c.requires.lacks count

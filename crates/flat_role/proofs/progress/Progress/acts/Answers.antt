-- The acts are those of all places that can act.
use Rattle.std.proofs.Common.{◌≤◌, ◌++◌, ℕ, List, length, ap₂, ◌∙◌, arith}
use Rattle.std.proofs.lemmas.Slice.{between_to_end}
use Rattle.dioc_terms.specs.declared.entries.Act.{Act}
use Rattle.flat_role.specs.Progress.{acts_at}
use Rattle.flat_role.proofs.ProgressLemmas.{offers-acts}
use Rattle.flat_role.proofs.progress.Progress.acts.Goals as goal

pub returns : goal.returns
returns c =
    let me = c.args.me.now in
    let plan = c.args.plan.now in
    let progress = c.args.self.now in
    let ps : List ℕ = progress.active.items in
    let all : length ps ≤ c.len.result = omega arith in
    c.in_ok-add_acts.ensures
    ∙ ap₂ (λ (xs : List Act) (qs : List ℕ). xs ++ acts_at me plan progress qs) c.new-acts.ensures.items (between_to_end ps 0 c.len.result all)
    ∙ offers-acts me plan progress c.requires

-- What is next at the place that does the act, and of an update there what is next of it.
use Rattle.std.proofs.Common.{suc, ◌≡◌, ◌<◌, ◌≤◌, ℕ, List, Some, None, false, length, refl, sym, ap, ◌∙◌, subst, arith}
use Rattle.std.specs.Option.{is_some}
use Rattle.dioc_terms.specs.declared.entries.Act.{Act}
use Rattle.dioc_terms.specs.Processes.{Process, Tell, letters}
use Rattle.dpoc_process.specs.Acting.{acting}
use Rattle.flat_role.specs.declared.leaves.Next.TheVariants as next
use Rattle.flat_role.specs.declared.marks.Mark.{Mark as KeptMark}
use Rattle.flat_role.specs.declared.marks.Mark.TheVariants as kept
use Rattle.flat_role.specs.MovedMarks.{runs_update}
use Rattle.flat_role.specs.PlanMarks.{mark_in}
use Rattle.flat_role.specs.Progress.{IsOf}
use Rattle.flat_role.specs.Leaves.{IsNext}
use Rattle.flat_role.specs.ReadySteps.{IsNextOf, front_at}
use Rattle.flat_role.specs.Updates.{chosen_in, deepest, depth_in, fresh_by, fresh_in, is_fresh}
use Rattle.flat_role.proofs.ChosenLemmas.{chosen_for, chosen_placed, chosen_some}
use Rattle.flat_role.proofs.FoundLemmas.{at-inside, found-inside}
use Rattle.flat_role.proofs.MineLemmas.{less_deep}
use Rattle.flat_role.proofs.NextLemmas.{read_own, read_update}
use Rattle.flat_role.proofs.ReadyLemmas.{chosen_found, next_inside, next_own, update_chosen, update_offers}
use Rattle.flat_role.proofs.UpdateFacts.{process_at, sound_at, told_next}
use Rattle.flat_role.proofs.+next.Goals as goal

pub readying::next_of-chosen_place-requires : goal.readying::next_of-chosen_place-requires
readying::next_of-chosen_place-requires t c =
    chosen_some c.args.me.now c.args.plan.now c.args.progress.now c.args.act.now
    c.args.progress.now.chosen c.requires.chosen

pub readying::next_of-index-place-requires : goal.readying::next_of-index-place-requires
readying::next_of-index-place-requires t c =
    let me = c.args.me.now in
    let plan = c.args.plan.now in
    let progress = c.args.progress.now in
    let a = c.args.act.now in
    let at = c.chosen_place.result in
    let there = (chosen_placed me plan progress a progress.chosen at c.chosen_place.ensures
    c.requires.chosen).there in
    let inside : at < length progress.active.items =
    at-inside me plan progress c.requires.progress a at there.place there.found in
    omega (arith, inside, progress.active.ok.0)

pub readying::next_of-next-requires : goal.readying::next_of-next-requires
readying::next_of-next-requires t c =
    let me = c.args.me.now in
    let plan = c.args.plan.now in
    let progress = c.args.progress.now in
    let a = c.args.act.now in
    let k = c.requires.progress in
    let at = c.chosen_place.result in
    let place : ℕ = c.index-place.result.now in
    let read = c.index-place.ensures in
    let found = chosen_found me plan progress k a c.requires.chosen at c.chosen_place.ensures place
    read in
    let there = found-inside me plan progress k a at place found in
    let inside : place < length progress.marks.items = omega (arith, there, k.as_long) in
    let was : mark_in progress.marks.items place ≡ kept.Became c.in-Became.update =
    read_update progress.marks.items place inside c.index-mark.ensures c.in-Became.is in
    let e : c.deref.result.now ≡ c.in-Became.update.value = c.deref.ensures in
    let less : suc c.in-Became.update.value.depth ≤ deepest progress.marks.items =
    less_deep progress.marks.items place was in
    let depth : c.deref.result.now.depth ≡ c.in-Became.update.value.depth =
    ap (λ v. v.depth) e in (
      omega (arith, c.decreases, less, depth),
      (
        ap (λ v. v.role) e ∙ subst (IsOf me) was (k.mine place),
        (
          ap (λ v. v.chosen) e
              ∙ update_chosen me plan progress k a c.requires.chosen at c.chosen_place.ensures place
              read was,
          ap (λ v. is_some (acting me a v.process)) e
              ∙ update_offers me plan progress k a c.requires.chosen at c.chosen_place.ensures place
              read was,
        ),
      ),
    )

pub readying::next_of-returns-in-Became : goal.readying::next_of-returns-in-Became
readying::next_of-returns-in-Became t c =
    let me = c.args.me.now in
    let plan = c.args.plan.now in
    let progress = c.args.progress.now in
    let a = c.args.act.now in
    let k = c.requires.progress in
    let at = c.chosen_place.result in
    let place : ℕ = c.index-place.result.now in
    let read = c.index-place.ensures in
    let found = chosen_found me plan progress k a c.requires.chosen at c.chosen_place.ensures place
    read in
    let there = found-inside me plan progress k a at place found in
    let inside : place < length progress.marks.items = omega (arith, there, k.as_long) in
    let was : mark_in progress.marks.items place ≡ kept.Became c.in-Became.update =
    read_update progress.marks.items place inside c.index-mark.ensures c.in-Became.is in
    next_inside me plan progress k a c.requires.chosen at c.chosen_place.ensures place read was
    c.next.result
    (subst (λ v. IsNextOf me a v.process v.fresh c.next.result) c.deref.ensures c.next.ensures)

pub readying::next_of-next_at-requires : goal.readying::next_of-next_at-requires
readying::next_of-next_at-requires t c =
    let me = c.args.me.now in
    let plan = c.args.plan.now in
    let progress = c.args.progress.now in
    let a = c.args.act.now in
    let k = c.requires.progress in
    let at = c.chosen_place.result in
    let place : ℕ = c.index-place.result.now in
    let found = chosen_found me plan progress k a c.requires.chosen at c.chosen_place.ensures place
    c.index-place.ensures in
    let there = found-inside me plan progress k a at place found in
    let inside : place < length progress.marks.items = omega (arith, there, k.as_long) in
    record {
      inside = there;
      as_long = ap length c.as_slice.ensures.value ∙ k.as_long;
      own = ap (λ (ms : List KeptMark). runs_update (mark_in ms place)) c.as_slice.ensures.value
          ∙ read_own progress.marks.items place inside c.index-mark.ensures
          c.in_default.not-Became;
    }

pub readying::next_of-returns-in_default : goal.readying::next_of-returns-in_default
readying::next_of-returns-in_default t c =
    let me = c.args.me.now in
    let plan = c.args.plan.now in
    let progress = c.args.progress.now in
    let a = c.args.act.now in
    let k = c.requires.progress in
    let at = c.chosen_place.result in
    let place : ℕ = c.index-place.result.now in
    let found = chosen_found me plan progress k a c.requires.chosen at c.chosen_place.ensures place
    c.index-place.ensures in
    let there = found-inside me plan progress k a at place found in
    let same : c.as_slice.result.now ≡ progress.marks.items = c.as_slice.ensures.value in
    let inside : place < length progress.marks.items = omega (arith, there, k.as_long) in
    next_own me plan progress k a c.requires.chosen at c.chosen_place.ensures place
    c.index-place.ensures c.next_at.result
    (read_own progress.marks.items place inside c.index-mark.ensures c.in_default.not-Became)
    (subst (λ (ms : List KeptMark). IsNext me c.next_at.result (front_at me plan ms place)) same
    c.next_at.ensures.next)
    (c.next_at.ensures.first ∙ ap (λ (ms : List KeptMark). is_fresh (mark_in ms place)) same)

pub readying::next_of-index-mark-requires : goal.readying::next_of-index-mark-requires
readying::next_of-index-mark-requires t c =
    let me = c.args.me.now in
    let plan = c.args.plan.now in
    let progress = c.args.progress.now in
    let k = c.requires.progress in
    let at = c.chosen_place.result in
    let place : ℕ = c.index-place.result.now in
    let found = chosen_found me plan progress k c.args.act.now c.requires.chosen at
    c.chosen_place.ensures place c.index-place.ensures in
    let there = found-inside me plan progress k c.args.act.now at place found in
    omega (arith, there, k.as_long, progress.marks.ok.0)

pub marks::Update::next-next_of-requires : goal.marks::Update::next-next_of-requires
marks::Update::next-next_of-requires t c =
    let me = c.args.me.now in
    let a = c.args.act.now in
    let plan = c.in-Runs.plan in
    let progress = c.in-Runs.progress in
    let r = c.self.inside.me.value in
    let sound = sound_at me r c.self.view_is c.requires.role c.in-Runs.is c.self.invariant in
    let deep : deepest progress.marks.items ≡ c.args.self.now.depth =
    ap depth_in (sym c.in-Runs.is) ∙ ap (λ v. v.depth) c.self.view_is in (
      omega (arith, c.decreases, deep),
      (
        sound.0,
        chosen_for me plan progress a progress.chosen sound.1
            (ap chosen_in (sym c.in-Runs.is) ∙ ap (λ v. v.chosen) c.self.view_is
            ∙ c.requires.chosen),
      ),
    )

pub marks::Update::next-returns-in-Runs : goal.marks::Update::next-returns-in-Runs
marks::Update::next-returns-in-Runs t c =
    let me = c.args.me.now in
    let a = c.args.act.now in
    let progress = c.in-Runs.progress in
    let r = c.self.inside.me.value in
    let fresh : fresh_by progress progress.chosen ≡ c.args.self.now.fresh =
    ap fresh_in (sym c.in-Runs.is) ∙ ap (λ v. v.fresh) c.self.view_is in
    subst (λ b. IsNextOf me a c.args.self.now.process b c.next_of.result) fresh
    (subst (λ (R : Process). IsNextOf me a R (fresh_by progress progress.chosen) c.next_of.result)
    (process_at me r c.self.view_is c.requires.role c.in-Runs.is) c.next_of.ensures)

pub marks::Update::next-returns-in-Told : goal.marks::Update::next-returns-in-Told
marks::Update::next-returns-in-Told t c =
    let me = c.args.me.now in
    let a = c.args.act.now in
    let r = c.self.inside.me.value in
    let n = next.Tell c.deref.result in
    let told = process_at me r c.self.view_is c.requires.role c.in-Told.is in
    let fresh : false ≡ c.args.self.now.fresh =
    ap fresh_in (sym c.in-Told.is) ∙ ap (λ v. v.fresh) c.self.view_is in
    subst (λ b. IsNextOf me a c.args.self.now.process b n) fresh
    (subst (λ (R : Process). IsNextOf me a R false n) told
    (told_next me a (letters c.in-Told.messages.value) n
    (ap (λ ms. Tell (letters ms)) (sym c.deref.ensures)) refl
    (ap (λ (R : Process). is_some (acting me a R)) told ∙ c.requires.acts)))

none_some : {a : Act} → None ≡ Some a → ⊥
none_some e = cc

pub marks::Update::next-unreachable-requires : goal.marks::Update::next-unreachable-requires
marks::Update::next-unreachable-requires t c =
    none_some (ap chosen_in (sym c.in-Came.is) ∙ ap (λ v. v.chosen) c.self.view_is
    ∙ c.requires.chosen)

use Rattle.std.proofs.Common.{◌≡◌, ◌∙◌, ℕ, ℤ, List, Some, ap, sym, refl, map, take, rules}
use Rattle.std.proofs.lemmas.Int.{to_z-of_z}
use Rattle.std.proofs.lemmas.List.{take_all}
use Rattle.std.specs.Int.{w32}
use Rattle.std.specs.Int.RustNames.{FitsSigned}
use Rattle.std.specs.Option.{option_map}
use Rattle.dioc_terms.specs.KeptStores.{store_of}
use Rattle.dioc_terms.specs.declared.values.Value.{Value}
use Rattle.rule_book.specs.KeptBooks.{book_of}
use Rattle.rule_book.proofs.ChoiceLemmas.{kept_fits, best_of, best_of-more, next_best-above, next_best-below, next_best-unfit, best_of-chosen}
use Rattle.rule_book.proofs.book.Book.choose.Goals as goal
use Rattle.rule_book.proofs.book.Book.choose.Goals.{then-is_above+then-fits, else-is_above, else-is_above-via-then-is_above+else-fits, else-is_above-via-else-is_above}

pub loop-rule-preserved : goal.loop-rule-preserved
loop-rule-preserved c =
    let head = c.args.head.now in
    let store = store_of c.args.store.now in
    let env = c.args.self.now.env.items in
    let one = c.rule-item.result in
    let best = c.loop-rule.best in
    let more = best_of-more head store env c.as_slice-rules.result.now c.loop-rule.rule-index one best c.loop-rule-test.true c.rule-item.is c.loop-rule.invariant in
    elim c.if-is_above.branch [
      | then-is_above+then-fits w ↦
          let fits : FitsSigned w32 one.priority = search rules in
          let at_env = ap (λ (pairs : List (List ℕ × Value)). kept_fits head store pairs one) w.deref.ensures.value in
          w.best-is
          ∙ (ap (λ (p : ℤ). Some (one.number, p)) (to_z-of_z w32 one.priority fits)
          ∙ (sym (next_best-above head store env best one (sym c.is_above.ensures ∙ w.if-is_above.true) (sym at_env ∙ (sym w.fits.ensures ∙ w.if-fits.true))) ∙ sym more))
      | else-is_above w ↦ elim w.else-is_above.branch [
        | else-is_above-via-then-is_above+else-fits w' ↦
            let at_env = ap (λ (pairs : List (List ℕ × Value)). kept_fits head store pairs one) w'.deref.ensures.value in
            w.best-is ∙ (sym (next_best-unfit head store env best one (sym at_env ∙ (sym w'.fits.ensures ∙ w'.if-fits.false))) ∙ sym more)
        | else-is_above-via-else-is_above w' ↦
            w.best-is ∙ (sym (next_best-below head store env best one (sym c.is_above.ensures ∙ w'.if-is_above.false)) ∙ sym more)
      ]
    ]

pub returns : goal.returns
returns c = λ all of.
    let book = c.args.self.now in
    let head = c.args.head.now in
    let store = store_of c.args.store.now in
    let env = book.env.items in
    let number : c.map.result ≡ option_map (λ (b : ℕ × ℤ). b.0) c.loop-rule.best = search rules in
    let whole : take c.loop-rule.rule-index c.as_slice-rules.result.now ≡ map (λ e. e.1) book.rules.entries =
    take_all c.loop-rule.rule-index c.as_slice-rules.result.now c.loop-rule-test.false ∙ (c.as_slice-rules.ensures ∙ c.values.ensures.rest) in
    number
    ∙ (ap (option_map (λ (b : ℕ × ℤ). b.0)) (c.loop-rule.invariant ∙ ap (best_of head store env) whole)
    ∙ best_of-chosen all c.choices_go_on.ensures c.mentions_are_roles.ensures c.casts_are_roles.ensures (book_of book) head store env refl book.rules.entries of.kept)

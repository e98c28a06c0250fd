-- The leader is there, and what it did is what the book decides of the scope's head.
use Rattle.std.proofs.Common.{◌≡◌, suc, Option, IsSome, refl, sym, ap, ◌∙◌, subst}
use Rattle.std.specs.Prelude.{option_map}
use Rattle.std.specs.Option.{option_copied}
use Rattle.dioc_terms.specs.declared.processes.ScopeHead.{ScopeHead}
use Rattle.dioc_terms.specs.KeptStores.{store_of}
use Rattle.dioc_terms.specs.Stores.{Store}
use Rattle.dioc_terms.specs.Terms.{term}
use Rattle.dpoc_process.specs.Acting.{lead_head}
use Rattle.global_steps.specs.Follow.{book_choice}
use Rattle.marked_laws.proofs.Shapes.{some_same}
use Rattle.network_steps.specs.Network.{decision}
use Rattle.process_steps.specs.Steps.{Decision, Keeps, Replaces}
use Rattle.net_core.proofs.ScopeLemmas.{answer_of, began, body_in_cast, can_begin, lead_there}
use Rattle.net_core.specs.KeptParts.{body_seen}
use Rattle.net_core.specs.Scopes.{choice_of_body}
use Rattle.rule_book.specs.KeptBooks.{book_of}
use Rattle.scope_leader.specs.Plans.{part_of}
use Rattle.net_core.proofs.scopes.begin_scope.Goals as goal

pub into_head-head-requires : goal.into_head-head-requires
into_head-head-requires g c =
    let lead = lead_there (g.R.Runs.local c.args.state.now) c.args.act.now c.requires.scope c.requires.shown.can_act in
    subst (λ (o : Option ScopeHead). IsSome o) (sym (c.requires.shown.head ∙ ap (option_map lead_head) lead.1)) refl

pub keep_scope-requires-clause-can : goal.keep_scope-requires-clause-can
keep_scope-requires-clause-can g c =
    can_begin c.offers_are_steps.ensures (g.R.Runs.local c.args.state.now) c.args.act.now c.requires.scope c.requires.shown.can_act

pub keep_scope-requires-clause-led : goal.keep_scope-requires-clause-led
keep_scope-requires-clause-led g c =
    let lead = lead_there (g.R.Runs.local c.args.state.now) c.args.act.now c.requires.scope c.requires.shown.can_act in
    (lead.0, lead.1, some_same (sym (c.requires.shown.head ∙ ap (option_map lead_head) lead.1) ∙ c.into_head-head.ensures))

pub replace_scope-requires-clause-can : goal.replace_scope-requires-clause-can
replace_scope-requires-clause-can g c =
    can_begin c.offers_are_steps.ensures (g.R.Runs.local c.args.state.now) c.args.act.now c.requires.scope c.requires.shown.can_act

pub replace_scope-requires-clause-led : goal.replace_scope-requires-clause-led
replace_scope-requires-clause-led g c =
    let lead = lead_there (g.R.Runs.local c.args.state.now) c.args.act.now c.requires.scope c.requires.shown.can_act in
    (lead.0, lead.1, some_same (sym (c.requires.shown.head ∙ ap (option_map lead_head) lead.1) ∙ c.into_head-head.ensures))

pub replace_scope-requires-clause-level : goal.replace_scope-requires-clause-level
replace_scope-requires-clause-level g c =
    let known = c.requires.known in
    (answer_of known.rules (book_of c.args.fixed.now.book.now) c.into_head-head.result (store_of c.store.result.now) c.choices_go_on.ensures (body_seen c.in-Some.rule.now)
    (ap (λ o. choice_of_body (option_map body_seen (option_copied o))) (sym c.in-Some.is) ∙ c.choice.ensures known.rules known.of known.same)).level

pub replace_scope-requires-clause-body : goal.replace_scope-requires-clause-body
replace_scope-requires-clause-body g c =
    let known = c.requires.known in
    body_in_cast c.mentions_are_roles.ensures c.args.fixed.now.cast.now known.rules c.into_head-head.result (body_seen c.in-Some.rule.now) known.sound
    (answer_of known.rules (book_of c.args.fixed.now.book.now) c.into_head-head.result (store_of c.store.result.now) c.choices_go_on.ensures (body_seen c.in-Some.rule.now)
    (ap (λ o. choice_of_body (option_map body_seen (option_copied o))) (sym c.in-Some.is) ∙ c.choice.ensures known.rules known.of known.same))

pub returns-in-None-clause-did : goal.returns-in-None-clause-did
returns-in-None-clause-did g c = λ rules mail of same.
    let s = g.R.Runs.local c.args.state.now in
    let a = c.args.act.now in
    let n = c.args.updates.now in
    let book = book_of c.args.fixed.now.book.now in
    let head = c.into_head-head.result in
    let lead = lead_there s a c.requires.scope c.requires.shown.can_act in
    let heads = some_same (sym (c.requires.shown.head ∙ ap (option_map lead_head) lead.1) ∙ c.into_head-head.ensures) in
    let decide : ScopeHead → Decision = λ h. decision c.args.fixed.now.cast.now n h (book_choice rules book h s.store) in
    let decided : decide head ≡ Keeps =
    ap (λ (t : Store). decision c.args.fixed.now.cast.now n head (book_choice rules book head t)) (sym c.store.ensures)
    ∙ ap (decision c.args.fixed.now.cast.now n head) (sym (c.choice.ensures rules of same))
    ∙ ap (λ o. decision c.args.fixed.now.cast.now n head (choice_of_body (option_map body_seen (option_copied o)))) c.in-None.is in
    began c.args.fixed.now.cast.now rules mail book n s a lead.0 c.requires.scope lead.1 (c.requires.tells lead.0 lead.1) head heads Keeps decided
    (g.R.Runs.local c.keep_scope.new.state) (c.keep_scope.ensures.steps decide decided) n c.args.history.now.entries c.keep_scope.new.history.entries refl
    c.keep_scope.ensures.pushed

pub returns-in-Ok-clause-did : goal.returns-in-Ok-clause-did
returns-in-Ok-clause-did g c = λ rules mail of same.
    let s = g.R.Runs.local c.args.state.now in
    let a = c.args.act.now in
    let n = c.args.updates.now in
    let book = book_of c.args.fixed.now.book.now in
    let head = c.into_head-head.result in
    let rule = c.in-Some.rule.now in
    let lead = lead_there s a c.requires.scope c.requires.shown.can_act in
    let heads = some_same (sym (c.requires.shown.head ∙ ap (option_map lead_head) lead.1) ∙ c.into_head-head.ensures) in
    let decide : ScopeHead → Decision = λ h. decision c.args.fixed.now.cast.now n h (book_choice rules book h s.store) in
    let what = Replaces rule.name (suc n) (part_of c.args.fixed.now.cast.now head (suc n) (term rule.body)) in
    let decided : decide head ≡ Replaces rule.name (suc n) (part_of c.args.fixed.now.cast.now head (suc n) (term rule.body)) =
    ap (λ (t : Store). decision c.args.fixed.now.cast.now n head (book_choice rules book head t)) (sym c.store.ensures)
    ∙ ap (decision c.args.fixed.now.cast.now n head) (sym (c.choice.ensures rules of same))
    ∙ ap (λ o. decision c.args.fixed.now.cast.now n head (choice_of_body (option_map body_seen (option_copied o)))) c.in-Some.is in
    began c.args.fixed.now.cast.now rules mail book n s a lead.0 c.requires.scope lead.1 (c.requires.tells lead.0 lead.1) head heads what decided
    (g.R.Runs.local c.replace_scope.new.state) (c.in-Ok.ensures.steps decide decided) c.replace_scope.new.updates c.args.history.now.entries c.replace_scope.new.history.entries
    c.in-Ok.ensures.counted c.in-Ok.ensures.pushed

-- The scope is begun as the book decides, or the entry is another one.
use Rattle.std.proofs.Common.{◌≡◌, ◌<◌, Option, IsSome, Some, None, length, suc, refl, sym, ap, ◌∙◌, subst}
use Rattle.std.proofs.lemmas.List.{length-map}
use Rattle.std.specs.Prelude.{option_map}
use Rattle.dioc_terms.specs.declared.processes.ScopeHead.{ScopeHead}
use Rattle.dioc_terms.specs.KeptStores.{store_of}
use Rattle.dioc_terms.specs.Plain.{plain, plain_rule, setting}
use Rattle.dioc_terms.specs.Rules.{choose}
use Rattle.dpoc_process.specs.Acting.{lead_head}
use Rattle.marked_laws.proofs.Shapes.{some_same}
use Rattle.network_steps.specs.Network.{decision}
use Rattle.process_steps.specs.Steps.{Keeps, Replaces}
use Rattle.net_core.proofs.ScopeLemmas.{body_in_cast, can_begin, choice_none, lead_there}
use Rattle.net_core.specs.Standing.{body_of}
use Rattle.role_monitor.proofs.Begins.{chosen_there, choice_taken, keep_kept, keep_refused, on_true, replace_kept, replace_refused, rule_answers, rule_stands}
use Rattle.role_monitor.specs.Judging.{decides}
use Rattle.rule_book.specs.KeptBooks.{book_of}
use Rattle.scope_leader.specs.Plans.{part_of}
use Rattle.role_monitor.proofs.scopes.judge_scope.Goals as goal

pub into_head-head-requires : goal.into_head-head-requires
into_head-head-requires g c =
    let lead = lead_there (g.R.Runs.local c.args.state.now) c.args.act.now c.requires.scope c.requires.shown.can_act in
    subst (λ (o : Option ScopeHead). IsSome o) (sym (c.requires.shown.head ∙ ap (option_map lead_head) lead.1)) refl

pub keep-kept-requires-clause-can : goal.keep-kept-requires-clause-can
keep-kept-requires-clause-can g c =
    can_begin c.offers_are_steps.ensures (g.R.Runs.local c.args.state.now) c.args.act.now c.requires.scope c.requires.shown.can_act

pub keep-kept-requires-clause-led : goal.keep-kept-requires-clause-led
keep-kept-requires-clause-led g c =
    let lead = lead_there (g.R.Runs.local c.args.state.now) c.args.act.now c.requires.scope c.requires.shown.can_act in
    (lead.0, lead.1, some_same (sym (c.requires.shown.head ∙ ap (option_map lead_head) lead.1) ∙ c.into_head-head.ensures))

pub replace-requires-clause-can : goal.replace-requires-clause-can
replace-requires-clause-can g c =
    can_begin c.offers_are_steps.ensures (g.R.Runs.local c.args.state.now) c.args.act.now c.requires.scope c.requires.shown.can_act

pub replace-requires-clause-led : goal.replace-requires-clause-led
replace-requires-clause-led g c =
    let lead = lead_there (g.R.Runs.local c.args.state.now) c.args.act.now c.requires.scope c.requires.shown.can_act in
    (lead.0, lead.1, some_same (sym (c.requires.shown.head ∙ ap (option_map lead_head) lead.1) ∙ c.into_head-head.ensures))

pub rule_at-rule-requires : goal.rule_at-rule-requires
rule_at-rule-requires g c =
    let b = plain c.args.scene.now.bundle.now in
    subst (λ n. c.in-Some.number < n) (length-map c.args.scene.now.bundle.now.rules plain_rule)
    (chosen_there b.rules (book_of c.args.scene.now.book.now) c.into_head-head.result (store_of c.store.result.now) c.choices_go_on.ensures c.in-Some.number
    (sym (c.choose.ensures b.rules c.requires.book) ∙ c.in-Some.is))

pub replace-requires-clause-level : goal.replace-requires-clause-level
replace-requires-clause-level g c =
    let b = plain c.args.scene.now.bundle.now in
    (rule_answers b.rules (book_of c.args.scene.now.book.now) c.into_head-head.result (store_of c.store.result.now) c.choices_go_on.ensures c.in-Some.number (plain_rule c.rule_at-rule.result.now)
    (sym (c.choose.ensures b.rules c.requires.book) ∙ c.in-Some.is) (rule_stands c.args.scene.now.bundle.now.rules c.in-Some.number c.rule_at-rule.result.now c.rule_at-rule.ensures)).level

pub replace-requires-clause-body : goal.replace-requires-clause-body
replace-requires-clause-body g c =
    let b = plain c.args.scene.now.bundle.now in
    let rule = plain_rule c.rule_at-rule.result.now in
    body_in_cast c.mentions_are_roles.ensures b.cast b.rules c.into_head-head.result (body_of rule) c.requires.sound.rules
    (rule_answers b.rules (book_of c.args.scene.now.book.now) c.into_head-head.result (store_of c.store.result.now) c.choices_go_on.ensures c.in-Some.number rule
    (sym (c.choose.ensures b.rules c.requires.book) ∙ c.in-Some.is) (rule_stands c.args.scene.now.bundle.now.rules c.in-Some.number c.rule_at-rule.result.now c.rule_at-rule.ensures))

pub returns-in-None-clause-kept : goal.returns-in-None-clause-kept
returns-in-None-clause-kept g c =
    let b = plain c.args.scene.now.bundle.now in
    let s = g.R.Runs.local c.args.state.now in
    let a = c.args.act.now in
    let us = c.args.updates.now.items in
    let book = book_of c.args.scene.now.book.now in
    let head = c.into_head-head.result in
    let lead = lead_there s a c.requires.scope c.requires.shown.can_act in
    let heads = some_same (sym (c.requires.shown.head ∙ ap (option_map lead_head) lead.1) ∙ c.into_head-head.ensures) in
    let picked : choose b.rules book head s.store ≡ None = ap (choose b.rules book head) (sym c.store.ensures) ∙ sym (c.choose.ensures b.rules c.requires.book) ∙ c.in-None.is in
    let decided : decides (setting b) s book us head ≡ Keeps = ap (decision b.cast (length us) head) (sym (choice_none b.rules book head s.store picked)) in
    keep_kept (setting b) s book us c.args.scene.now.entry.now a c.requires.scope lead.0 lead.1 (c.requires.tells lead.0 lead.1).leads head heads decided c.keep-kept.result c.keep-kept.ensures.shows
    (g.R.Runs.local c.keep-kept.new.state) (on_true c.keep-kept.result (λ steps. steps (decides (setting b) s book us) decided) c.keep-kept.ensures.steps)

pub returns-in-None-clause-refused : goal.returns-in-None-clause-refused
returns-in-None-clause-refused g c =
    let b = plain c.args.scene.now.bundle.now in
    let s = g.R.Runs.local c.args.state.now in
    let a = c.args.act.now in
    let us = c.args.updates.now.items in
    let book = book_of c.args.scene.now.book.now in
    let head = c.into_head-head.result in
    let lead = lead_there s a c.requires.scope c.requires.shown.can_act in
    let heads = some_same (sym (c.requires.shown.head ∙ ap (option_map lead_head) lead.1) ∙ c.into_head-head.ensures) in
    let picked : choose b.rules book head s.store ≡ None = ap (choose b.rules book head) (sym c.store.ensures) ∙ sym (c.choose.ensures b.rules c.requires.book) ∙ c.in-None.is in
    let decided : decides (setting b) s book us head ≡ Keeps = ap (decision b.cast (length us) head) (sym (choice_none b.rules book head s.store picked)) in
    keep_refused (setting b) s book us c.args.scene.now.entry.now a c.requires.scope lead.0 lead.1 (c.requires.tells lead.0 lead.1).leads head heads decided c.keep-kept.result c.keep-kept.ensures.shows

pub returns-in-Ok-clause-kept : goal.returns-in-Ok-clause-kept
returns-in-Ok-clause-kept g c =
    let b = plain c.args.scene.now.bundle.now in
    let s = g.R.Runs.local c.args.state.now in
    let a = c.args.act.now in
    let us = c.args.updates.now.items in
    let book = book_of c.args.scene.now.book.now in
    let head = c.into_head-head.result in
    let lead = lead_there s a c.requires.scope c.requires.shown.can_act in
    let heads = some_same (sym (c.requires.shown.head ∙ ap (option_map lead_head) lead.1) ∙ c.into_head-head.ensures) in
    let m = c.in-Some.number in
    let rule = plain_rule c.rule_at-rule.result.now in
    let n = suc (length us) in
    let picked : choose b.rules book head s.store ≡ Some c.in-Some.number = ap (choose b.rules book head) (sym c.store.ensures) ∙ sym (c.choose.ensures b.rules c.requires.book) ∙ c.in-Some.is in
    let at = rule_stands c.args.scene.now.bundle.now.rules m c.rule_at-rule.result.now c.rule_at-rule.ensures in
    let part = part_of b.cast head n rule.body in
    let decided : decides (setting b) s book us head ≡ Replaces rule.name n (part_of b.cast head n rule.body) =
    ap (decision b.cast (length us) head) (choice_taken b.rules book head s.store m rule picked at) in
    replace_kept (setting b) s book us c.args.scene.now.entry.now a c.requires.scope lead.0 lead.1 (c.requires.tells lead.0 lead.1).leads head heads c.steps_show_their_acts.ensures rule.name n m part decided
    picked c.in-Ok.kept c.in-Ok.ensures.shows (g.R.Runs.local c.replace.new.state) (on_true c.in-Ok.kept (λ steps. steps (decides (setting b) s book us) decided) c.in-Ok.ensures.steps)
    c.replace.new.updates.items c.in-Ok.ensures.listed

pub returns-in-Ok-clause-refused : goal.returns-in-Ok-clause-refused
returns-in-Ok-clause-refused g c =
    let b = plain c.args.scene.now.bundle.now in
    let s = g.R.Runs.local c.args.state.now in
    let a = c.args.act.now in
    let us = c.args.updates.now.items in
    let book = book_of c.args.scene.now.book.now in
    let head = c.into_head-head.result in
    let lead = lead_there s a c.requires.scope c.requires.shown.can_act in
    let heads = some_same (sym (c.requires.shown.head ∙ ap (option_map lead_head) lead.1) ∙ c.into_head-head.ensures) in
    let m = c.in-Some.number in
    let rule = plain_rule c.rule_at-rule.result.now in
    let n = suc (length us) in
    let picked : choose b.rules book head s.store ≡ Some c.in-Some.number = ap (choose b.rules book head) (sym c.store.ensures) ∙ sym (c.choose.ensures b.rules c.requires.book) ∙ c.in-Some.is in
    let at = rule_stands c.args.scene.now.bundle.now.rules m c.rule_at-rule.result.now c.rule_at-rule.ensures in
    let decided : decides (setting b) s book us head ≡ Replaces rule.name n (part_of b.cast head n rule.body) =
    ap (decision b.cast (length us) head) (choice_taken b.rules book head s.store m rule picked at) in
    replace_refused (setting b) s book us c.args.scene.now.entry.now a c.requires.scope lead.0 lead.1 (c.requires.tells lead.0 lead.1).leads head heads c.steps_show_their_acts.ensures rule.name n m
    (part_of b.cast head n rule.body) decided c.in-Ok.kept c.in-Ok.ensures.shows

use Rattle.std.proofs.Common.{◌≡◌, ◌<◌, ◌∙◌, ℕ, List, ap, ap₂, sym, IfSome, option_map, subst}
use Rattle.std.proofs.lemmas.Result.{IfOk-weaker}
use Rattle.dioc_terms.specs.declared.choreographies.Choreo.{Choreo}
use Rattle.dioc_terms.specs.declared.entries.Entry.TheVariants as entry
use Rattle.dioc_terms.specs.declared.names.Index.{Index}
use Rattle.dioc_terms.specs.declared.names.Role.{Role}
use Rattle.dioc_terms.specs.declared.processes.ScopeHead.{ScopeHead}
use Rattle.dioc_terms.specs.Equality.{entry_eq}
use Rattle.dioc_terms.specs.Rules.{choose}
use Rattle.dioc_terms.specs.Stores.{Store}
use Rattle.dioc_terms.specs.Terms.{Term, at_epoch, is_in, roles_in, stamped, term}
use Rattle.global_follower.specs.declared.running.Marks.{Marks}
use Rattle.global_follower.specs.KeptBooks.{book_of, rules_of}
use Rattle.global_follower.specs.KeptRunning.{marked, part_term}
use Rattle.global_follower.specs.KeptStores.{stores_of}
use Rattle.global_follower.specs.Playing.{attempt_of}
use Rattle.global_follower.specs.Scopes.{choice_of, chosen_body, played_scope}
use Rattle.global_follower.proofs.ScopeLemmas.{scope_played}
use Rattle.global_follower.proofs.scopes.play_scope.Goals as goal

pub chosen_body-body-requires : goal.chosen_body-body-requires
chosen_body-body-requires c =
    rw c.inside-body.ensures.marks
    (subst (λ (h : ScopeHead). IfSome c.choose-rule.result (λ number. h.level < 16))
    c.in_ok-head-in-Some.ensures c.choose-rule.ensures.below)

pub returns-in_ok-head-in-Some : goal.returns-in_ok-head-in-Some
returns-in_ok-head-in-Some c =
    let scene = c.args.scene.now in
    let marks = c.args.scope.marks in
    let scope = c.in-Scope in
    let rules = rules_of scene.rules in
    let book = book_of scene.book.now in
    let head = c.in_ok-head-in-Some.head in
    let rule = c.choose-rule.result in
    let shown = c.in-Some.shown.now in
    IfOk-weaker c.enter.result
    (λ played. attempt_of played ≡ played_scope (λ q. is_in q (part_term c.args.scope))
    (option_map part_term c.chosen_body-body.result))
    _
    (λ played is. is ∙ rw scope.is
    (scope_played scene.rules.bundle.now.cast rules (stores_of scene.stores.now) book scene.updates
    (at_epoch marks.epoch scope.index) scope.leader
    (stamped (term scope.body.value) marks.epoch marks.level) scope.extra scope.props marks.level
    scene.entry.now shown head rule (option_map part_term c.chosen_body-body.result)
    (subst (λ (S : Choreo). head ≡ record {
      index = at_epoch marks.epoch scope.index;
      leader = scope.leader;
      roles = roles_in scene.rules.bundle.now.cast (marked S marks);
      props = scope.props;
      level = marks.level;
    })
    scope.is
    (subst (λ (cast : List Role). head ≡ record {
      index = at_epoch marks.epoch scope.index;
      leader = scope.leader;
      roles = roles_in cast (part_term c.args.scope);
      props = scope.props;
      level = marks.level;
    })
    c.as_slice-cast.ensures c.in_ok-head-in-Some.ensures))
    (c.choose-rule.ensures.chosen
    ∙ ap (λ (s : Store). choose rules book head s) c.of-store.ensures)
    (λ choice. ap (λ (i : Index). entry_eq scene.entry.now (entry.Scope i scope.leader choice))
    (sym c.of.ensures) ∙ c.in-Some.ensures choice)
    (c.chosen_body-body.ensures
    ∙ ap₂ (λ (I : Term) (level : ℕ). chosen_body shown (choice_of rules rule) I scene.updates level)
    c.inside-body.ensures.text (ap (λ (m : Marks). m.level) c.inside-body.ensures.marks))))
    c.enter.ensures

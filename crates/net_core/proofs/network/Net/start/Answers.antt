-- What the net is started with is the network before its first step.
use Rattle.std.proofs.Common.{◌<◌, map, refl, sym, ap, ap₂, ◌∙◌, subst}
use Rattle.std.specs.List.{AllByRecursion}
use Rattle.std.proofs.lemmas.List.{length-map}
use Rattle.dioc_terms.specs.declared.bundles.Bundle.{Bundle}
use Rattle.dioc_terms.specs.Bundles.{adds}
use Rattle.dioc_terms.specs.Plain.{plain, plain_rule}
use Rattle.net_core.proofs.StartLemmas.{adds_rules, bodies_of, roles_of_cast, stands_started}
use Rattle.net_core.specs.KeptParts.{body_seen, due_seen}
use Rattle.net_core.specs.Standing.{Parts, HoldsRun, body_of, due_of}
use Rattle.net_core.proofs.network.Net.start.Goals as goal

pub keep_script-requires : goal.keep_script-requires
keep_script-requires g c =
    let b = plain c.args.bundle.now in
    rw (c.as_slice-2.ensures, c.as_slice-3.ensures)
    (subst (λ n. AllByRecursion (λ m. m < n) (adds b.script)) (length-map c.args.bundle.now.rules plain_rule) (adds_rules b c.requires.formed))

pub role_states-requires : goal.role_states-requires
role_states-requires g c = roles_of_cast c.casts_are_roles.ensures (plain c.args.bundle.now) c.requires.formed

pub invariant_of-result : goal.invariant_of-result
invariant_of-result g c =
    let b = plain c.args.bundle.now in
    let parts : Parts = record { cast = c.in_ok-cast.cast; locals = map g.R.Runs.local c.in_ok-roles.roles.items; mail = c.new-mail.result; book = c.in_ok-book.book; bodies = map body_seen c.new-bodies.result; coming = map due_seen c.in_ok-coming.coming.items; updates = 0; history = c.new-history.result.entries } in
    subst (λ (of : Bundle). HoldsRun (plain of) c.args.limit parts) (sym c.of-of.ensures)
    (stands_started b c.args.limit parts c.requires c.in_ok-cast.ensures c.in_ok-roles.ensures c.new-mail.ensures
    c.in_ok-book.ensures.opening c.in_ok-book.ensures.of c.in_ok-book.ensures.coming
    (ap (map body_seen) c.new-bodies.ensures ∙ c.in_ok-bodies.ensures ∙ ap (map (λ rule. body_of (plain_rule rule))) c.as_slice.ensures ∙ bodies_of c.args.bundle.now.rules)
    (c.in_ok-coming.ensures ∙ ap₂ (λ rules script. map (due_of (map plain_rule rules)) script) c.as_slice-2.ensures c.as_slice-3.ensures)
    refl c.new-history.ensures)

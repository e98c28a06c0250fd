use Rattle.std.proofs.Common.{◌∙◌, sym, subst}
use Rattle.indexmap.specs.IndexMap.{get}
use Rattle.dioc_terms.specs.declared.names.Role.{Role}
use Rattle.dioc_terms.specs.Equality.{role_eq}
use Rattle.global_follower.specs.StoreMaps.{places_in}
use Rattle.global_follower.proofs.StoreLemmas.{Writes, a_place, no_place, opened_new, opened_there}
use Rattle.global_follower.proofs.stores.open_role.Goals as goal

pub returns-then-contains_key : goal.returns-then-contains_key
returns-then-contains_key c =
    let stores = c.args.stores.now in
    opened_there c.args.given.now c.args.role.now (places_in stores)
    (a_place (get role_eq stores c.args.role.now) (sym c.contains_key.ensures ∙ c.if-contains_key.true))

pub returns : goal.returns
returns c =
    let stores = c.args.stores.now in
    let store = c.in_ok-store.store in
    opened_new c.args.given.now c.args.role.now (get role_eq stores)
    (get role_eq c.insert.new.self) store
    (subst (λ (r : Role). Writes (get role_eq stores) (get role_eq c.insert.new.self) r store)
    c.in_ok-copy.ensures c.in_ok-insert.ensures.updates.0)
    (no_place (get role_eq stores c.args.role.now)
    (sym c.contains_key.ensures ∙ c.if-contains_key.false))
    c.in_ok-store.ensures

use Rattle.std.proofs.Common.{◌≡◌, Some, subst}
use Rattle.indexmap.specs.IndexMap.{get}
use Rattle.dioc_terms.specs.declared.names.Role.{Role}
use Rattle.dioc_terms.specs.Equality.{role_eq}
use Rattle.global_follower.proofs.stores.open_place.Goals as goal

pub returns-clause-ready : goal.returns-clause-ready
returns-clause-ready c =
    let store = c.reserve.new.self in
    let stores = c.insert.new.self in
    record {
      store = store;
      is_there = subst (λ (r : Role). get role_eq stores r ≡ Some store) c.in_ok-copy.ensures
          c.in_ok-insert.ensures.updates.1;
      has_room = c.in_ok-reserve.ensures.ok;
    }

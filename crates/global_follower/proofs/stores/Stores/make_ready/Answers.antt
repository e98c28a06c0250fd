use Rattle.std.proofs.Common.{refl}
use Rattle.std.proofs.lemmas.Result.{on_ok_weaker}
use Rattle.global_follower.proofs.stores.Stores.make_ready.Goals as goal

pub returns-in-Some-clause-ready : goal.returns-in-Some-clause-ready
returns-in-Some-clause-ready c =
    let store = c.reserve.new.self in
    on_ok_weaker c.reserve.result
    (λ more. record {
      store = store;
      is_there = ((c.get_mut.follows.holds store).3 (rw (← c.get_mut.ensures.value, c.in-Some.is) refl)).1;
      has_room = more;
    })
    c.reserve.ensures.ok

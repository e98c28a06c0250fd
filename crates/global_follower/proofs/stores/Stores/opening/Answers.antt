use Rattle.std.proofs.Common.{ℕ, List, add-one, sym, subst, take, arith}
use Rattle.indexmap.specs.IndexMap.{get}
use Rattle.std.proofs.lemmas.List.{take_all}
use Rattle.dioc_terms.specs.declared.names.Role.{Role}
use Rattle.dioc_terms.specs.declared.values.Value.{Value}
use Rattle.dioc_terms.specs.Equality.{role_eq}
use Rattle.global_follower.specs.StoreMaps.{places_in}
use Rattle.global_follower.proofs.StoreLemmas.{OpenedSoFar, opened_all, opened_more}
use Rattle.global_follower.proofs.stores.Stores.opening.Goals as goal

pub loop-pair-preserved : goal.loop-pair-preserved
loop-pair-preserved c =
    let given = c.args.given.now in
    let new = places_in c.open_role.new.stores in
    subst (λ (k : ℕ). OpenedSoFar given (take k given) new) (sym (add-one c.loop-pair.pair-index))
    (opened_more given c.loop-pair.pair-index c.pair-item.result (places_in c.loop-pair.stores) new
    (omega arith) c.pair-item.is c.loop-pair.invariant c.in_ok-open_role.ensures)

pub returns : goal.returns
returns c =
    let given = c.args.given.now in
    let stores = c.loop-pair.stores in
    opened_all given (get role_eq stores)
    (subst (λ (front : List (Role × List Value)). OpenedSoFar given front (places_in stores))
    (take_all c.loop-pair.pair-index given c.loop-pair-test.false) c.loop-pair.invariant)

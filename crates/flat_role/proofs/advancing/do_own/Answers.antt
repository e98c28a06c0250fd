-- A place that goes on itself: what is said of that is said of its act.
use Rattle.dioc_terms.specs.KeptStores.{store_of}
use Rattle.flat_role.proofs.advancing.do_own.Goals as goal

pub returns-clause-moved : goal.returns-clause-moved
returns-clause-moved c = λ me a d y acts. (
  c.go_on_itself.ensures.moved me (store_of c.args.store.now) a d y acts.goes,
  c.go_on_itself.ensures.stored,
)

pub returns-clause-mine : goal.returns-clause-mine
returns-clause-mine c = λ me mine role. c.go_on_itself.ensures.mine me mine

use Rattle.dioc_terms.specs.Plain.{plain}
use Rattle.object_tests.proofs.StageLemmas.{feeder_last}
use Rattle.object_tests.proofs.stages.opened.Goals as goal

pub returns-clause-feeder : goal.returns-clause-feeder
returns-clause-feeder c =
    feeder_last (plain c.in-Some.bundle) 8 c.in_ok-stage.seats.items c.pop.new.self.items c.in-Some-Some.feeder c.in-Some.ensures.one
    c.in_ok-stage.ensures.views c.in-Some-Some.ensures.items

-- Both seats of the run are the stage's.
use Rattle.stage.specs.Stages.{IsSeatIn}
use Rattle.object_tests.proofs.StageLemmas.{all_two}
use Rattle.object_tests.proofs.stages.a_change_after_all_have_finished.Goals as goal

pub commit_change-feeder-requires-clause-of : goal.commit_change-feeder-requires-clause-of
commit_change-feeder-requires-clause-of g c =
    (all_two (λ s. IsSeatIn c.in_ok-stage.stage s) c.run_roles-seats.result.0.items c.in-Some-both.first c.in-Some-both.feeder
    c.in-Some-both.ensures c.run_roles-seats.ensures.of).1

pub closes-requires-clause-first : goal.closes-requires-clause-first
closes-requires-clause-first g c =
    (all_two (λ s. IsSeatIn c.in_ok-stage.stage s) c.run_roles-seats.result.0.items c.in-Some-both.first c.in-Some-both.feeder
    c.in-Some-both.ensures c.run_roles-seats.ensures.of).0

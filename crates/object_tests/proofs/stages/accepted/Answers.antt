use Rattle.dioc_terms.specs.Plain.{plain}
use Rattle.object_tests.proofs.stages.accepted.Goals as goal

pub of_one_role-requires : goal.of_one_role-requires
of_one_role-requires c = c.accepted_is_sound.ensures (plain c.args.bundle) c.in-Ok.ensures.accepted

-- The roles of a choreography are of the cast of its bundle.
use Rattle.std.proofs.Common.{◌≡◌, true, sym, subst}
use Rattle.dioc_terms.specs.Equality.{member}
use Rattle.dioc_terms.specs.Plain.{plain}
use Rattle.net_core.proofs.StartLemmas.{roles_of_cast}
use Rattle.object_tests.proofs.flat_turns.tasks.part_of.Goals as goal

pub project-requires : goal.project-requires
project-requires c = λ q is.
    subst (λ cast. member q cast ≡ true) (sym c.as_slice.ensures)
    (roles_of_cast c.casts_are_roles.ensures (plain c.args.bundle.now) c.requires q is)

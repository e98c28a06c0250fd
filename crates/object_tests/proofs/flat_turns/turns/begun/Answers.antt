-- The roles of a choreography are of its own cast.
use Rattle.std.proofs.Common.{◌≡◌, ◌∙◌, true, sym, subst}
use Rattle.dioc_terms.specs.Equality.{member}
use Rattle.dioc_terms.specs.Terms.{term}
use Rattle.object_tests.proofs.flat_turns.turns.begun.Goals as goal

pub begin-state-requires : goal.begin-state-requires
begin-state-requires g c = λ q is.
    subst (λ cast. member q cast ≡ true) (sym (c.as_slice.ensures ∙ c.in_ok-cast.ensures)) (c.casts_are_roles.ensures.same q (term c.args.task.now.choreo) ∙ is)

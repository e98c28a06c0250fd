-- A role begins where the network begins, and is tied to a seat that has seen nothing.
use Rattle.std.proofs.Common.{◌≡◌, true, sym, ◌∙◌, subst}
use Rattle.dioc_terms.specs.Equality.{member}
use Rattle.dioc_terms.specs.Plain.{plain}
use Rattle.dioc_terms.specs.Terms.{term}
use Rattle.flat_role.specs.FlatStates.{local_of}
use Rattle.role_runner.proofs.TieLemmas.{opening_tied}
use Rattle.turn_lock.specs.Words.{view}
use Rattle.role_runner.proofs.playing.play.Goals as goal

pub opening_state-requires : goal.opening_state-requires
opening_state-requires g c = λ q is.
    subst (λ l. member q l ≡ true) (sym c.requires.sound.formed.cast) (c.casts_are_roles.ensures.same q (term c.args.actor.now.bundle.now.choreo) ∙ is)

pub play_on-requires : goal.play_on-requires
play_on-requires g c = record {
  can = record {
    sound = c.requires.sound;
    of = c.requires.of;
    tied = opening_tied (plain c.args.actor.now.bundle.now) c.args.actor.now.role.now (view c.args.seat) (local_of c.in-Ok.state) c.requires.in_cast c.requires.seated c.requires.fresh c.in-Ok.ensures;
  };
}

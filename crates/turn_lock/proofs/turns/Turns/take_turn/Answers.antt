use Rattle.std.proofs.Common.{rules, ap, sym, ◌∙◌, subst, arith}
use Rattle.turn_lock.specs.Views.{IsSingle}
use Rattle.turn_lock.proofs.Steps.{takes_turn_as}
use Rattle.turn_lock.proofs.turns.Turns.take_turn.Goals as goal

pub compare_exchange-found-requires : goal.compare_exchange-found-requires
compare_exchange-found-requires g c =
    let same = c.loop.invariant.1 in (
      search rules,
      search rules,
      takes_turn_as g.H.Chronicle.items g.H.Chronicle.base g.H.Chronicle.owner g.H.Chronicle.at g.H.Chronicle.grows g.met.H.Chronicle.stays g.met.H.Chronicle.goes_on _ _ _ _ c.loop.token.me c.args.self.now.sized.1 (ap (λ m. m.1) same ∙ c.requires.waits.0) (omega (arith, c.free_word-word.ensures))
          (subst (λ m. IsSingle m.0.view) (sym same) c.requires.waits.1),
    )

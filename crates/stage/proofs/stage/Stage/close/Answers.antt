-- What the home that was closed says of itself.
use Rattle.std.proofs.Common.{All, slice_get, map, sym, subst}
use Rattle.stage.proofs.HoldLemmas.{closed, if_some}
use Rattle.turn_lock.specs.Items.{BeginsWith}
use Rattle.turn_lock.specs.Words.{view, claim_of}
use Rattle.stage.proofs.stage.Stage.close.Goals as goal

pub returns-in-Ok-clause-closed : goal.returns-in-Ok-clause-closed
returns-in-Ok-clause-closed c =
    let first = c.in-Ok.ensures.all in (
      first.0,
      first.1,
      if_some _ _ (slice_get c.args.seats.items first.0) first.2
          (λ s h. (h.0, closed (view s) c.in-Ok.home c.into_history.result.entries (map claim_of c.args.seats.items) h.1 c.into_history.ensures.entries c.into_history.ensures.sound c.in-Ok.ensures.shares)),
    )

pub returns-in-Ok-clause-begins : goal.returns-in-Ok-clause-begins
returns-in-Ok-clause-begins c =
    subst (λ H. All (λ s. BeginsWith H (view s).seen) c.args.seats.items) (sym c.into_history.ensures.entries) c.in-Ok.ensures.begins

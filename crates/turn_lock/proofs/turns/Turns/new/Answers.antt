use Rattle.std.proofs.Common.{◌∷◌, ◌++◌, [], Some, ap, ◌∙◌}
use Rattle.turn_lock.proofs.Steps.{opens_as}
use Rattle.turn_lock.proofs.turns.Turns.new.Goals as goal

pub new-requires : goal.new-requires
new-requires g c =
    opens_as g.H.Chronicle.items g.H.Chronicle.base g.H.Chronicle.owner g.H.Chronicle.at g.H.Chronicle.grows g.met.H.Chronicle.stays g.met.H.Chronicle.goes_on c.args.home _ _ c.of-about.ensures
    (c.push_reserved.ensures.items ∙ ap (λ l. l ++ Some c.args.home ∷ []) c.in-Ok.ensures.items) c.requires.empty

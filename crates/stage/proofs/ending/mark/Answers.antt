-- The mark is set at the role's place.
use Rattle.std.proofs.Common.{◌∙◌, sym}
use Rattle.stage.proofs.EndingLemmas.{mark_nowhere, mark_set}
use Rattle.stage.proofs.ending.mark.Goals as goal

pub returns-in-Some : goal.returns-in-Some
returns-in-Some c = mark_set c.args.role.now c.args.cast.now c.args.finished.now.items c.in-Some.place (sym c.place_of.ensures.place ∙ c.in-Some.is)

pub returns-in_default : goal.returns-in_default
returns-in_default c = mark_nowhere c.args.role.now c.args.cast.now c.args.finished.now.items c.requires (sym c.place_of.ensures.place ∙ c.in_default.is)

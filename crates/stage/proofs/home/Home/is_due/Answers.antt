-- The first of the changes is the script's next change.
use Rattle.std.proofs.Common.{ap, ◌∙◌}
use Rattle.std.specs.Prelude.{map}
use Rattle.dioc_terms.specs.Plain.{plain}
use Rattle.network_steps.specs.Schedule.{change_is_due}
use Rattle.net_core.specs.KeptParts.{due_seen}
use Rattle.net_core.specs.MovesIn.{is_first_due}
use Rattle.stage.proofs.HomeLemmas.{due_is}
use Rattle.stage.specs.Homes.{HomeState}
use Rattle.stage.proofs.home.Home.is_due.Goals as goal

pub returns-clause-due : goal.returns-clause-due
returns-clause-due c =
    let i = c.self.inside in
    c.is_first_due.ensures ∙ ap (is_first_due (map due_seen i.coming.items)) c.visible_len.ensures
    ∙ due_is (plain i.of.value) i.limit i.history.entries i.mail i.book (map due_seen i.coming.items) i.updates c.self.invariant.shared
    ∙ ap (λ (home : HomeState). change_is_due home.bundle home.history) c.self.view_is

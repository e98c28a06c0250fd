-- What the home's invariant says, said of what contracts see.
use Rattle.std.proofs.Common.{subst}
use Rattle.std.specs.Prelude.{map}
use Rattle.dioc_terms.specs.Plain.{plain}
use Rattle.net_core.specs.KeptParts.{due_seen}
use Rattle.stage.proofs.HomeLemmas.{sound_home}
use Rattle.stage.specs.Homes.{IsSoundHome}
use Rattle.stage.proofs.home.Home.is_sound.Goals as goal

pub returns : goal.returns
returns c =
    let i = c.self.inside in
    subst IsSoundHome c.self.view_is
    (sound_home (plain i.of.value) i.limit i.history.entries i.cast i.names.items i.mail i.book (map due_seen i.coming.items) i.updates i.finished.items i.stopped c.self.invariant)

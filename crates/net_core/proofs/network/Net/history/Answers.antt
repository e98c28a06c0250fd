-- What the net keeps stands for a run within the limit.
use Rattle.std.proofs.Common.{Some, sym, ap, ◌∙◌, subst}
use Rattle.dioc_terms.specs.Plain.{plain}
use Rattle.net_core.proofs.NetLemmas.{network_is}
use Rattle.net_core.specs.Nets.{IsSoundRun}
use Rattle.net_core.proofs.network.Net.history.Goals as goal

pub returns-clause-run : goal.returns-clause-run
returns-clause-run g c =
    let b = plain c.self.inside.of.value in
    let is = c.self.invariant in
    subst IsSoundRun c.self.view_is (record {
      sound = is.sound;
      runs = is.runs ∙ ap Some (sym (network_is b c.self.inside.history.entries is.network is.runs));
      within = is.within;
    })

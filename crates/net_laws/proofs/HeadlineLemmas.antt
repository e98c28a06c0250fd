-- The laws of runs, together.
use Rattle.std.proofs.Common.{◌≡◌, List, Some, sym, ap, ◌∙◌}
use Rattle.dioc_terms.specs.declared.entries.Entry.{Entry}
use Rattle.dioc_terms.specs.Plain.{PlainBundle, setting}
use Rattle.marked_laws.specs.Laws.{IsSound, Simulation, Settlement, UniqueKeys, Progress, NothingLeft}
use Rattle.network_steps.specs.Network.{Network, network_run, network_start}
use Rattle.marked_laws.specs.RunLaws.{Extensions}
use Rattle.net_laws.specs.Headline.{IsOrderly, EveryRun}
use Rattle.net_laws.specs.Laws.{AcceptedIsSound}

orderly : UniqueKeys → Progress → NothingLeft → (b : PlainBundle) (H : List Entry) (N : Network) → IsSound b → network_run b H ≡ Some N → IsOrderly b N
orderly unique progress nothing b H N sound runs = record {
  messages = (unique b H N sound runs).0;
  receives = (unique b H N sound runs).1;
  step = progress b H N sound runs;
  nothing_left = nothing b H N sound runs;
}

pub every_run : AcceptedIsSound → Simulation → Settlement → UniqueKeys → Progress → NothingLeft → Extensions → EveryRun
every_run sound simulation settlement unique progress nothing extensions b H N accepted runs = record {
  runs = runs;
  explained = simulation b H N (sound b accepted) runs;
  settled = settlement b H N (sound b accepted) runs;
  orderly = λ before rest is.
      let part = extensions.prefix (setting b) (network_start b) before rest N (ap (network_run b) (sym is) ∙ runs) in
      (part.0, part.1, orderly unique progress nothing b before part.0 (sound b accepted) part.1);
}

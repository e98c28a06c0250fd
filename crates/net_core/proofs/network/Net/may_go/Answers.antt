-- Each step is refused where the network has ended or the history is full.
use Rattle.std.proofs.Common.{sym, ◌∙◌}
use Rattle.net_core.proofs.NetLemmas.{ended_refuses, full_refuses}
use Rattle.net_core.proofs.network.Net.may_go.Goals as goal

pub returns-then-is_ended-clause-refused : goal.returns-then-is_ended-clause-refused
returns-then-is_ended-clause-refused g c = ended_refuses c.args.self.now (sym c.is_ended.ensures ∙ c.if-is_ended.true)

pub returns-then-is_full-clause-refused : goal.returns-then-is_full-clause-refused
returns-then-is_full-clause-refused g c =
    full_refuses c.args.self.now (sym c.is_ended.ensures ∙ c.if-is_ended.false) (sym c.is_full.ensures ∙ c.if-is_full.true)

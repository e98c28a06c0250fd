-- An entry of the role was read.
use Rattle.std.proofs.Common.{IsSome, refl, sym, subst}
use Rattle.role_monitor.proofs.monitor.Monitor.judge.Goals as goal

pub act_of-requires : goal.act_of-requires
act_of-requires c = subst IsSome (sym c.requires.own.1) refl

pub returns-in-Err-clause-same : goal.returns-in-Err-clause-same
returns-in-Err-clause-same c = λ b r entries read. read

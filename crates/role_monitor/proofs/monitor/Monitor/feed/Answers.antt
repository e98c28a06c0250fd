use Rattle.std.proofs.Common.{rules}
use Rattle.role_monitor.proofs.monitor.Monitor.feed.Goals as goal

pub believe-requires-clause-other : goal.believe-requires-clause-other
believe-requires-clause-other c = search rules depth 2

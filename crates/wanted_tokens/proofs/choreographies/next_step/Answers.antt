use Rattle.std.proofs.Common.{rules}
use Rattle.wanted_tokens.proofs.choreographies.next_step.Goals as goal

pub returns-in-Stops : goal.returns-in-Stops
returns-in-Stops c = search rules depth 2

use Rattle.std.proofs.Common.{rules}
use Rattle.wanted_tokens.proofs.stack.version_behind.Goals as goal

pub returns-in-Two : goal.returns-in-Two
returns-in-Two c = search rules depth 2

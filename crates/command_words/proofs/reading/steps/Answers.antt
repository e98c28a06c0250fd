use Rattle.std.proofs.Common.{rules}
use Rattle.command_words.proofs.reading.steps.Goals as goal

pub returns-in-Some : goal.returns-in-Some
returns-in-Some c = search rules depth 2

use Rattle.std.proofs.Common.{rules}
use Rattle.stage.proofs.messages.put_message.Goals as goal

pub returns-in-Ok-clause-put : goal.returns-in-Ok-clause-put
returns-in-Ok-clause-put c = search rules depth 2

use Rattle.std.proofs.Common.{rules}
use Rattle.mend.proofs.bundle_parts.mended_body.Goals as goal

pub returns-in-None-clause-refused : goal.returns-in-None-clause-refused
returns-in-None-clause-refused c = search rules depth 2

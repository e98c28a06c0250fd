use Rattle.std.proofs.Common.{rules}
use Rattle.bundle_text.proofs.stops.fault.Goals as goal

pub returns-in-Ok : goal.returns-in-Ok
returns-in-Ok c = search rules depth 2

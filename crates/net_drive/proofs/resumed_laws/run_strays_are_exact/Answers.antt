-- The count of strays.
use Rattle.net_drive.proofs.RunStrays.{run_strays_are_exact}
use Rattle.net_drive.proofs.resumed_laws.run_strays_are_exact.Goals as goal

pub returns : goal.returns
returns c = run_strays_are_exact

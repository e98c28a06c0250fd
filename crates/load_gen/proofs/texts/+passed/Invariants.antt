-- Fewer roles are left.
use Rattle.std.proofs.Common.{◌-◌}
use Rattle.load_gen.proofs.texts.+passed.Given as goal

abbrev pub decreases-passed : goal.decreases-passed
decreases-passed l = 8 - l.j

use Rattle.std.proofs.Common.{refl}
use Rattle.net_laws.proofs.laws.schedules_read_no_version.Goals as goal

pub returns : goal.returns
returns c = record { schedules = λ b n seed limit. refl; refusals = λ b n. refl }

use Rattle.std.proofs.Common.{refl}
use Rattle.marked_laws.specs.Versions.{RunsReadNoVersion}
use Rattle.marked_laws.proofs.laws.runs_read_no_version.Goals as goal

pub returns : goal.returns
returns c = record {
  plays = λ b n trace. refl;
  strays = λ b n trace. refl;
  settles = λ b n trace settled. settled;
  runs = λ b n history. refl;
}

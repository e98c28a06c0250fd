use Rattle.std.proofs.Common.{refl}
use Rattle.role_statuses.proofs.MoveLemmas.{move-reads}
use Rattle.role_statuses.proofs.ReadLemmas.{leaves-reads, over-reads}
use Rattle.role_statuses.proofs.laws.statuses_are_exact.Goals as goal

pub returns : goal.returns
returns c = record {
  begins = λ me P. refl;
  over = over-reads;
  offered = leaves-reads;
  moves = λ me s x P a given. move-reads me s a given x P;
}

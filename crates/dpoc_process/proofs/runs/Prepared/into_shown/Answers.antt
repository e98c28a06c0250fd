-- What is shown with the act is shown without it: of a message the entry shows all but a process.
use Rattle.std.proofs.Common.{refl}
use Rattle.dpoc_process.proofs.StateLemmas.{prepared-shows}
use Rattle.dpoc_process.proofs.runs.Prepared.into_shown.Goals as goal

pub returns-in-Ok : goal.returns-in-Ok
returns-in-Ok c = λ s a is.
    prepared-shows s a c.args.self _ refl c.in-Ok.ensures.head c.in-Ok.ensures.part is

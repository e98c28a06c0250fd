-- The bytes are the source's, where it tells them, or it has more than are allowed.
use Rattle.std.proofs.Common.{Err, ap, ⊎_elim}
use Rattle.aioc_top.proofs.Clauses.{mapped}
use Rattle.aioc_top.proofs.FaultLemmas.{is_read}
use Rattle.aioc_top.proofs.reading.read_text.Goals as goal

pub returns-in-Ok-clause-bytes : goal.returns-in-Ok-clause-bytes
returns-in-Ok-clause-bytes g c = is_read (g.S.Source.state c.args.source.now) c.in-Ok.bytes.items c.in-Ok.ensures.bytes

pub returns-in-Ok-clause-within : goal.returns-in-Ok-clause-within
returns-in-Ok-clause-within g c = ⊎_elim (λ long. absurd cc) (λ given. given) c.in-Ok.ensures.given

pub returns-in-Err-Fault-clause-fault : goal.returns-in-Err-Fault-clause-fault
returns-in-Err-Fault-clause-fault g c =
    (c.in-Err-Fault.ensures.fault (ap Err c.in-Err-Fault.field-0-is), ⊎_elim (λ long. let is = c.in-Err-Fault.field-0-is in absurd cc) (λ given. given) c.in-Err-Fault.ensures.given)

pub returns-in-Err-TooLong-clause-fault : goal.returns-in-Err-TooLong-clause-fault
returns-in-Err-TooLong-clause-fault g c =
    let left = (g.S.Source.state c.args.source.now).left in
    let long = c.in-Err-TooLong.ensures.too_long (ap Err c.in-Err-TooLong.field-0-is) in
    (mapped (λ told h. h.0) left long, mapped (λ told h. h.1) left long)

pub returns-in-Err-Memory-clause-fault : goal.returns-in-Err-Memory-clause-fault
returns-in-Err-Memory-clause-fault g c = ⊎_elim (λ long. let is = c.in-Err-Memory.field-0-is in absurd cc) (λ given. given) c.in-Err-Memory.ensures.given

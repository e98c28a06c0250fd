use Rattle.std.proofs.Common.{Err, ap, inl}
use Rattle.trace_picture.proofs.Sources.{longer}
use Rattle.trace_picture.proofs.calls.draw.Goals as goal

-- src/calls.rt: the source is too long
pub returns-in-Err-TooLong-clause-too_long : goal.returns-in-Err-TooLong-clause-too_long
returns-in-Err-TooLong-clause-too_long g c = λ _. inl (longer _ _ _ (c.in-Err-TooLong.ensures.too_long (ap Err c.in-Err-TooLong.field-0-is)))

use Rattle.std.proofs.Common.{◌≡◌, ℕ, ◌+◌, ◌++◌, length, take, inr, arith, length-append, length-take}
use Rattle.std.proofs.KnownBytes.{Consumes-trans}
use Rattle.aioc_io.proofs.Reading.{Consumes-past_limit}
use Rattle.aioc_io.proofs.source.read_all.Goals as goal

pub returns-then-count-room-clause-too_long : goal.returns-then-count-room-clause-too_long
returns-then-count-room-clause-too_long g c =
    let before = c.loop-count.bytes in
    let part = take c.in-Ok.count c.read.new.into in
    let long : length (before.items ++ part) ≡ c.args.limit + 1 = omega (arith, length-append before.items part, before.ok.0, c.in-Ok.ensures.within, length-take {A = ℕ}) in
    λ _. Consumes-past_limit _ _ _ c.args.limit long (Consumes-trans _ _ _ _ _ c.loop-count.invariant.1 c.in-Ok.ensures.bytes.0)

pub returns-in_err-extend_from_slice-clause-given :
    goal.returns-in_err-extend_from_slice-clause-given
returns-in_err-extend_from_slice-clause-given g c =
    let before = c.loop-count.bytes in
    let part = take c.in-Ok.count c.read.new.into in
    inr (before.items ++ part, omega (arith, length-append before.items part, before.ok.0, c.in-Ok.ensures.within, length-take {A = ℕ}), Consumes-trans _ _ _ _ _ c.loop-count.invariant.1 c.in-Ok.ensures.bytes.0)

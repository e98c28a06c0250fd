-- The bytes so far are in place, and zeros behind them.
use Rattle.std.proofs.Common.{◌≡◌, ◌-◌, take, drop, length, replicate}
use Rattle.dioc_terms.proofs.names.short_of.Given as goal

abbrev pub invariant-loop-place : goal.invariant-loop-place
invariant-loop-place l = record {
  same : take l.place l.short ≡ take l.place l.bytes;
  many : length l.short ≡ 14;
  zeros : drop l.place l.short ≡ replicate (14 - l.place) 0;
}

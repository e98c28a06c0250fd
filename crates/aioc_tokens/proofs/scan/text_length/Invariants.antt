use Rattle.std.proofs.Common.{◌≡◌, false, ◌+◌, drop, option_map}
use Rattle.aioc_tokens.specs.Packed.{text_end}
use Rattle.aioc_tokens.proofs.scan.text_length.Given as goal

abbrev pub invariant-loop-place : goal.invariant-loop-place
invariant-loop-place l = option_map (λ count. l.place + count) (text_end l.paired (drop l.place l.inside)) ≡ text_end false l.inside

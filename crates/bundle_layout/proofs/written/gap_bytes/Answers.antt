use Rattle.std.proofs.Common.{◌+◌, ◌-◌}
use Rattle.aioc_tokens.specs.Tokens.{is_space}
use Rattle.bundle_layout.proofs.Ready.{all_of_slice}
use Rattle.bundle_layout.proofs.written.gap_bytes.Goals as goal

pub returns : goal.returns
returns c = all_of_slice is_space c.longest_gap-longest.result.now (2 + c.from-end.result - (2 - c.from-start.result)) (2 - c.from-start.result) c.longest_gap-longest.ensures.spaces

use Rattle.std.proofs.Common.{arith}
use Rattle.aioc_tokens.proofs.FirstCodes.{names}
use Rattle.aioc_tokens.proofs.first_bytes.is_name_byte.Goals as goal

pub returns : goal.returns
returns c = names c.args.byte (omega arith)

use Rattle.flat_code.proofs.PlaceLemmas.{placed_push}
use Rattle.std.proofs.Common.{rules, arith}
use Rattle.flat_code.proofs.compiled.push.Goals as goal

pub returns-in_err-push-clause-placed : goal.returns-in_err-push-clause-placed
returns-in_err-push-clause-placed c = search rules depth 2

pub returns-in_err-push-clause-appended : goal.returns-in_err-push-clause-appended
returns-in_err-push-clause-appended c = search rules depth 2

pub returns-clause-placed : goal.returns-clause-placed
returns-clause-placed c = grind (arith, placed_push)

pub returns-clause-appended : goal.returns-clause-appended
returns-clause-appended c = search rules depth 2

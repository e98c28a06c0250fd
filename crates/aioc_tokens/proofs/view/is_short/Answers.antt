use Rattle.std.proofs.Common.{refl, arith}
use Rattle.std.proofs.lemmas.Bool.Decides.{nat_tests}
use Rattle.aioc_tokens.proofs.Values.{text_quoted}
use Rattle.aioc_tokens.proofs.view.is_short.Goals as goal

pub returns-then-bytes : goal.returns-then-bytes
returns-then-bytes c =
    let quoted = text_quoted c.args.bytes.now c.requires in
    (λ short. omega (arith, quoted.long), λ fits. refl)

pub returns-else-bytes-2 : goal.returns-else-bytes-2
returns-else-bytes-2 c =
    let quoted = text_quoted c.args.bytes.now c.requires in
    (λ short. absurd (grind (arith, nat_tests)), λ fits. absurd (omega (arith, quoted.short)))

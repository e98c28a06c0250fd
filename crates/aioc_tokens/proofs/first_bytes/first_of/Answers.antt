use Rattle.std.proofs.Common.{arith, sym, ◌∙◌}
use Rattle.std.proofs.lemmas.Bool.{eq-eqb, eqb-true}
use Rattle.aioc_tokens.proofs.FirstCodes.{code, letters, digits, spaces, quotes, code_small, lone_byte, other_byte}
use Rattle.aioc_tokens.proofs.first_bytes.first_of.Goals as goal

pub returns-then-code-eq-SPACE : goal.returns-then-code-eq-SPACE
returns-then-code-eq-SPACE c = sym (spaces c.args.byte (omega arith)) ∙ eq-eqb (code c.args.byte) 3 c.if-code-eq-SPACE.true

pub from_byte-requires : goal.from_byte-requires
from_byte-requires c = code_small c.args.byte (omega arith)

pub returns-then-code-ge-FIRST_LONE : goal.returns-then-code-ge-FIRST_LONE
returns-then-code-ge-FIRST_LONE c = rw c.from_byte.ensures (lone_byte c.args.byte (omega arith) c.if-code-ge-FIRST_LONE.true)

pub returns-in-0 : goal.returns-in-0
returns-in-0 c = sym (letters c.args.byte (omega arith)) ∙ eq-eqb (code c.args.byte) 0 c.in-0.is

pub returns-in-2 : goal.returns-in-2
returns-in-2 c = sym (digits c.args.byte (omega arith)) ∙ eq-eqb (code c.args.byte) 2 c.in-2.is

pub returns-in-4 : goal.returns-in-4
returns-in-4 c = eqb-true c.args.byte 34 (sym (quotes c.args.byte (omega arith)) ∙ eq-eqb (code c.args.byte) 4 c.in-4.is)

pub returns-in_default : goal.returns-in_default
returns-in_default c = let rest = c.in_default in other_byte c.args.byte (omega arith) (λ is. absurd (omega arith)) (λ is. absurd (omega arith)) c.if-code-eq-SPACE.false (λ is. absurd (omega arith))

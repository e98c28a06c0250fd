use Rattle.std.proofs.Common.{◌≡◌, Some, ◌∙◌, ap, subst}
use Rattle.aioc_tokens.specs.declared.kinds.Kind.TheVariants.{Symbol}
use Rattle.aioc_tokens.specs.Words.{punctuator_of}
use Rattle.aioc_tokens.specs.Tokens.{Spells}
use Rattle.aioc_tokens.proofs.Spellings.{punctuator_found}
use Rattle.aioc_tokens.proofs.view.sort_of.Goals as goal

-- the bytes of a symbol are in the table
pub unreachable-requires : goal.unreachable-requires
unreachable-requires c =
    let spells : Spells Symbol c.args.bytes.now = subst (λ kind. Spells kind c.args.bytes.now) c.in-Symbol.is c.requires in
    let found : punctuator_of c.args.bytes.now ≡ Some spells.0 = ap punctuator_of spells.1 ∙ punctuator_found spells.0 in
    cc

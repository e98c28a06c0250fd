use Rattle.std.proofs.Common.{sym, ◌∙◌}
use Rattle.dioc_terms.specs.Plain.{plain}
use Rattle.diagnostics.specs.Verdicts.{IsSound}
use Rattle.diagnostics.proofs.Sound.{refused, something_told, holds_anyway}
use Rattle.diagnostics.proofs.examining.of_refused.Goals as goal

-- a bundle that is refused is not sound, and no other one is spelled
pub returns : goal.returns
returns c =
    let unsound : IsSound c.args.bytes.now → ⊥ =
    refused c.args.bytes.now (plain c.args.bundle.now) c.args.refusal c.one_bundle.ensures c.requires.spells c.requires.refused (sym c.is_memory.ensures ∙ c.if-is_memory.false) in
    record {
      silent = something_told (IsSound c.args.bytes.now) c.told.result c.told.ensures;
      told = holds_anyway (IsSound c.args.bytes.now → ⊥) c.told.result c.told.ensures unsound;
    }

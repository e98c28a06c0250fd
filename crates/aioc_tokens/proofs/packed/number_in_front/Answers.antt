use Rattle.std.proofs.Common.{sym, subst}
use Rattle.aioc_tokens.specs.declared.kinds.Kind.TheVariants.{Number}
use Rattle.aioc_tokens.specs.Tokens.{IsLongestToken}
use Rattle.aioc_tokens.proofs.Runs.{number_longest}
use Rattle.aioc_tokens.proofs.packed.number_in_front.Goals as goal

pub returns : goal.returns
returns c = record {
  kind = Number;
  token = subst (IsLongestToken c.args.text.now Number) (sym c.number_length.ensures) (number_longest c.args.text.now c.requires);
  sort_is = c.of.ensures;
}

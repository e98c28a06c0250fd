use Rattle.std.proofs.Common.{sym, ◌∙◌, subst}
use Rattle.aioc_tokens.specs.declared.kinds.Kind.TheVariants.{Name}
use Rattle.aioc_tokens.specs.Tokens.{IsLongestToken}
use Rattle.aioc_tokens.proofs.Runs.{name_longest}
use Rattle.aioc_tokens.proofs.packed.name_in_front.Goals as goal

pub returns : goal.returns
returns c = record {
  kind = Name;
  token = subst (IsLongestToken c.args.text.now Name) (sym c.name_length-count.ensures) (name_longest c.args.text.now c.requires);
  sort_is = c.of.ensures ∙ c.name_sort.ensures;
}

use Rattle.std.proofs.Common.{◌∙◌, ap, arith}
use Rattle.aioc_tokens.specs.declared.kinds.Kind.TheVariants.{Text}
use Rattle.aioc_tokens.specs.Tokens.{is_space}
use Rattle.aioc_tokens.proofs.Blanks.{no_blank}
use Rattle.aioc_tokens.proofs.Firsts.{kind_by, no_other}
use Rattle.aioc_tokens.proofs.Runs.{no_comment_by}
use Rattle.aioc_tokens.proofs.packed.text_in_front.Goals as goal

pub text_sort-requires : goal.text_sort-requires
text_sort-requires c = c.in-Some.ensures.front.spells

pub returns-in-Some : goal.returns-in-Some
returns-in-Some c = record { kind = Text; token = c.in-Some.ensures; sort_is = c.of.ensures ∙ c.text_sort.ensures }

pub returns-in-None : goal.returns-in-None
returns-in-None c =
    let text = c.args.text.now in (
      no_blank text (ap is_space c.requires) (no_comment_by text (λ slash. omega arith)),
      no_other text Text (ap kind_by c.requires) c.in-None.ensures,
    )

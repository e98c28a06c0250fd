use Rattle.std.proofs.Common.{drop, refl, subst, sym, arith, length-drop}
use Rattle.std.proofs.lemmas.List.{take_rest}
use Rattle.aioc_tokens.specs.declared.kinds.Kind.{Kind}
use Rattle.aioc_tokens.specs.Tokens.{IsLongestToken}
use Rattle.aioc_tokens.proofs.Walk.{token_size}
use Rattle.bundle_layout.proofs.parts.token_at.Goals as goal

pub token_length-kind-requires : goal.token_length-kind-requires
token_length-kind-requires c =
    subst (λ text. (kind : Kind) × (count : _) × IsLongestToken text kind count) (sym (take_rest c.args.text.now c.args.at)) c.requires.begins

pub overflow_add-end : goal.overflow_add-end
overflow_add-end c =
    let text = c.args.text.now in
    let at = c.args.at in
    let longest = subst (λ text. IsLongestToken text c.token_length-kind.result.0 c.token_length-kind.result.1) (take_rest text at) c.token_length-kind.ensures in
    omega (arith, (token_size (drop at text) c.token_length-kind.result.0 c.token_length-kind.result.1 longest).1, length-drop at text, c.requires.within, c.requires.short)

pub returns : goal.returns
returns c =
    let longest = subst (λ text. IsLongestToken text c.token_length-kind.result.0 c.token_length-kind.result.1) (take_rest c.args.text.now c.args.at) c.token_length-kind.ensures in
    record {
      kind = c.token_length-kind.result.0;
      count = c.token_length-kind.result.1;
      is = refl;
      longest = longest;
    }

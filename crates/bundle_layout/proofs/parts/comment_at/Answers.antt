use Rattle.std.proofs.Common.{◌≡◌, ◌+◌, drop, ap, ◌∙◌}
use Rattle.std.proofs.lemmas.List.{take_rest}
use Rattle.aioc_tokens.specs.Tokens.{line_length}
use Rattle.bundle_layout.specs.Parts.{comment_part}
use Rattle.bundle_layout.proofs.parts.comment_at.Goals as goal

pub returns : goal.returns
returns c =
    let count : c.run_length.result ≡ line_length (drop c.args.at c.args.text.now) =
    c.run_length.ensures.value ∙ ap line_length (take_rest c.args.text.now c.args.at) in
    ap (λ count. comment_part c.args.at (c.args.at + count)) count

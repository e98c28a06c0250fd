use Rattle.std.proofs.Common.{◌∙◌}
use Rattle.aioc_tokens.proofs.Packing.{many_shown}
use Rattle.aioc_tokens.proofs.view.Lexed.len.Goals as goal

pub returns-clause-value : goal.returns-clause-value
returns-clause-value c =
    let inside = c.self.inside in
    c.max.ensures ∙ many_shown inside.bytes.now inside.tokens.now c.args.self.now 0 inside.starts.now inside.known.now c.self.invariant.0 c.self.view_is

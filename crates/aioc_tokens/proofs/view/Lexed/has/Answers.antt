use Rattle.std.proofs.Common.{sym, ◌∙◌}
use Rattle.aioc_tokens.specs.declared.words.Sort.TheVariants as sorts
use Rattle.aioc_tokens.proofs.Packing.{known_shown, unknown_shown, lexes_within}
use Rattle.aioc_tokens.proofs.view.Lexed.has.Goals as goal

pub returns-in-Some-clause-value : goal.returns-in-Some-clause-value
returns-in-Some-clause-value c =
    let inside = c.self.inside in
    let found = c.in-Some.ensures.lookup.3 in
    let is = found.1 sorts.End ∙ known_shown inside.bytes.now inside.tokens.now c.args.self.now c.args.at inside.starts.now inside.known.now c.self.invariant.0 c.self.view_is found.0 in
    ((λ yes. sym is ∙ c.is.ensures.0 yes), (λ same. c.is.ensures.1 (is ∙ same)))

pub lists-requires-clause-lexes : goal.lists-requires-clause-lexes
lists-requires-clause-lexes c =
    let inside = c.self.inside in
    lexes_within inside.bytes.now inside.tokens.now c.args.self.now c.args.at inside.starts.now inside.known.now c.self.invariant.0

pub returns-in-None-clause-value : goal.returns-in-None-clause-value
returns-in-None-clause-value c =
    let inside = c.self.inside in
    let is = unknown_shown inside.bytes.now inside.tokens.now c.args.self.now c.args.at inside.starts.now inside.known.now c.self.invariant.0 c.self.view_is c.in-None.ensures.lookup.3 in
    ((λ yes. sym is ∙ c.lists.ensures.0 yes), (λ same. c.lists.ensures.1 (is ∙ same)))

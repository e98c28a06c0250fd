use Rattle.std.proofs.Common.{◌∙◌}
use Rattle.aioc_tokens.specs.declared.words.Sort.TheVariants as sorts
use Rattle.aioc_tokens.proofs.Looks.{sort_within}
use Rattle.aioc_tokens.proofs.Packing.{known_shown, unknown_shown, lexes_within}
use Rattle.aioc_tokens.proofs.view.Lexed.sort.Goals as goal

pub returns-in-Some-clause-value : goal.returns-in-Some-clause-value
returns-in-Some-clause-value c =
    let inside = c.self.inside in
    let found = c.in-Some.ensures.lookup.3 in
    c.get-in-Some.ensures ∙ found.1 sorts.End ∙ known_shown inside.bytes.now inside.tokens.now c.args.self.now c.args.at inside.starts.now inside.known.now c.self.invariant.0 c.self.view_is found.0

pub returns-in-Some-clause-within : goal.returns-in-Some-clause-within
returns-in-Some-clause-within c = λ some.
    let inside = c.self.inside in
    let found = c.in-Some.ensures.lookup.3 in
    let is = c.get-in-Some.ensures ∙ found.1 sorts.End ∙ known_shown inside.bytes.now inside.tokens.now c.args.self.now c.args.at inside.starts.now inside.known.now c.self.invariant.0 c.self.view_is found.0 in
    sort_within c.args.self.now c.args.at (λ end. some (is ∙ end))

pub listed_sort-requires-clause-lexes : goal.listed_sort-requires-clause-lexes
listed_sort-requires-clause-lexes c =
    let inside = c.self.inside in
    lexes_within inside.bytes.now inside.tokens.now c.args.self.now c.args.at inside.starts.now inside.known.now c.self.invariant.0

pub returns-in-None-clause-value : goal.returns-in-None-clause-value
returns-in-None-clause-value c =
    let inside = c.self.inside in
    c.listed_sort.ensures ∙ unknown_shown inside.bytes.now inside.tokens.now c.args.self.now c.args.at inside.starts.now inside.known.now c.self.invariant.0 c.self.view_is c.in-None.ensures.lookup.3

pub returns-in-None-clause-within : goal.returns-in-None-clause-within
returns-in-None-clause-within c = λ some.
    let inside = c.self.inside in
    let is = c.listed_sort.ensures ∙ unknown_shown inside.bytes.now inside.tokens.now c.args.self.now c.args.at inside.starts.now inside.known.now c.self.invariant.0 c.self.view_is c.in-None.ensures.lookup.3 in
    sort_within c.args.self.now c.args.at (λ end. some (is ∙ end))

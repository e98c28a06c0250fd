use Rattle.std.proofs.Common.{◌≡◌, ◌≤◌, ◌∷◌, ◌+◌, drop, length, ap, sym, ◌∙◌, subst}
use Rattle.aioc_tokens.specs.declared.kinds.Kind.TheVariants as kinds
use Rattle.aioc_tokens.specs.declared.kinds.Token.{Token}
use Rattle.aioc_tokens.specs.declared.words.Sort.TheVariants as sorts
use Rattle.aioc_tokens.specs.Lexemes.{Name, sort_of, HasSpelling}
use Rattle.aioc_tokens.specs.Packed.{front_name}
use Rattle.aioc_tokens.proofs.Looks.{token_inside, name_shown}
use Rattle.aioc_tokens.proofs.Packing.{lexes_shown, start_shown, name_packed}
use Rattle.aioc_tokens.proofs.view.Lexed.name.Goals as goal

pub bytes_from-requires : goal.bytes_from-requires
bytes_from-requires c =
    let inside = c.self.inside in
    let found = c.in-Some.ensures.lookup.3 in
    subst (λ start. start ≤ length inside.bytes.now) (sym (found.1 0))
    (start_shown inside.bytes.now inside.tokens.now c.args.self.now c.args.at inside.starts.now inside.known.now c.self.invariant.0 c.self.view_is found.0)

pub returns-in-Some-clause-value : goal.returns-in-Some-clause-value
returns-in-Some-clause-value c =
    let inside = c.self.inside in
    let found = c.in-Some.ensures.lookup.3 in
    let same = c.front_name.ensures ∙ ap front_name (c.bytes_from.ensures ∙ ap (λ start. drop start inside.bytes.now) (found.1 0)) in
    subst (λ bytes. drop c.args.at c.args.self.now ≡ Name bytes ∷ drop (c.args.at + 1) c.args.self.now) (sym same)
    (name_packed inside.bytes.now inside.tokens.now c.args.self.now c.args.at inside.starts.now inside.known.now c.self.invariant.0 c.self.view_is found.0 c.requires).value

pub returns-in-Some-clause-valid : goal.returns-in-Some-clause-valid
returns-in-Some-clause-valid c =
    let inside = c.self.inside in
    let found = c.in-Some.ensures.lookup.3 in
    let same = c.front_name.ensures ∙ ap front_name (c.bytes_from.ensures ∙ ap (λ start. drop start inside.bytes.now) (found.1 0)) in
    subst (λ bytes. HasSpelling (Name bytes)) (sym same)
    (name_packed inside.bytes.now inside.tokens.now c.args.self.now c.args.at inside.starts.now inside.known.now c.self.invariant.0 c.self.view_is found.0 c.requires).valid

pub token_bytes-requires-clause-within : goal.token_bytes-requires-clause-within
token_bytes-requires-clause-within c =
    let inside = c.self.inside in
    let lexes = lexes_shown inside.bytes.now inside.tokens.now c.args.self.now c.args.at sorts.Name c.requires (λ same. cc) inside.starts.now inside.known.now c.self.invariant.0 c.self.view_is c.in-None.ensures.lookup.3 in
    token_inside inside.bytes.now inside.tokens.now lexes.0 c.args.at sorts.Name (ap (λ all. sort_of (drop c.args.at all)) lexes.1 ∙ c.requires) (λ same. cc)

pub token_bytes-requires-clause-lexes : goal.token_bytes-requires-clause-lexes
token_bytes-requires-clause-lexes c =
    let inside = c.self.inside in
    (lexes_shown inside.bytes.now inside.tokens.now c.args.self.now c.args.at sorts.Name c.requires (λ same. cc) inside.starts.now inside.known.now c.self.invariant.0 c.self.view_is c.in-None.ensures.lookup.3).0

pub returns-in-None-clause-value : goal.returns-in-None-clause-value
returns-in-None-clause-value c =
    let inside = c.self.inside in
    let other : Token = record { kind = kinds.Name; start = 0; end = 0 } in
    let lexes = lexes_shown inside.bytes.now inside.tokens.now c.args.self.now c.args.at sorts.Name c.requires (λ same. cc) inside.starts.now inside.known.now c.self.invariant.0 c.self.view_is c.in-None.ensures.lookup.3 in
    subst (λ bytes. drop c.args.at c.args.self.now ≡ Name bytes ∷ drop (c.args.at + 1) c.args.self.now) (sym (c.token_bytes.ensures.value other))
    (name_shown inside.bytes.now inside.tokens.now lexes.0 c.args.at other c.args.self.now lexes.1 c.requires).first

pub returns-in-None-clause-valid : goal.returns-in-None-clause-valid
returns-in-None-clause-valid c =
    let inside = c.self.inside in
    let other : Token = record { kind = kinds.Name; start = 0; end = 0 } in
    let lexes = lexes_shown inside.bytes.now inside.tokens.now c.args.self.now c.args.at sorts.Name c.requires (λ same. cc) inside.starts.now inside.known.now c.self.invariant.0 c.self.view_is c.in-None.ensures.lookup.3 in
    subst (λ bytes. HasSpelling (Name bytes)) (sym (c.token_bytes.ensures.value other))
    (name_shown inside.bytes.now inside.tokens.now lexes.0 c.args.at other c.args.self.now lexes.1 c.requires).formed

use Rattle.std.proofs.Common.{◌≡◌, ◌+◌, [], ◌∷◌, ◌++◌, drop, Some, slice_get, subst, sym}
use Rattle.std.proofs.lemmas.List.{take_rest}
use Rattle.std.proofs.lemmas.Bool.{both_ways}
use Rattle.aioc_tokens.specs.Tokens.{BeginsComment}
use Rattle.bundle_layout.proofs.Cutting.{IsCutBy, packed_begun, stands_here, token_added, comment_added, space_added, all_cut}
use Rattle.bundle_layout.proofs.parts.cut.Goals as goal

pub loop-at-init : goal.loop-at-init
loop-at-init c =
    subst (λ parts. IsCutBy c.args.bytes.now c.args.starts.now 0 parts 0) (sym c.in_ok-parts.ensures.items) (packed_begun c.args.bytes.now c.args.starts.now c.args.sorts.now c.requires.packed)

pub token_at-token-requires-clause-begins : goal.token_at-token-requires-clause-begins
token_at-token-requires-clause-begins c =
    let found = c.begins_at.ensures.0 c.if-begins_at.true in
    stands_here c.args.bytes.now c.args.starts.now c.loop-at.next c.loop-at.parts.items c.loop-at.at c.loop-at.invariant found

pub loop-at-preserved-then-begins_at : goal.loop-at-preserved-then-begins_at
loop-at-preserved-then-begins_at c =
    let bytes = c.args.bytes.now in
    let starts = c.args.starts.now in
    let next = c.loop-at.next in
    let old = c.loop-at.parts.items in
    let found = c.begins_at.ensures.0 c.if-begins_at.true in
    let token = c.token_at-token.ensures in
    let added = token_added bytes starts next old c.loop-at.at c.loop-at.invariant token.kind token.count c.sort_of.result found token.longest in
    subst (λ parts. IsCutBy bytes starts (next + 1) parts c.token_at-token.result.end) (sym c.in_ok-push.ensures.items)
    (subst (λ part. IsCutBy bytes starts (next + 1) (old ++ part ∷ []) part.end) (sym token.is) added)

pub loop-at-preserved-then-begins_comment : goal.loop-at-preserved-then-begins_comment
loop-at-preserved-then-begins_comment c =
    let bytes = c.args.bytes.now in
    let starts = c.args.starts.now in
    let next = c.loop-at.next in
    let old = c.loop-at.parts.items in
    let begins = subst BeginsComment (take_rest bytes c.loop-at.at) (c.begins_comment.ensures.0 c.if-begins_comment.true) in
    let none = λ (found : slice_get starts next ≡ Some c.loop-at.at). both_ways _ c.if-begins_at.false (c.begins_at.ensures.1 found) in
    let more = comment_added bytes starts next old c.loop-at.at c.loop-at.invariant none c.loop-at-test.true begins in
    subst (λ parts. IsCutBy bytes starts next parts c.comment_at-comment.result.end) (sym c.in_ok-push-2.ensures.items)
    (subst (λ part. IsCutBy bytes starts next (old ++ part ∷ []) part.end) (sym c.comment_at-comment.ensures) more.0)

pub loop-at-preserved : goal.loop-at-preserved
loop-at-preserved c =
    let bytes = c.args.bytes.now in
    let rest = take_rest bytes c.loop-at.at in
    let no_comment = λ (begins : BeginsComment (drop c.loop-at.at bytes)). both_ways _ c.if-begins_comment.false (c.begins_comment.ensures.1 (subst BeginsComment (sym rest) begins)) in
    let none = λ (found : slice_get c.args.starts.now c.loop-at.next ≡ Some c.loop-at.at). both_ways _ c.if-begins_at.false (c.begins_at.ensures.1 found) in
    space_added bytes c.args.starts.now c.loop-at.next c.loop-at.parts.items c.loop-at.at c.loop-at.invariant none c.loop-at-test.true no_comment

pub returns-clause-pieces : goal.returns-clause-pieces
returns-clause-pieces c = all_cut c.args.bytes.now c.args.starts.now c.loop-at.next c.loop-at.parts.items c.loop-at.at c.loop-at.invariant c.loop-at-test.false

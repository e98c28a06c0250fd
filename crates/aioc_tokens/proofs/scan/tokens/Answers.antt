use Rattle.std.proofs.Common.{◌≡◌, ◌+◌, is_ok, drop, arith, ap, sym, ◌∙◌, subst, refl, length-drop}
use Rattle.std.proofs.lemmas.List.{take_rest}
use Rattle.std.proofs.ResultArms.{chosen}
use Rattle.aioc_tokens.specs.Tokens.{IsBlank, comment, IsLongestToken}
use Rattle.aioc_tokens.specs.Lexing.{Breaks}
use Rattle.aioc_tokens.proofs.Blanks.{blank_size}
use Rattle.aioc_tokens.proofs.Walk.{IsBefore, over_blank, over_token, at_end, at_bad}
use Rattle.aioc_tokens.proofs.Order.{lexes_ordered, lexes_few}
use Rattle.aioc_tokens.proofs.scan.tokens.Goals as goal

pub overflow_add-at : goal.overflow_add-at
overflow_add-at c =
    let bytes = c.args.bytes.now in
    let blank = subst (λ left. IsBlank left c.in-Some.count) (take_rest bytes c.loop-at.at) c.in-Some.ensures in
    omega (arith, (blank_size (drop c.loop-at.at bytes) c.in-Some.count blank).1, length-drop c.loop-at.at bytes)

pub loop-at-preserved-in-Some : goal.loop-at-preserved-in-Some
loop-at-preserved-in-Some c =
    let bytes = c.args.bytes.now in
    over_blank bytes c.loop-at.found.items c.loop-at.at c.loop-at.invariant c.in-Some.count (subst (λ left. IsBlank left c.in-Some.count) (take_rest bytes c.loop-at.at) c.in-Some.ensures)

pub longest_token-requires : goal.longest_token-requires
longest_token-requires c = λ begins. c.in_default.ensures _ (comment begins refl)

pub returns-in_default-longest_token-clause-bad : goal.returns-in_default-longest_token-clause-bad
returns-in_default-longest_token-clause-bad c = λ at is.
    let bytes = c.args.bytes.now in
    let whole = take_rest bytes c.loop-at.at in
    let same : c.loop-at.at ≡ at = cc in
    subst (Breaks 0 bytes) same (at_bad bytes c.loop-at.found.items c.loop-at.at c.loop-at.invariant c.loop-at-test.true (rw whole at c.in_default.ensures) (rw whole at c.in_default-longest_token.ensures))

pub loop-at-preserved : goal.loop-at-preserved
loop-at-preserved c =
    let bytes = c.args.bytes.now in
    let count = c.in-Some-longest_token.count in
    let kind = c.in-Some-longest_token.kind in
    let token = subst (λ left. IsLongestToken left kind count) (take_rest bytes c.loop-at.at) c.in-Some-longest_token.ensures in
    let pushed = chosen _ _ _ _ c.push.ensures.items (sym c.map_err.ensures.variant ∙ ap is_ok c.in_ok-map_err.was) in
    subst (λ found. IsBefore bytes found (c.loop-at.at + count)) (sym pushed) (over_token bytes c.loop-at.found.items c.loop-at.at c.loop-at.invariant kind count token)

pub returns-clause-found : goal.returns-clause-found
returns-clause-found c = at_end c.args.bytes.now c.loop-at.found.items c.loop-at.at c.loop-at.invariant c.loop-at-test.false

pub returns-clause-order : goal.returns-clause-order
returns-clause-order c =
    let bytes = c.args.bytes.now in
    let lexes = at_end bytes c.loop-at.found.items c.loop-at.at c.loop-at.invariant c.loop-at-test.false in
    lexes_ordered bytes c.loop-at.found.items lexes

pub returns-clause-few : goal.returns-clause-few
returns-clause-few c =
    let bytes = c.args.bytes.now in
    let lexes = at_end bytes c.loop-at.found.items c.loop-at.at c.loop-at.invariant c.loop-at-test.false in
    omega (arith, c.loop-at.found.ok.0, lexes_few 0 bytes c.loop-at.found.items lexes)

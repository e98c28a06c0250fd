use Rattle.std.proofs.Common.{◌≡◌, ◌+◌, ◌++◌, ◌∷◌, [], is_ok, drop, arith, ap, sym, ◌∙◌, subst, length-drop}
use Rattle.std.proofs.lemmas.List.{take_rest}
use Rattle.std.proofs.ResultArms.{chosen}
use Rattle.aioc_tokens.specs.Tokens.{IsBlank}
use Rattle.aioc_tokens.specs.Lexing.{Breaks}
use Rattle.aioc_tokens.specs.Packed.{IsSortedToken}
use Rattle.aioc_tokens.proofs.Blanks.{blank_size}
use Rattle.aioc_tokens.proofs.Packing.{PacksBefore, packs_begun, packs_blank, packs_token, packs_end, packs_bad, packs_few}
use Rattle.aioc_tokens.proofs.packed.packed_tokens.Goals as goal

pub loop-at-init : goal.loop-at-init
loop-at-init c =
    let bytes = c.args.bytes.now in
    subst (λ starts. PacksBefore bytes starts c.new-sorts.result.items 0) (sym c.new-starts.ensures.items)
    (subst (λ sorts. PacksBefore bytes [] sorts 0) (sym c.new-sorts.ensures.items) (packs_begun bytes))

pub overflow_add-at : goal.overflow_add-at
overflow_add-at c =
    let bytes = c.args.bytes.now in
    let blank = subst (λ left. IsBlank left c.in-Blank.count) (take_rest bytes c.loop-at.at) c.in-Blank.ensures in
    omega (arith, (blank_size (drop c.loop-at.at bytes) c.in-Blank.count blank).1, length-drop c.loop-at.at bytes)

pub loop-at-preserved-in-Blank : goal.loop-at-preserved-in-Blank
loop-at-preserved-in-Blank c =
    let bytes = c.args.bytes.now in
    packs_blank bytes c.loop-at.starts.items c.loop-at.sorts.items c.loop-at.at c.loop-at.invariant c.in-Blank.count (subst (λ left. IsBlank left c.in-Blank.count) (take_rest bytes c.loop-at.at) c.in-Blank.ensures)

pub returns-in-Other-clause-bad : goal.returns-in-Other-clause-bad
returns-in-Other-clause-bad c = λ at is.
    let bytes = c.args.bytes.now in
    let whole = take_rest bytes c.loop-at.at in
    let same : c.loop-at.at ≡ at = cc in
    subst (Breaks 0 bytes) same (packs_bad bytes c.loop-at.starts.items c.loop-at.sorts.items c.loop-at.at c.loop-at.invariant c.loop-at-test.true (rw whole at c.in-Other.ensures))

pub loop-at-preserved : goal.loop-at-preserved
loop-at-preserved c =
    let bytes = c.args.bytes.now in
    let at = c.loop-at.at in
    let found = c.in-Token in
    let token = subst (λ left. IsSortedToken left found.sort found.count) (take_rest bytes at) found.ensures in
    let starts = chosen _ _ _ _ c.push.ensures.items (sym c.map_err.ensures.variant ∙ ap is_ok c.in_ok-map_err.was) in
    let sorts = chosen _ _ _ _ c.push-in-loop-at.ensures.items (sym c.map_err-in-loop-at.ensures.variant ∙ ap is_ok c.in_ok-map_err-2.was) in
    subst (λ starts. PacksBefore bytes starts c.push-in-loop-at.new.self.items (at + found.count)) (sym starts)
    (subst (λ sorts. PacksBefore bytes (c.loop-at.starts.items ++ at ∷ []) sorts (at + found.count)) (sym sorts)
    (packs_token bytes c.loop-at.starts.items c.loop-at.sorts.items at c.loop-at.invariant found.sort found.count token))

pub returns-clause-found : goal.returns-clause-found
returns-clause-found c = packs_end c.args.bytes.now c.loop-at.starts.items c.loop-at.sorts.items c.loop-at.at c.loop-at.invariant c.loop-at-test.false

pub returns-clause-few : goal.returns-clause-few
returns-clause-few c =
    let packed = packs_end c.args.bytes.now c.loop-at.starts.items c.loop-at.sorts.items c.loop-at.at c.loop-at.invariant c.loop-at-test.false in
    omega (arith, c.loop-at.sorts.ok.0, packs_few c.args.bytes.now c.loop-at.starts.items c.loop-at.sorts.items packed)

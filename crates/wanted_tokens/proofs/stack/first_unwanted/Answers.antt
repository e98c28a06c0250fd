use Rattle.std.proofs.Common.{◌≡◌, Bool, Some, None, if◌then◌else◌, reverse, drop, sym, ap, ◌∙◌, arith}
use Rattle.wanted_tokens.specs.Wanted.{Reading, reading_behind, may_end}
use Rattle.wanted_tokens.specs.Looks.{look}
use Rattle.wanted_tokens.proofs.Walking.{stops_here, goes_on, is_through, wants_more, over_reversed}
use Rattle.wanted_tokens.proofs.stack.first_unwanted.Goals as goal

pub returns-then-not-branch : goal.returns-then-not-branch
returns-then-not-branch c =
    let text = c.args.text.now in
    let r : Reading = record { second = c.tokens.second; wanted = reverse c.tokens.stack.items } in
    let none : reading_behind r.second r.wanted (look (drop c.tokens.at text)) ≡ None = ap (reading_behind r.second r.wanted) (sym c.look_at.ensures) ∙ c.in_ok-take.ensures ∙ ap (λ (b : Bool). if b then Some (record { second = c.take.new.second; wanted = reverse c.take.new.stack.items }) else None) c.if-not-branch.true in
    stops_here c.args.whole text c.tokens.at r c.tokens.invariant.0 (omega arith) none

pub tokens-preserved : goal.tokens-preserved
tokens-preserved c =
    let text = c.args.text.now in
    let r : Reading = record { second = c.tokens.second; wanted = reverse c.tokens.stack.items } in
    let next : Reading = record { second = c.take.new.second; wanted = reverse c.take.new.stack.items } in
    let is : reading_behind r.second r.wanted (look (drop c.tokens.at text)) ≡ Some next = ap (reading_behind r.second r.wanted) (sym c.look_at.ensures) ∙ c.in_ok-take.ensures ∙ ap (λ (b : Bool). if b then Some next else None) c.if-not-branch.false in
    (goes_on c.args.whole text c.tokens.at r c.tokens.invariant.0 next (omega arith) is, omega arith)

pub returns-then-is_over : goal.returns-then-is_over
returns-then-is_over c =
    let text = c.args.text.now in
    let r : Reading = record { second = c.tokens.second; wanted = reverse c.tokens.stack.items } in
    is_through c.args.whole text c.tokens.at r c.tokens.invariant.0 (omega arith)
    (over_reversed c.tokens.second c.tokens.stack.items ∙ ap (may_end c.tokens.second) (sym c.deref.ensures.value) ∙ sym c.is_over.ensures ∙ c.if-is_over.true)

pub returns : goal.returns
returns c =
    let text = c.args.text.now in
    let r : Reading = record { second = c.tokens.second; wanted = reverse c.tokens.stack.items } in
    wants_more c.args.whole text c.tokens.at r c.tokens.invariant.0 (omega arith)
    (over_reversed c.tokens.second c.tokens.stack.items ∙ ap (may_end c.tokens.second) (sym c.deref.ensures.value) ∙ sym c.is_over.ensures ∙ c.if-is_over.false)

use Rattle.std.proofs.Common.{◌≡◌, Bool, Some, None, if◌then◌else◌, drop, reverse, sym, ap, ◌∙◌, arith}
use Rattle.wanted_tokens.specs.Looks.{look}
use Rattle.wanted_tokens.specs.Wanted.{Reading, reading_behind}
use Rattle.wanted_items.proofs.Walking.{goes_on, stops_there}
use Rattle.wanted_items.proofs.walks.walk_to.Goals as goal

pub returns-then-not-branch : goal.returns-then-not-branch
returns-then-not-branch c =
    let text = c.args.text.now in
    let at = c.tokens.place in
    let r : Reading = record { second = c.tokens.second; wanted = reverse c.tokens.goals.items } in
    let none : reading_behind r.second r.wanted (look (drop at text)) ≡ None = ap (reading_behind r.second r.wanted) (sym c.look_at.ensures) ∙ (c.in_ok-take.ensures ∙ ap (λ (b : Bool). if b then Some (record { second = c.take.new.second; wanted = reverse c.take.new.stack.items }) else None) c.if-not-branch.true) in
    stops_there text at (omega (arith, c.tokens-test.true, c.requires)) r c.tokens.invariant.0 c.args.at c.tokens-test.true c.requires none

pub tokens-preserved : goal.tokens-preserved
tokens-preserved c =
    let text = c.args.text.now in
    let at = c.tokens.place in
    let r : Reading = record { second = c.tokens.second; wanted = reverse c.tokens.goals.items } in
    let next : Reading = record { second = c.take.new.second; wanted = reverse c.take.new.stack.items } in
    let is : reading_behind r.second r.wanted (look (drop at text)) ≡ Some next = ap (reading_behind r.second r.wanted) (sym c.look_at.ensures) ∙ (c.in_ok-take.ensures ∙ ap (λ (b : Bool). if b then Some next else None) c.if-not-branch.false) in
    (goes_on text at (omega (arith, c.tokens-test.true, c.requires)) r c.tokens.invariant.0 next is, omega (arith, c.tokens-test.true))

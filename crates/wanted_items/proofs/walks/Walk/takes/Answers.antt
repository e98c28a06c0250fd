use Rattle.std.proofs.Common.{◌≡◌, ◌-◌, Bool, List, ◌∷◌, is_some, take, reverse, sym, ap, ◌∙◌, arith}
use Rattle.std.proofs.lemmas.List.{take_all}
use Rattle.wanted_tokens.specs.declared.goals.Goal.{Goal}
use Rattle.wanted_tokens.specs.Wanted.{reading_behind}
use Rattle.wanted_items.proofs.Tries.{last_left, it_takes, it_stops, it_passes}
use Rattle.wanted_items.proofs.walks.Walk.takes.Goals as goal

pub goals-init : goal.goals-init
goals-init c =
    (ap (λ goals. is_some (reading_behind c.args.self.now.second (reverse goals) c.args.look)) (sym (take_all c.len-left.result c.args.self.now.goals.items (omega (arith, c.len-left.ensures)))), omega (arith, c.len-left.ensures))

pub returns-then-branch : goal.returns-then-branch
returns-then-branch c =
    let items = c.args.self.now.goals.items in
    let last = c.index-goal.result.now in
    let others = reverse (take (c.goals.left - 1) items) in
    let taken : List Goal → Bool = λ goals. is_some (reading_behind c.args.self.now.second goals c.args.look) in
    let here : taken (reverse items) ≡ taken (last ∷ others) = c.goals.invariant.0 ∙ ap taken (last_left items c.goals.left last c.goals-test.true c.goals.invariant.1 (sym c.index-goal.ensures)) in
    it_takes c.args.self.now.second last c.args.own c.args.look c.requires others (sym c.if-branch.true ∙ c.in_ok-is_taken.ensures) ∙ sym here

pub returns-then-not-branch : goal.returns-then-not-branch
returns-then-not-branch c =
    let items = c.args.self.now.goals.items in
    let last = c.index-goal.result.now in
    let others = reverse (take (c.goals.left - 1) items) in
    let taken : List Goal → Bool = λ goals. is_some (reading_behind c.args.self.now.second goals c.args.look) in
    let here : taken (reverse items) ≡ taken (last ∷ others) = c.goals.invariant.0 ∙ ap taken (last_left items c.goals.left last c.goals-test.true c.goals.invariant.1 (sym c.index-goal.ensures)) in
    it_stops c.args.self.now.second last c.args.own c.args.look c.requires others (sym c.if-not-branch.true ∙ c.in_ok-is_taken-2.ensures) ∙ sym here

pub goals-preserved : goal.goals-preserved
goals-preserved c =
    let items = c.args.self.now.goals.items in
    let last = c.index-goal.result.now in
    let others = reverse (take (c.goals.left - 1) items) in
    let taken : List Goal → Bool = λ goals. is_some (reading_behind c.args.self.now.second goals c.args.look) in
    let here : taken (reverse items) ≡ taken (last ∷ others) = c.goals.invariant.0 ∙ ap taken (last_left items c.goals.left last c.goals-test.true c.goals.invariant.1 (sym c.index-goal.ensures)) in
    (here ∙ it_passes c.args.self.now.second last c.args.own c.args.look c.requires others (sym c.if-branch.false ∙ c.in_ok-is_taken.ensures) (sym c.if-not-branch.false ∙ c.in_ok-is_taken-2.ensures), omega (arith, c.goals.invariant.1))

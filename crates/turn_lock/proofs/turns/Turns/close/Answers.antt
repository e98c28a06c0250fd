-- The seats are joined in an order of which the first seat is the first, and each claim stays.
use Rattle.std.proofs.Common.{arith, rules, ◌<◌, length, map, subst}
use Rattle.std.specs.Prelude.{IsPermutation}
use Rattle.std.proofs.lemmas.List.Sorted.{All-permutation, IsPermutation-map, IsPermutation-swap, IsPermutation-sym}
use Rattle.turn_lock.specs.Items.{BeginsWith, Shares}
use Rattle.turn_lock.specs.Words.{claim_of, view}
use Rattle.turn_lock.proofs.Lists.{shares_permuted}
use Rattle.turn_lock.proofs.turns.Turns.close.Goals as goal

pub returns-clause-shares : goal.returns-clause-shares
returns-clause-shares g c =
    let home = c.take_home.result in
    let owner = g.H.Chronicle.owner (g.H.Chronicle.base home) in
    let items = g.H.Chronicle.items home in
    let old = c.args.seats.items in
    let new = c.swap.new.self.items in
    let there : c.in-Some.place < length old = search rules in
    let moved : IsPermutation new old = IsPermutation-sym old new (IsPermutation-swap old new 0 c.in-Some.place (omega (arith, there)) there c.swap.ensures.items) in
    shares_permuted owner items (map claim_of new) (map claim_of old) (IsPermutation-map claim_of new old moved)
    (subst (Shares owner items) c.join_all-token.ensures.claims c.take_home.ensures.shares)

pub returns-clause-begins : goal.returns-clause-begins
returns-clause-begins g c =
    let items = g.H.Chronicle.items c.take_home.result in
    let old = c.args.seats.items in
    let new = c.swap.new.self.items in
    let there : c.in-Some.place < length old = search rules in
    let moved : IsPermutation new old = IsPermutation-sym old new (IsPermutation-swap old new 0 c.in-Some.place (omega (arith, there)) there c.swap.ensures.items) in
    All-permutation (λ s. BeginsWith items (view s).seen) new old moved (c.join_all-token.ensures.seen items c.take_home.ensures.begins)

use Rattle.std.proofs.Common.{rules, ◌∷◌, List, ℕ, Option, Some, length, ap, ◌∙◌}
use Rattle.atomic_table.specs.Table.{rest}
use Rattle.turn_lock.proofs.Seats.{waits_after, single_after, counts_after, known_after}
use Rattle.turn_lock.proofs.Steps.{ends_turn_as, told_as}
use Rattle.turn_lock.proofs.turns.Turns.bring_home.Goals as goal

pub store-requires : goal.store-requires
store-requires g c =
    let is = c.exchange-before.ensures.3 ∙ ap (λ (l : List (ℕ × Option g.row.H.Denot)). (c.args.turn.hold.token.me.0, (0, Some c.args.turn.home) ∷ rest l)) c.args.turn.hold.holds.0 in
    let grown = c.requires.items in (
      search rules,
      search rules,
      ends_turn_as g.H.Chronicle.items g.H.Chronicle.base g.H.Chronicle.owner g.H.Chronicle.at g.H.Chronicle.grows g.met.H.Chronicle.stays g.met.H.Chronicle.goes_on _ _ _ _ c.args.turn.hold.token.me.0 _ c.args.turn.home grown.0 c.args.self.now.sized.1 is c.args.turn.hold.single c.args.turn.hold.holds.1 c.requires.base grown.1 grown.2 c.requires.kept c.requires.count.0,
    )

pub returns-clause-known : goal.returns-clause-known
returns-clause-known g c more grown =
    let k = c.args.turn.hold.token.me.0 in
    let is = c.exchange-before.ensures.3 ∙ ap (λ (l : List (ℕ × Option g.row.H.Denot)). (k, (0, Some c.args.turn.home) ∷ rest l)) c.args.turn.hold.holds.0 in
    known_after c.store.new.seat.me k (g.H.Chronicle.at c.args.turn.home) more
    (told_as g.H.Chronicle.items g.H.Chronicle.base g.H.Chronicle.owner g.H.Chronicle.at g.H.Chronicle.grows g.met.H.Chronicle.stays g.met.H.Chronicle.goes_on _ _ k c.args.turn.home more c.store.ensures.2 is grown).0

pub invariant_of-result : goal.invariant_of-result
invariant_of-result g c =
    let k = c.args.turn.hold.token.me.0 in
    let mark = g.H.Chronicle.at c.args.turn.home in
    let more = c.requires.items.0 in
    let is = c.exchange-before.ensures.3 ∙ ap (λ (l : List (ℕ × Option g.row.H.Denot)). (k, (0, Some c.args.turn.home) ∷ rest l)) c.args.turn.hold.holds.0 in
    let told = (told_as g.H.Chronicle.items g.H.Chronicle.base g.H.Chronicle.owner g.H.Chronicle.at g.H.Chronicle.grows g.met.H.Chronicle.stays g.met.H.Chronicle.goes_on _ _ k c.args.turn.home more c.store.ensures.2 is c.requires.items.1).0 in
    record {
      waits = waits_after c.store.new.seat.me k mark more told;
      single = single_after c.store.new.seat.me k mark more told;
      counts = counts_after c.store.new.seat.me k mark more c.args.seen c.args.turn.hold.made (c.requires.count.0 ∙ ap length c.requires.items.1) c.args.turn.hold.counts.1 told;
    }

pub returns-clause-met : goal.returns-clause-met
returns-clause-met g c more grown =
    let is = c.exchange-before.ensures.3 ∙ ap (λ (l : List (ℕ × Option g.row.H.Denot)). (c.args.turn.hold.token.me.0, (0, Some c.args.turn.home) ∷ rest l)) c.args.turn.hold.holds.0 in
    (told_as g.H.Chronicle.items g.H.Chronicle.base g.H.Chronicle.owner g.H.Chronicle.at g.H.Chronicle.grows g.met.H.Chronicle.stays g.met.H.Chronicle.goes_on _ _ c.args.turn.hold.token.me.0 c.args.turn.home more c.store.ensures.2 is grown).1

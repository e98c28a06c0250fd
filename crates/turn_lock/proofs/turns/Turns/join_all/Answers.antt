use Rattle.std.proofs.Common.{rules, arith, ◌≡◌, ◌<◌, ◌∷◌, length, map, drop, All, subst, sym, refl, ap, ◌∙◌, length-append}
use Rattle.std.proofs.lemmas.Iterator.Adapters.{YieldsList-from_vec}
use Rattle.std.proofs.lemmas.Iterator.Consumers.{YieldsList-end}
use Rattle.std.proofs.lemmas.List.{drop_more, map-id}
use Rattle.std.proofs.lemmas.List.Elements.{All-cons, All-drop, recursion_from_All}
use Rattle.std.specs.List.{AllByRecursion}
use Rattle.turn_lock.specs.declared.turns.Seat.{Seat}
use Rattle.turn_lock.specs.Items.{BeginsWith, Each}
use Rattle.turn_lock.specs.Words.{claim_of, view}
use Rattle.turn_lock.proofs.Lists.{all_of_map, each_back}
use Rattle.turn_lock.proofs.Steps.{joins, some_claim}
use Rattle.turn_lock.proofs.turns.Turns.join_all.Goals as goal

pub join_seat-requires : goal.join_seat-requires
join_seat-requires g c =
    let first = some_claim c.remove-first.result.token.me.0 c.remove-first.result.single in
    let some = subst (λ l. 0 < length l) (sym c.loop-seat.invariant.7) (omega (arith, first, length-append c.remove-first.result.token.me.0.view.claims (map claim_of c.loop-seat.yielded))) in (
      search rules,
      (subst (AllByRecursion (λ s. s.token.table_id ≡ c.args.self.now.table.shared.table_id)) c.in-Some.ensures.steps.0 c.loop-seat.invariant.8).0,
      c.in-Some.seat.waits.0,
      omega (arith, c.args.self.now.sized.0),
      joins g.H.Chronicle.items g.H.Chronicle.base g.H.Chronicle.owner g.H.Chronicle.at g.H.Chronicle.grows g.met.H.Chronicle.stays g.met.H.Chronicle.goes_on _ _ _ c.loop-seat.token.me.0 c.in-Some.seat.token.me.0 some
          (some_claim c.in-Some.seat.token.me.0 c.in-Some.seat.single) c.loop-seat.invariant.2 c.in-Some.seat.waits.1,
    )

pub loop-seat-init : goal.loop-seat-init
loop-seat-init g c =
    let IsOf = λ (s : Seat g.row.H.Denot g.row.H-Item.Denot g.row.H-Base.Denot g.row.H-Mark.Denot g.H.Chronicle). s.token.table_id ≡ c.args.self.now.table.shared.table_id in
    let left : c.into_iter-seat-iterator.result.rest.items ≡ drop 1 c.args.seats.items = c.into_iter-seat-iterator.ensures.into_iter_gives.0 ∙ c.remove-first.ensures.items in
    let others = recursion_from_All IsOf (drop 1 c.args.seats.items) (All-drop IsOf 1 c.args.seats.items c.requires.of) in
    (refl, search rules, search rules, refl, refl, refl, search rules, search rules, subst (AllByRecursion IsOf) (sym left) others)

-- what the first has seen, and what the others have, in their order
pub returns-clause-seen : goal.returns-clause-seen
returns-clause-seen g c = λ items begins.
    let Begins = λ (s : Seat g.row.H.Denot g.row.H-Item.Denot g.row.H-Base.Denot g.row.H-Mark.Denot g.H.Chronicle). BeginsWith items (view s).seen in
    let first = c.remove-first.result in
    let left : c.into_iter-seat-iterator.result.rest.items ≡ drop 1 c.args.seats.items = c.into_iter-seat-iterator.ensures.into_iter_gives.0 ∙ c.remove-first.ensures.items in
    let many : c.into_iter-seat-iterator.result.rest.len ≡ length (drop 1 c.args.seats.items) = search (rules, ap length left) in
    let all = YieldsList-end (YieldsList-from_vec (drop 1 c.args.seats.items) left many) c.loop-seat.yielded c.loop-seat.seat-iterator c.loop-seat.yielded_by c.next.result c.next.new.self c.in-None.is c.next.ensures.steps in
    let others : c.loop-seat.yielded ≡ drop 1 c.args.seats.items = sym (map-id c.loop-seat.yielded) ∙ all.0 in
    let whole : first ∷ drop 1 c.args.seats.items ≡ c.args.seats.items = ap (λ s. s ∷ drop 1 c.args.seats.items) c.remove-first.ensures.value ∙ sym (drop_more c.args.seats.items 0 first c.requires.some) in
    let ours : BeginsWith items (view first).seen = subst (BeginsWith items) c.loop-seat.invariant.5 begins.0 in
    let theirs : Each (BeginsWith items) (map (λ s. (view s).seen) (drop 1 c.args.seats.items)) = subst (λ l. Each (BeginsWith items) (map (λ s. (view s).seen) l)) others
    (each_back (BeginsWith items) (view first).others_seen (map (λ s. (view s).seen) c.loop-seat.yielded) (subst (Each (BeginsWith items)) c.loop-seat.invariant.6 begins.1)) in
    subst (All Begins) whole (All-cons Begins first (drop 1 c.args.seats.items) ours (all_of_map (λ s. (view s).seen) (BeginsWith items) (drop 1 c.args.seats.items) theirs))

use Rattle.std.proofs.Common.{◌≡◌, ◌++◌, [], map, false}
use Rattle.std.specs.List.{AllByRecursion}
use Rattle.turn_lock.specs.Words.{claim_of, view}
use Rattle.turn_lock.proofs.turns.Turns.join_all.Given as goal

-- the claims of the seats taken in so far, and what they have seen, stand behind those of the first; those that are left are of this lock
abbrev pub invariant-loop-seat : goal.invariant-loop-seat
invariant-loop-seat g l =
    (l.token.table_id ≡ l.initial.token.table_id) × (l.token.me.1 ≡ []) × (l.token.me.0.view.holds ≡ false)
    × (l.token.me.0.view.made ≡ l.initial.token.me.0.view.made) × (l.token.me.0.view.base ≡ l.initial.token.me.0.view.base)
    × (l.token.me.0.view.seen ≡ l.initial.token.me.0.view.seen)
    × (l.token.me.0.view.others_seen ≡ l.initial.token.me.0.view.others_seen ++ map (λ s. (view s).seen) l.yielded)
    × (l.token.me.0.view.claims ≡ l.initial.token.me.0.view.claims ++ map claim_of l.yielded)
    × AllByRecursion (λ s. s.token.table_id ≡ l.self.table.shared.table_id) l.seat-iterator.rest.items

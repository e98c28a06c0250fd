-- One seat more in each turn, and the first goes before all others at the end.
use Rattle.std.proofs.Common.{◌≡◌, suc, ◌+◌, [], ◌∷◌, All, length, map, sym, ap, ◌∙◌, subst, arith}
use Rattle.std.proofs.lemmas.List.Elements.{All-cons, All-push}
use Rattle.std.proofs.lemmas.List.{map-append}
use Rattle.dioc_terms.specs.declared.entries.Entry.{Entry}
use Rattle.stage.proofs.SeatingLemmas.{one_seat_more, splits_to}
use Rattle.stage.specs.Held.{IsNewWith, KnownHere}
use Rattle.stage.specs.Seats.{Base, opening_views}
use Rattle.turn_lock.specs.declared.views.View.{View}
use Rattle.turn_lock.specs.Words.{view, known, IsSeatOf}
use Rattle.stage.proofs.seating.make_seats.Goals as goal

pub loop-role-preserved : goal.loop-role-preserved
loop-role-preserved c =
    let so_far = c.loop-role.invariant in
    let i = c.loop-role._role-index in
    let left = c.split-left.result.0 in
    let next = c.split-left.result.1 in
    let more : i + 1 ≡ suc i = omega arith in
    record {
      first = c.split-left.ensures.first.0;
      others = subst (All (λ s. IsSeatOf c.args.turns.now s)) (sym c.push_reserved.ensures.items)
          (All-push (λ s. IsSeatOf c.args.turns.now s) c.loop-role.seats.items next so_far.others c.split-left.ensures.second.0);
      made = omega (arith, ap (λ (v : View Entry Base). v.made) c.split-left.ensures.first.1, so_far.made);
      count = omega (arith, c.push_reserved.ensures.len, so_far.count);
      room = omega (arith, c.push_reserved.ensures.capacity, so_far.room);
      views = λ base is. (
        splits_to base i (i + 1) (view c.loop-role.first) (view left) (so_far.views base is).0 c.split-left.ensures.first.1 more,
        ap (map view) c.push_reserved.ensures.items ∙ map-append view c.loop-role.seats.items (next ∷ [])
            ∙ one_seat_more base i (i + 1) (view c.loop-role.first) (view next) (map view c.loop-role.seats.items) (so_far.views base is).0 c.split-left.ensures.second.1 (so_far.views base is).1 more,
      );
      knows = λ marks is.
          let is_new = so_far.knows marks is in (
            (ap (λ (k : KnownHere). k.turns) c.split-left.ensures.first_known ∙ is_new.0.0, ap (λ (k : KnownHere). k.at) c.split-left.ensures.first_known ∙ is_new.0.1),
            subst (All (λ s. IsNewWith marks (known s))) (sym c.push_reserved.ensures.items)
                (All-push (λ s. IsNewWith marks (known s)) c.loop-role.seats.items next is_new.1
                (ap (λ (k : KnownHere). k.turns) c.split-left.ensures.second_known, ap (λ (k : KnownHere). k.at) c.split-left.ensures.second_known ∙ is_new.0.1)),
          );
    }

pub returns-clause-views : goal.returns-clause-views
returns-clause-views c = λ base is.
    let so_far = c.loop-role.invariant.views base is in
    let all : c.loop-role._role-index ≡ length c.args.cast.now = omega arith in
    ap (map view) c.in_ok-insert.ensures.items ∙ (λ i. so_far.0 i ∷ so_far.1 i) ∙ ap (opening_views base) all

pub returns-clause-knows : goal.returns-clause-knows
returns-clause-knows c = λ marks is.
    let so_far = c.loop-role.invariant.knows marks is in
    subst (All (λ s. IsNewWith marks (known s))) (sym c.in_ok-insert.ensures.items) (All-cons (λ s. IsNewWith marks (known s)) c.loop-role.first c.loop-role.seats.items so_far.0 so_far.1)

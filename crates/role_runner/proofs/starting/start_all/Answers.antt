-- The next seat goes to the thread of the next place.
use Rattle.std.proofs.Common.{rules, ◌≡◌, ◌+◌, ◌∷◌, ◌++◌, [], ℕ, IfSome, length, slice_get, sym, ap, ◌∙◌, subst, arith, length-append}
use Rattle.std.proofs.lemmas.Iterator.Adapters.{YieldsList-from_vec}
use Rattle.std.proofs.lemmas.Iterator.Consumers.{YieldsList-end}
use Rattle.std.proofs.lemmas.List.{map-id}
use Rattle.dioc_terms.specs.Plain.{plain}
use Rattle.role_runner.proofs.JobLemmas.{each_push, opens_next}
use Rattle.role_runner.specs.Jobs.{EachAt, OpensJob}
use Rattle.role_runner.specs.Starts.{IsStarted}
use Rattle.role_runner.proofs.starting.start_all.Goals as goal

pub loop-seat-preserved : goal.loop-seat-preserved
loop-seat-preserved g c =
    let stage = c.args.stage.now in
    let bundle = plain c.args.bundle.now in
    let kept = c.loop-seat.invariant in
    let seat = c.in-Some.seat in
    let one = c.start-one.result in
    let before = c.loop-seat.started.items in
    let rest = c.next.new.self.rest.items in
    let left : c.loop-seat.seat-iterator.rest.items ≡ seat ∷ rest = c.in-Some.ensures.steps.0 in
    let pushed : c.push_reserved.new.self.items ≡ before ++ one ∷ [] = c.push_reserved.ensures.items in
    let more : length before + 1 ≡ length c.push_reserved.new.self.items = omega (arith, length-append before (one ∷ []), ap length pushed) in
    let opens = subst (λ l. (j : ℕ) → IfSome (slice_get l j) (OpensJob stage bundle (length before + j))) left kept.opens in
    let all = kept.all in
    let room = kept.room in
    let place : c.len-place.result ≡ length c.loop-seat.yielded =
    (let ok = c.loop-seat.started.ok.0 in let len = c.len-place.ensures in omega (arith, ok, len, all)) in
    record {
      all = omega (arith, more, all, length-append c.loop-seat.yielded (seat ∷ []));
      room = let capacity = c.push_reserved.ensures.capacity in omega (arith, more, room, ap length left, capacity);
      opens = subst (λ n. (j : ℕ) → IfSome (slice_get rest j) (OpensJob stage bundle (n + j))) more (opens_next (OpensJob stage bundle) seat rest (length before) opens);
      starts = subst (EachAt (IsStarted stage bundle) (c.loop-seat.yielded ++ seat ∷ [])) (sym pushed)
          (each_push (IsStarted stage bundle) c.loop-seat.yielded before seat one all kept.starts (subst (λ n. IsStarted stage bundle n seat one) place c.start-one.ensures));
    }

pub returns-clause-starts : goal.returns-clause-starts
returns-clause-starts g c =
    let end = YieldsList-end (YieldsList-from_vec {s = c.into_iter-seat-iterator.result} c.args.seats.items (search rules) (search rules))
    c.loop-seat.yielded c.loop-seat.seat-iterator c.loop-seat.yielded_by c.next.result c.next.new.self c.in-None.is c.next.ensures.steps in
    let all : c.loop-seat.yielded ≡ c.args.seats.items = sym (map-id c.loop-seat.yielded) ∙ end.0 in
    subst (λ l. EachAt (IsStarted c.args.stage.now (plain c.args.bundle.now)) l c.loop-seat.started.items) all c.loop-seat.invariant.starts

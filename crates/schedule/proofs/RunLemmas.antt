-- How a run by a schedule goes on from a net, and where it has finished.
use Rattle.std.proofs.Common.{◌≡◌, ◌<◌, ◌≤◌, ◌+◌, ◌-◌, ◌↔◌, ℕ, zero, suc, [], ◌∷◌, ◌++◌, length, Bool, true, false, Option, Some, None, refl, sym, ap, ◌∙◌, subst, arith, append_assoc, length-append}
use Rattle.std.specs.Prelude.{if◌then◌else◌, nat_le, Result, Ok, Err, IfOk, OnOk}
use Rattle.std.specs.Option.{option_map_or}
use Rattle.std.proofs.lemmas.Bool.{both_ways, cond-false, cond-true, leb-false, leb-true}
use Rattle.std.proofs.lemmas.List.{append-nil}
use Rattle.dioc_terms.specs.declared.entries.Entry.{Entry}
use Rattle.dioc_terms.specs.Plain.{PlainBundle, Setting, setting}
use Rattle.network_steps.specs.Network.{Network, NextNetwork, network_ended}
use Rattle.network_steps.specs.Schedule.{IsPrompt, continued, next_seed, sched_from, scheduled}
use Rattle.net_core.specs.Nets.{IsSoundRun, NetState, network_of}
use Rattle.schedule.proofs.PromptLemmas.{prompt_turn}
use Rattle.schedule.specs.declared.runs.Finish.{Finish}
use Rattle.schedule.specs.declared.runs.Finish.TheVariants as finish
use Rattle.schedule.specs.Runs.{Goes, HasGone, IsOnTheWay, finish_at, run_of}
use Rattle.schedule.specs.Turns.{Advances, has_ended}

-- the schedule of a net is its history and what the schedule takes from it on
pub schedule_is : (net : NetState) (seed : Option ℕ) → IsSoundRun net → sched_from net.bundle net.history seed net.limit ≡ net.history ++ run_of net seed
schedule_is net seed run =
    ap (λ o. net.history ++ option_map_or (continued (setting net.bundle) seed (net.limit - length net.history)) o []) run.runs

-- where a net stands that goes on
pub goes_on : (net : NetState) → finish_at net ≡ None → (has_ended net ≡ false) × (length net.history < net.limit)
goes_on net h = by_test (has_ended net) (nat_le net.limit (length net.history)) refl h
  where
    by_test : (ends full : Bool) → nat_le net.limit (length net.history) ≡ full
        → (if ends then Some finish.Ended else if full then Some finish.Limit else None) ≡ None → (ends ≡ false) × (length net.history < net.limit)
    by_test true full is k = cc
    by_test false true is k = cc
    by_test false false is k = (refl, leb-false net.limit (length net.history) is)

-- an ended network runs no further
continued-ended : (b : Setting) (seed : Option ℕ) (count : ℕ) (N : Network) → network_ended b.cast N ≡ true → continued b seed count N ≡ []
continued-ended b seed zero N ends = refl
continued-ended b seed (suc count) N ends =
    cond-true (network_ended b.cast N) [] (option_map_or (λ (outcome : NextNetwork). outcome.entry ∷ continued b (next_seed seed) count outcome.network) (scheduled b N seed) []) ends

-- a network that goes on takes what is scheduled
continued-goes : (b : Setting) (seed : Option ℕ) (count : ℕ) (N : Network) (outcome : NextNetwork) → network_ended b.cast N ≡ false
    → scheduled b N seed ≡ Some outcome → continued b seed (suc count) N ≡ outcome.entry ∷ continued b (next_seed seed) count outcome.network
continued-goes b seed count N outcome goes takes =
    cond-false (network_ended b.cast N) [] (option_map_or (λ (o : NextNetwork). o.entry ∷ continued b (next_seed seed) count o.network) (scheduled b N seed) []) goes
    ∙ ap (λ r. option_map_or (λ (o : NextNetwork). o.entry ∷ continued b (next_seed seed) count o.network) r []) takes

-- how a run has finished, and that nothing of it is left
pub record HasFinished (net : NetState) (seed : Option ℕ) (how : Finish) : Type 0 where
  pub over : run_of net seed ≡ []
  pub ended : (how ≡ finish.Ended) ↔ (has_ended net ≡ true)
  pub limit : (how ≡ finish.Limit) ↔ ((length net.history ≡ net.limit) × (has_ended net ≡ false))

no_room : (n count : ℕ) → n ≤ count → n - count ≡ 0
no_room n count h = omega arith

not_both : {how : Finish} → how ≡ finish.Limit → how ≡ finish.Ended → ⊥
not_both h k = cc

same_count : (n count : ℕ) → n ≤ count → count ≤ n → count ≡ n
same_count n count h k = omega arith

pub has_finished : (net : NetState) (seed : Option ℕ) (how : Finish) → IsSoundRun net → finish_at net ≡ Some how → HasFinished net seed how
has_finished net seed how run h = by_test (has_ended net) (nat_le net.limit (length net.history)) refl refl h
  where
    by_test : (ends full : Bool) → has_ended net ≡ ends → nat_le net.limit (length net.history) ≡ full
        → (if ends then Some finish.Ended else if full then Some finish.Limit else None) ≡ Some how → HasFinished net seed how
    by_test true full ends is k =
        let so : how ≡ finish.Ended = cc in
        record {
          over = continued-ended (setting net.bundle) seed (net.limit - length net.history) (network_of net) ends;
          ended = ((λ e. ends), (λ e. so));
          limit = ((λ e. absurd (not_both e so)), (λ e. absurd (both_ways (has_ended net) e.1 ends)));
        }
    by_test false true goes is k =
        let so : how ≡ finish.Limit = cc in
        let full : net.limit ≤ length net.history = leb-true net.limit (length net.history) is in
        record {
          over = ap (λ n. continued (setting net.bundle) seed n (network_of net)) (no_room net.limit (length net.history) full);
          ended = ((λ e. absurd (not_both so e)), (λ e. absurd (both_ways (has_ended net) goes e)));
          limit = ((λ e. (same_count net.limit (length net.history) full run.within, goes)), (λ e. so));
        }
    by_test false false goes is k = cc

pub goes_here : (net : NetState) (seed : Option ℕ) → Goes net seed net seed
goes_here net seed = record {
  made = [];
  run = refl;
  history = sym (append-nil net.history);
  bundle = refl;
  limit = refl;
  seedless = λ h. h;
  prompt = λ none h. h;
  began = λ h. h;
}

one_less : (limit count more : ℕ) → count < limit → more ≡ count + 1 → limit - count ≡ suc (limit - more)
one_less limit count more room longer = omega arith

-- one turn of the run
pub turn : (old new : NetState) (seed : Option ℕ) → has_ended old ≡ false → length old.history < old.limit → Advances old seed new
    → (e : Entry) × (run_of old seed ≡ e ∷ run_of new (next_seed seed)) × (new.history ≡ old.history ++ e ∷ [])
turn old new seed goes room step =
    let longer : length new.history ≡ length old.history + 1 = ap length step.goes.history ∙ length-append old.history (step.outcome.entry ∷ []) in
    let count : old.limit - length old.history ≡ suc (new.limit - length new.history) =
    one_less old.limit (length old.history) (length new.history) room longer ∙ ap (λ n. suc (n - length new.history)) (sym step.goes.limit) in (
      step.outcome.entry,
      ap (λ n. continued (setting old.bundle) seed n (network_of old)) count
          ∙ continued-goes (setting old.bundle) seed (new.limit - length new.history) (network_of old) step.outcome goes step.takes
          ∙ ap (λ N. step.outcome.entry ∷ continued (setting old.bundle) (next_seed seed) (new.limit - length new.history) N) (sym step.goes.network)
          ∙ ap (λ (b : PlainBundle). step.outcome.entry ∷ continued (setting b) (next_seed seed) (new.limit - length new.history) (network_of new)) (sym step.goes.bundle),
      step.goes.history,
    )

still_prompt : (old new : NetState) (seed : Option ℕ) → IsSoundRun old → has_ended old ≡ false → Advances old seed new → seed ≡ None
    → IsPrompt old.bundle old.history → IsPrompt new.bundle new.history
still_prompt old new seed run goes step none prompt =
    let takes : scheduled (setting old.bundle) (network_of old) None ≡ Some step.outcome =
    ap (scheduled (setting old.bundle) (network_of old)) (sym none) ∙ step.takes in
    subst (λ (b : PlainBundle). IsPrompt b new.history) (sym step.goes.bundle)
    (subst (IsPrompt old.bundle) (sym step.goes.history)
    (prompt_turn old.bundle old.history (network_of old) step.outcome run.runs goes takes prompt))

pub goes_more : (old mid new : NetState) (seed here next : Option ℕ) → Goes old seed mid here → IsSoundRun mid → finish_at mid ≡ None → Advances mid here new
    → next ≡ next_seed here → Goes old seed new next
goes_more old mid new seed here next far run on step is =
    let at = goes_on mid on in
    let more = turn mid new here at.0 at.1 step in
    subst (Goes old seed new) (sym is) (record {
      made = far.made ++ more.0 ∷ [];
      run = far.run ∙ ap (λ r. far.made ++ r) more.1 ∙ sym (append_assoc far.made (more.0 ∷ []) (run_of new (next_seed here)));
      history = more.2 ∙ ap (λ h. h ++ more.0 ∷ []) far.history ∙ append_assoc old.history far.made (more.0 ∷ []);
      bundle = step.goes.bundle ∙ far.bundle;
      limit = step.goes.limit ∙ far.limit;
      seedless = λ h. ap next_seed (far.seedless h);
      prompt = λ none h. still_prompt mid new here run at.0 step (far.seedless none) (far.prompt none h);
      began = λ h. far.began run;
    })

-- the schedule of the old net is that of the new one
pub same_schedule : (old new : NetState) (seed next : Option ℕ) → Goes old seed new next → IsSoundRun new
    → sched_from new.bundle new.history next new.limit ≡ sched_from old.bundle old.history seed old.limit
same_schedule old new seed next far run =
    schedule_is new next run ∙ ap (λ h. h ++ run_of new next) far.history ∙ append_assoc old.history far.made (run_of new next)
    ∙ ap (λ r. old.history ++ r) (sym far.run) ∙ sym (schedule_is old seed (far.began run))

pub on_the_way : (old new : NetState) (seed next : Option ℕ) → Goes old seed new next → IsSoundRun new → IsOnTheWay old.bundle old.history seed old.limit new.history
on_the_way old new seed next far run = record {
  made = far.made;
  left = run_of new next;
  history = far.history;
  schedule = sym (same_schedule old new seed next far run) ∙ schedule_is new next run;
}

pub goes_again : (old new : NetState) (seed next : Option ℕ) → Goes old seed new next → IsSoundRun new → seed ≡ None
    → sched_from new.bundle new.history None new.limit ≡ sched_from old.bundle old.history None old.limit
goes_again old new seed next far run none =
    ap (λ s. sched_from new.bundle new.history s new.limit) (sym (far.seedless none)) ∙ same_schedule old new seed next far run
    ∙ ap (λ s. sched_from old.bundle old.history s old.limit) none

pub whole_run : (old new : NetState) (seed next : Option ℕ) (how : Finish) → Goes old seed new next → IsSoundRun new → finish_at new ≡ Some how
    → new.history ≡ sched_from old.bundle old.history seed old.limit
whole_run old new seed next how far run is =
    sym (append-nil new.history) ∙ ap (λ r. new.history ++ r) (sym (has_finished new next how run is).over)
    ∙ sym (schedule_is new next run) ∙ same_schedule old new seed next far run

-- ---- what a run leaves, by its answer

module _ {E : Type 0} (new : NetState) (run : IsSoundRun new) where
  pub left_whole : (old : NetState) (seed : Option ℕ) (answer : Result Finish E) → HasGone old seed new → IfOk answer (λ how. finish_at new ≡ Some how)
      → OnOk answer (new.history ≡ sched_from old.bundle old.history seed old.limit)
  left_whole old seed (Ok how) gone is = whole_run old new seed gone.next how gone.goes run is
  left_whole old seed (Err fault) gone is = tt

  pub left_ended : (answer : Result Finish E) → IfOk answer (λ how. finish_at new ≡ Some how)
      → IfOk answer (λ how. (how ≡ finish.Ended) ↔ (has_ended new ≡ true))
  left_ended (Ok how) is = (has_finished new None how run is).ended
  left_ended (Err fault) is = tt

  pub left_full : (answer : Result Finish E) → IfOk answer (λ how. finish_at new ≡ Some how)
      → IfOk answer (λ how. (how ≡ finish.Limit) ↔ ((length new.history ≡ new.limit) × (has_ended new ≡ false)))
  left_full (Ok how) is = (has_finished new None how run is).limit
  left_full (Err fault) is = tt

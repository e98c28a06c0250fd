-- The history of a resumed run is a run, of which the headline holds.
use Rattle.std.proofs.Common.{◌≡◌, ◌≤◌, ◌<◌, ℕ, List, length, take, Bool, true, false, IsSome, refl, sym, ◌∙◌, subst, inr, arith}
use Rattle.std.specs.Prelude.{nat_le}
use Rattle.std.proofs.lemmas.Bool.{cond-false, cond-true, le-leb, leb-false, leb-true, lt-leb}
use Rattle.std.proofs.lemmas.List.{length-take-le, take_all}
use Rattle.dioc_terms.specs.declared.entries.Entry.{Entry}
use Rattle.dioc_terms.specs.Plain.{PlainBundle}
use Rattle.net_core.specs.Nets.{NetState, network_of}
use Rattle.network_steps.specs.Network.{network_run}
use Rattle.net_laws.specs.Headline.{EveryRun}
use Rattle.net_laws.specs.Laws.{RunsAreSound}
use Rattle.network_steps.specs.Schedule.{sched_from}
use Rattle.net_laws.proofs.MoveLemmas.{some_got}
use Rattle.net_drive.proofs.RunStrays.{some_is}
use Rattle.net_drive.specs.ResumedLaws.{IsRunTo, ResumedNets, ResumedRuns}
use Rattle.net_drive.specs.Resumed.{IsNetAfter, resumed_history}

pub resumed_runs : RunsAreSound → EveryRun → ResumedRuns
resumed_runs sound every b entries seed limit accepted runs = by_test (nat_le (length entries) limit) refl
  where
    by_test : (t : Bool) → nat_le (length entries) limit ≡ t → IsRunTo b limit (resumed_history b entries seed limit)
    by_test true is =
        let within : length entries ≤ limit = leb-true (length entries) limit is in
        let got = some_got (network_run b entries) (subst (λ es. IsSome (network_run b es)) (take_all limit entries within) runs) in
        let arrives = sound b entries got.0 seed limit accepted got.1 within in
        subst (IsRunTo b limit) (sym (cond-true (nat_le (length entries) limit) (sched_from b entries seed limit) (take limit entries) is)) (record {
          network = arrives.network;
          headline = every b (sched_from b entries seed limit) arrives.network accepted arrives.runs;
          within = arrives.within;
          finished = arrives.finished;
        })
    by_test false is =
        let longer : limit < length entries = leb-false (length entries) limit is in
        let count : length (take limit entries) ≡ limit = length-take-le limit entries (omega (arith, longer)) in
        let got = some_got (network_run b (take limit entries)) runs in
        subst (IsRunTo b limit) (sym (cond-false (nat_le (length entries) limit) (sched_from b entries seed limit) (take limit entries) is)) (record {
          network = got.0;
          headline = every b (take limit entries) got.0 accepted got.1;
          within = omega (arith, count);
          finished = inr count;
        })

-- ---- the nets

-- the entries of a net are a run of its bundle
is_run : (b : PlainBundle) (entries : List Entry) (most : ℕ) (net : NetState) → IsNetAfter b entries most net → IsSome (network_run b entries)
is_run b entries most net at =
    some_is (network_run b entries) (network_of net) ((λ j. network_run (sym at.bundle j) (sym at.history j)) ∙ at.run.runs)

pub resumed_nets : RunsAreSound → EveryRun → ResumedNets
resumed_nets sound every = record {
  whole = λ b entries seed most between net accepted at within on.
      let shown : net.history ≡ resumed_history b entries seed most =
      on.history ∙ (λ j. sched_from (at.bundle j) (at.history j) seed (at.limit j))
      ∙ sym (cond-true (nat_le (length entries) most) (sched_from b entries seed most) (take most entries) (le-leb (length entries) most within)) in
      let runs : IsSome (network_run b (take most entries)) = subst (λ es. IsSome (network_run b es)) (sym (take_all most entries within)) (is_run b entries most between at) in
      record {
        bundle = on.bundle ∙ at.bundle;
        limit = on.limit ∙ at.limit;
        history = shown;
        run = subst (IsRunTo b most) (sym shown) (resumed_runs sound every b entries seed most accepted runs);
      };
  full = λ b entries seed most net accepted more at.
      let shown : net.history ≡ resumed_history b entries seed most =
      at.history ∙ sym (cond-false (nat_le (length entries) most) (sched_from b entries seed most) (take most entries) (lt-leb (length entries) most more)) in
      record {
        bundle = at.bundle;
        limit = at.limit;
        history = shown;
        run = subst (IsRunTo b most) (sym shown) (resumed_runs sound every b entries seed most accepted (is_run b (take most entries) most net at));
      };
}

-- The laws of the network, from what holds of the steps of marks.
use Rattle.std.proofs.Common.{◌≡◌, List, [], ◌∷◌, Bool, true, false, Option, Some, IsSome, refl, sym, ap, ◌∙◌, subst, ⊎_elim, arith}
use Rattle.std.specs.List.{list_all}
use Rattle.std.proofs.lemmas.Bool.{and_parts, and_from, or_parts, cases_Bool, cond-false, both_ways, false_from_ne_true}
use Rattle.dioc_terms.specs.declared.names.Role.{Role}
use Rattle.dioc_terms.specs.declared.processes.Key.{Key}
use Rattle.dioc_terms.specs.declared.processes.ScopeHead.{ScopeHead}
use Rattle.dioc_terms.specs.declared.entries.Entry.{Entry}
use Rattle.dioc_terms.specs.Plain.{PlainBundle, setting}
use Rattle.dioc_terms.specs.Equality.{role_eq, member}
use Rattle.dioc_terms.specs.Messages.{visible}
use Rattle.dioc_terms.specs.Processes as process
use Rattle.dioc_terms.specs.Processes.{Process, Load}
use Rattle.dioc_terms.specs.Attempts.{Attempt, Does}
use Rattle.dioc_terms.specs.declared.entries.Act.{Act}
use Rattle.dioc_terms.specs.Terms as term
use Rattle.dioc_terms.specs.Terms.{Term, is_in, distinct_roles}
use Rattle.process_steps.specs.Steps.{Deed, Decision, ended, is_offered, step}
use Rattle.global_steps.specs.Follow.{book_choice, play}
use Rattle.marked_laws.specs.Laws.{IsSound, Simulation, Settlement, UniqueKeys, Progress, NothingLeft, distinct_keys, taken_keys}
use Rattle.network_steps.specs.Network.{Network, decision, given_at, pending_at, no_message, network_start, network_run, network_ended}
use Rattle.marked_laws.specs.Offers.{distinct_acts, DistinctOffers}
use Rattle.marked_laws.proofs.Choices.{cast_unique, sound_answers}
use Rattle.marked_laws.proofs.Constructs.{leader, whole, follows}
use Rattle.marked_laws.proofs.Ends.{place_follower, all_over, no_mail}
use Rattle.marked_laws.proofs.Gates.{outsider, outsider_waits, before_out, leader_in}
use Rattle.marked_laws.proofs.Keys.{few_offers, few_takes}
use Rattle.marked_laws.proofs.Mark.{Mark, Still, Flying, Over, First, Second, Both, Held, Spent, mail, place, Fine}
use Rattle.marked_laws.proofs.Norm.{ended_alike, offers_alike, alike_step}
use Rattle.marked_laws.proofs.Pending.{queued, no_loads, pending_is, pending_distinct}
use Rattle.marked_laws.proofs.Goes.{goes}
use Rattle.marked_laws.proofs.MarkSteps.{given_by}
use Rattle.marked_laws.proofs.Networks.{deed_outcome, given_same}
use Rattle.marked_laws.proofs.Premise.{Known, all_member, proper_text, text_epoch}
use Rattle.marked_laws.proofs.Proper.{Proper}
use Rattle.marked_laws.proofs.Settlements.{runs_settled}
use Rattle.marked_laws.proofs.Simulate.{Marks, state_of, runs_explained}
use Rattle.marked_laws.proofs.Roles.{role_cases}

-- who isn't of the cast is in nothing that is proper
cast_in : (cast : List Role) (I : Term) (q : Role) → Proper cast I → member q cast ≡ false → is_in q I ≡ false
cast_in cast I q proper h = false_from_ne_true (is_in q I) (λ is. both_ways (member q cast) h (proper.in_cast q is))

-- a role that isn't of the cast has ended everywhere
pub stranger : (cast : List Role) (M : Mark) → Fine cast M → (q : Role) → member q cast ≡ false → ended (place cast M q) ≡ true
stranger cast (Still I) fine q h = outsider cast I q (cast_in cast I q fine h)
stranger cast (Flying i o a e b x v) fine q h =
    let parts = or_parts (role_eq q a) (role_eq q b) (cast_in cast (term.Com i o a e b x) q fine h) in
    ap ended (cond-false (role_eq q a) process.Skip _ parts.0 ∙ cond-false (role_eq q b) (process.Recv i o a x) process.Skip parts.1)
stranger cast (Over I) fine q h = refl
stranger cast (First M J) fine q h = and_from _ _ (stranger cast M fine.0 q h) (outsider cast J q (cast_in cast J q fine.1 h))
stranger cast (Second M N) fine q h = and_from _ _ (stranger cast M fine.0 q h) (stranger cast N fine.1 q h)
stranger cast (Both M N) fine q h = and_from _ _ (stranger cast M fine.0 q h) (stranger cast N fine.1 q h)
stranger cast (Held k phases M) fine q h =
    let out = cast_in cast (whole k) q fine.1.proper h in
    let other : role_eq q (leader k) ≡ false = ⊎_elim
    (λ is. absurd (both_ways (is_in q (whole k)) out (subst (λ y. is_in y (whole k) ≡ true) (sym is) (leader_in cast k))))
    (λ differs. differs) (role_cases q (leader k)) in
    ap ended (place_follower cast k phases M q other ∙ ap (λ p. follows cast k q p (place cast M q)) (outsider_waits cast k phases M fine q out)) ∙ before_out cast k q out
stranger cast (Spent G) fine q h = refl

-- where all of the cast have ended all roles have
all_roles : (cast : List Role) (N : Network) (M : Mark) → Marks cast N M → list_all (λ q. ended (N.processes q)) cast ≡ true → (q : Role) → ended (place cast M q) ≡ true
all_roles cast N M marks h q = ⊎_elim
    (λ in_it. sym (ended_alike (N.processes q) (place cast M q) (marks.places q)) ∙ all_member (λ r. ended (N.processes r)) cast q h in_it)
    (λ out. stranger cast M marks.fine q out)
    (cases_Bool (member q cast))

outcome_some : (N : Network) (r : Role) (m : Attempt Deed Process) (d : Deed) (P : Process) → m ≡ Does d P → IsSome (deed_outcome N r m)
outcome_some N r m d P h = subst (λ x. IsSome (deed_outcome N r x)) (sym h) refl

module _ (known : Known) where
  -- the mark of the start
  start_marks : (b : PlainBundle) → IsSound b → Marks b.cast (network_start b) (Still b.choreo)
  start_marks b sound = record {
    fine = proper_text known b.cast b.choreo sound.formed.choreo.indices sound.choreo.connected sound.choreo.no_self_message
        (λ q h. subst (λ c. member q c ≡ true) (sym sound.formed.cast) (known.casts.same q b.choreo ∙ h));
    places = λ q. refl;
    mails = λ k. refl;
    old = λ n at. omega (arith, text_epoch b.choreo sound.formed.choreo.indices n at);
  }

  -- a run ends in a network of a mark, and what is visible of it is played
  explained : (b : PlainBundle) (H : List Entry) (N : Network) → IsSound b → network_run b H ≡ Some N
      → (M : Mark) × Marks b.cast N M × (play b (visible H) ≡ Some (state_of N M))
  explained b H N sound h =
      runs_explained (setting b) (cast_unique known b sound) (sound_answers known b sound) H (network_start b) N (Still b.choreo) (start_marks b sound) h

  pub simulation : Simulation
  simulation b H N sound h =
      let parts = explained b H N sound h in
      record {
        state = state_of N parts.0;
        plays = parts.2;
        stores = λ q. refl;
        book = refl;
        updates = refl;
        changes = refl;
        entries = refl;
        ended = λ all. all_over b.cast parts.0 (parts.1).fine
            (all_roles b.cast N parts.0 parts.1 (and_parts (list_all (λ q. ended (N.processes q)) b.cast) (no_message N.pending) all).0);
      }

  pub settlement : Settlement
  settlement b H N sound h =
      runs_settled (setting b) (cast_unique known b sound) (sound_answers known b sound) H (network_start b) N (Still b.choreo) (start_marks b sound) tt h

  pub unique_keys : UniqueKeys
  unique_keys b H N sound h =
      let parts = explained b H N sound h in (
        pending_distinct N.pending (λ k. (mail parts.0 k, (parts.1).mails k)),
        λ q. ap (λ acts. distinct_keys (taken_keys acts)) (offers_alike q (N.processes q) (place b.cast parts.0 q) ((parts.1).places q))
            ∙ few_takes b.cast parts.0 (parts.1).fine q,
      )

  pub distinct_offers : DistinctOffers
  distinct_offers b H N sound h q =
      let parts = explained b H N sound h in
      ap distinct_acts (offers_alike q (N.processes q) (place b.cast parts.0 q) ((parts.1).places q)) ∙ few_offers b.cast parts.0 (parts.1).fine q

  pub nothing_left : NothingLeft
  nothing_left b H N sound h all =
      let parts = explained b H N sound h in
      no_loads N.pending (λ k. (parts.1).mails k ∙ ap queued (no_mail b.cast parts.0 (parts.1).fine (all_roles b.cast N parts.0 parts.1 all) k))

  pub progress : Progress
  progress b H N sound h not_ended =
      let parts = explained b H N sound h in
      let M : Mark = parts.0 in
      let marks = parts.1 in
      let mails : Key → Option Load = λ k. pending_at k N.pending in
      let decide : Role → ScopeHead → Decision = λ r head. decision b.cast N.updates head (book_choice b.rules N.book head (N.stores r)) in
      ⊎_elim
      (λ over. absurd (both_ways (network_ended b.cast N) not_ended
      (and_from (list_all (λ q. ended (N.processes q)) b.cast) (no_message N.pending)
      (all_pass (λ q. ended (N.processes q)) b.cast (λ q. ended_alike (N.processes q) (place b.cast M q) (marks.places q) ∙ over q))
      (ap no_message (no_loads N.pending (λ k. marks.mails k ∙ ap queued (no_mail b.cast M marks.fine over k)))))))
      (λ go.
      let q : Role = go.0 in
      let a : Act = go.1 in
      let alike = alike_step q (N.stores q) a (given_by mails (decide q) a) (place b.cast M q) (N.processes q) (sym (marks.places q)) go.6 in
      record {
        role = q;
        act = a;
        in_cast = go.4;
        offered = ap (is_offered a) (offers_alike q (N.processes q) (place b.cast M q) (marks.places q)) ∙ go.5;
        defined = outcome_some N q (step q (N.stores q) (N.processes q) a (given_at (setting b) N q a)) go.2 alike.0
            (ap (step q (N.stores q) (N.processes q) a) (given_same (setting b) N q a) ∙ alike.1);
      })
      (goes b.cast N.stores M marks.fine mails decide (λ j at. pending_is j N.pending (mail M j) (marks.mails j)))
    where
      all_pass : (f : Role → Bool) (rs : List Role) → ((q : Role) → f q ≡ true) → list_all f rs ≡ true
      all_pass f [] h = refl
      all_pass f (r ∷ rs) h = and_from (f r) (list_all f rs) (h r) (all_pass f rs h)

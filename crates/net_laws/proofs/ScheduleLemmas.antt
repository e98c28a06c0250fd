-- A schedule's entries are a run, up to an end or the limit.
use Rattle.std.proofs.Common.{◌≡◌, ◌⊎◌, ℕ, zero, suc, Contains, ◌+◌, ◌-◌, ◌%◌, ◌/◌, ◌^◌, ◌<◌, ◌≤◌, List, [], ◌∷◌, ◌++◌, length, Bool, true, false, Option, Some, None, refl, sym, ap, ap₂, ◌∙◌, subst, inl, inr, ⊎_elim, arith, length-append}
use Rattle.std.specs.Prelude.{option_and_then}
use Rattle.std.specs.Option.{option_map_or}
use Rattle.std.proofs.lemmas.Bool.{cond-true, cond-false}
use Rattle.dioc_terms.specs.declared.names.Role.{Role}
use Rattle.dioc_terms.specs.declared.entries.Act.{Act}
use Rattle.dioc_terms.specs.declared.entries.Entry.{Entry}
use Rattle.dioc_terms.specs.Equality.{entry_eq}
use Rattle.dioc_terms.specs.Messages.{doer, act_of}
use Rattle.dioc_terms.specs.Plain.{PlainBundle, Setting, setting}
use Rattle.process_steps.specs.Laws.{OffersAreSteps}
use Rattle.marked_laws.specs.Laws.{IsSound, Progress, Simulation}
use Rattle.network_steps.specs.Network.{Network, NextNetwork, act_step, change_step, network_after, network_step, run_from, network_run, network_ended}
use Rattle.marked_laws.proofs.Equality.{entry_itself}
use Rattle.marked_laws.proofs.Extension.{extensions}
use Rattle.marked_laws.proofs.Mark.{Mark}
use Rattle.marked_laws.proofs.Plays.{entry_doer}
use Rattle.marked_laws.proofs.Premise.{Known}
use Rattle.marked_laws.proofs.Simulate.{Marks}
use Rattle.network_steps.specs.declared.moves.Move.{Move}
use Rattle.network_steps.specs.declared.moves.Move.TheVariants as move
use Rattle.net_laws.specs.Laws.{AcceptedIsSound, MovesAreSteps, Arrives, RunsAreSound}
use Rattle.network_steps.specs.Schedule.{moves, move_step, move_place, next_number, next_seed, scheduled, continued, sched_from}
use Rattle.net_laws.proofs.MoveLemmas.{some_got, EachDone, each_at, each_all, moves_done, reached, mail_of_tags, deed_of, has_move}
use Rattle.net_laws.proofs.ScriptLemmas.{within_got, change_is_nobodys}

-- the network after an entry, by who did it
abbrev step_by : Setting → Network → Entry → Option Role → Option Act → Option Network
step_by b N e (Some r) (Some a) = network_after e (act_step b N r a)
step_by b N e _ _ = network_after e (change_step b N)

after_own : (outcome : NextNetwork) (o : Option NextNetwork) → o ≡ Some outcome → network_after outcome.entry o ≡ Some outcome.network
after_own outcome o h = ap (network_after outcome.entry) h ∙ cond-true (entry_eq outcome.entry outcome.entry) (Some outcome.network) None (entry_itself outcome.entry)

-- a run of one part and then of another
run_append : (b : Setting) (N : Network) (xs ys : List Entry) (M : Network) → run_from b N xs ≡ Some M → run_from b N (xs ++ ys) ≡ run_from b M ys
run_append b N xs ys M h = extensions.run b N xs ys ∙ ap (option_and_then (λ n. run_from b n ys)) h

rest_below : (x n : ℕ) → 0 < n → x % n < n
rest_below x n h = omega arith

place_below : (seed : Option ℕ) (count : ℕ) → 0 < count → move_place seed count < count
place_below None count h = h
place_below (Some x) count h = rest_below (next_number x / 2 ^ 33) count h

some_length : {A : Type 0} (xs : List A) (x : A) → Contains xs x → 0 < length xs
some_length xs x h = omega (arith, h.1)

-- entries that the schedule takes from a network on
record Onward (b : Setting) (N : Network) (count : ℕ) (entries : List Entry) : Type 0 where
  network : Network
  runs : run_from b N entries ≡ Some network
  within : length entries ≤ count
  finished : (network_ended b.cast network ≡ true) ⊎ (length entries ≡ count)

module _ (known : Known) (progress : Progress) (offered_steps : OffersAreSteps) (b : PlainBundle) (sound : IsSound b) where
  -- a move that is done is a step of the network
  move_after : (N : Network) (M : Mark) → Marks b.cast N M → (m : Move) (outcome : NextNetwork) → move_step (setting b) N m ≡ Some outcome
      → network_step (setting b) N outcome.entry ≡ Some outcome.network
  move_after N M marks move.Change outcome h =
      ap (λ who. step_by (setting b) N outcome.entry who (act_of outcome.entry)) (change_is_nobodys (setting b) N outcome h) ∙ after_own outcome (change_step (setting b) N) h
  move_after N M marks (move.Act q a) outcome h =
      let did = deed_of known b sound N M marks q a outcome h in
      ap₂ (step_by (setting b) N outcome.entry) (ap doer did.entry ∙ entry_doer did.deed ∙ ap Some did.who) (ap act_of did.entry ∙ did.act)
      ∙ after_own outcome (act_step (setting b) N q a) h

  each_done : (H : List Entry) (N : Network) → network_run b H ≡ Some N → EachDone (setting b) N (moves (setting b) N)
  each_done H N h =
      let at = reached known b sound H N h in
      moves_done offered_steps b N (mail_of_tags known b sound N at.0 at.1) sound

  some_moves : (H : List Entry) (N : Network) → network_run b H ≡ Some N → network_ended b.cast N ≡ false
      → (q : Role) × (a : Act) × Contains (moves (setting b) N) (move.Act q a)
  some_moves H N h goes =
      let at = reached known b sound H N h in
      let next = progress b H N sound h goes in
      (next.role, next.act, has_move known b sound N at.0 at.1 next)

  -- a network that has not ended takes a next entry
  record Next (N : Network) (seed : Option ℕ) : Type 0 where
    outcome : NextNetwork
    takes : scheduled (setting b) N seed ≡ Some outcome
    steps : network_step (setting b) N outcome.entry ≡ Some outcome.network

  next_of : (H : List Entry) (N : Network) (seed : Option ℕ) → network_run b H ≡ Some N → network_ended b.cast N ≡ false → Next N seed
  next_of H N seed h goes =
      let at = reached known b sound H N h in
      let some = some_moves H N h goes in
      let got = within_got (moves (setting b) N) (move_place seed (length (moves (setting b) N))) (place_below seed (length (moves (setting b) N)) (some_length (moves (setting b) N) (move.Act some.0 some.1) some.2)) in
      let done = some_got (move_step (setting b) N got.0) (each_at (setting b) N (moves (setting b) N) (move_place seed (length (moves (setting b) N))) got.0 (each_done H N h) got.1) in
      record { outcome = done.0; takes = ap (option_and_then (move_step (setting b) N)) got.1 ∙ done.1; steps = move_after N at.0 at.1 got.0 done.0 done.1 }

  onward : (count : ℕ) (seed : Option ℕ) (H : List Entry) (N : Network) → network_run b H ≡ Some N → Onward (setting b) N count (continued (setting b) seed count N)
  onward zero seed H N h = record { network = N; runs = refl; within = omega arith; finished = inr refl }
  onward (suc count) seed H N h = by_test (network_ended b.cast N) refl (λ outcome k. onward count (next_seed seed) (H ++ outcome.entry ∷ []) outcome.network k)
    where
      by_test : (t : Bool) → network_ended b.cast N ≡ t
          → ((outcome : NextNetwork) → network_run b (H ++ outcome.entry ∷ []) ≡ Some outcome.network → Onward (setting b) outcome.network count (continued (setting b) (next_seed seed) count outcome.network))
          → Onward (setting b) N (suc count) (continued (setting b) seed (suc count) N)
      by_test true ends more =
          subst (Onward (setting b) N (suc count)) (sym (cond-true (network_ended b.cast N) [] _ ends)) (record { network = N; runs = refl; within = omega arith; finished = inl ends })
      by_test false goes more =
          let next = next_of H N seed h goes in
          let rest = more next.outcome (run_append (setting b) _ H (next.outcome.entry ∷ []) N h ∙ ap (option_and_then (λ n. Some n)) next.steps) in
          let entries : continued (setting b) seed (suc count) N ≡ next.outcome.entry ∷ continued (setting b) (next_seed seed) count next.outcome.network =
          cond-false (network_ended b.cast N) [] _ goes
          ∙ ap (λ o. option_map_or (λ (outcome : NextNetwork). outcome.entry ∷ continued (setting b) (next_seed seed) count outcome.network) o []) next.takes in
          subst (Onward (setting b) N (suc count)) (sym entries) (record {
            network = rest.network;
            runs = ap (option_and_then (λ n. run_from (setting b) n (continued (setting b) (next_seed seed) count next.outcome.network))) next.steps ∙ rest.runs;
            within = omega (arith, rest.within);
            finished = ⊎_elim (λ ended. inl ended) (λ full. inr (ap suc full)) rest.finished;
          })

module _ (known : Known) (progress : Progress) (offered_steps : OffersAreSteps) (accepted_sound : AcceptedIsSound) where
  pub moves_are_steps : MovesAreSteps
  moves_are_steps = record {
    done = λ b H N accepted h. each_all (setting b) N (moves (setting b) N) (each_done known progress offered_steps b (accepted_sound b accepted) H N h);
    some = λ b H N accepted h goes. some_moves known progress offered_steps b (accepted_sound b accepted) H N h goes;
  }

  pub runs_are_sound : Simulation → RunsAreSound
  runs_are_sound simulation b H N seed limit accepted h within =
      let sound = accepted_sound b accepted in
      let far = onward known progress offered_steps b sound (limit - length H) seed H N h in
      let entries : sched_from b H seed limit ≡ H ++ continued (setting b) seed (limit - length H) N =
      ap (λ o. H ++ option_map_or (continued (setting b) seed (limit - length H)) o []) h in
      let runs : network_run b (H ++ continued (setting b) seed (limit - length H) N) ≡ Some far.network = run_append (setting b) _ H (continued (setting b) seed (limit - length H) N) N h ∙ far.runs in
      let longer : length (H ++ continued (setting b) seed (limit - length H) N) ≡ length H + length (continued (setting b) seed (limit - length H) N) =
      length-append H (continued (setting b) seed (limit - length H) N) in
      subst (Arrives b limit) (sym entries) (record {
        network = far.network;
        runs = runs;
        within = omega (arith, longer, far.within, within);
        finished = ⊎_elim (λ ended. inl ended) (λ full. inr (omega (arith, longer, full, within))) far.finished;
        explained = simulation b (H ++ continued (setting b) seed (limit - length H) N) far.network sound runs;
      })

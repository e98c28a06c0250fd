-- What a role can do changes by its own act and by a message that is put to it, and by nothing else.
use Rattle.std.proofs.Common.{◌≡◌, List, [], ◌∷◌, ◌++◌, ℕ, ◌+◌, Bool, true, false, Option, Some, None, length, slice_get, refl, sym, ap, ap₂, ◌∙◌, subst, ⊎_elim}
use Rattle.std.specs.Prelude.{◌||◌, filter, if◌then◌else◌, is_some, nat_le}
use Rattle.std.specs.List.{list_any}
use Rattle.std.proofs.lemmas.Bool.{both_ways, cond-false, cond-true, false_from_ne_true, or_cases, or_left, or_right}
use Rattle.std.proofs.lemmas.List.Folds.{list_any-append}
use Rattle.dioc_terms.specs.declared.bundles.Timed.{Timed}
use Rattle.dioc_terms.specs.declared.entries.Act.{Act}
use Rattle.dioc_terms.specs.declared.entries.Act.TheVariants as act
use Rattle.dioc_terms.specs.declared.entries.Entry.{Entry}
use Rattle.dioc_terms.specs.declared.names.Role.{Role}
use Rattle.dioc_terms.specs.declared.processes.Key.{Key}
use Rattle.dioc_terms.specs.Attempts.{Attempt, Does, Stuck}
use Rattle.dioc_terms.specs.Equality.{act_eq, key_eq, role_eq}
use Rattle.dioc_terms.specs.Messages.{act_of, doer}
use Rattle.dioc_terms.specs.Plain.{PlainBundle, Setting, setting}
use Rattle.dioc_terms.specs.Processes.{Load, Process}
use Rattle.global_steps.specs.Follow.{change_entry}
use Rattle.marked_laws.specs.Laws.{IsSound}
use Rattle.network_steps.specs.Network.{Network, NextNetwork, act_step, change_step, given_at, network_run, pending_after, pending_at, without}
use Rattle.marked_laws.proofs.Equality.{act_itself, act_same, key_same, role_itself}
use Rattle.marked_laws.proofs.Networks.{after_change, after_deed, deed_outcome, entry_outcome, script_outcome}
use Rattle.marked_laws.proofs.Plays.{entry_doer}
use Rattle.marked_laws.proofs.Premise.{Known}
use Rattle.marked_laws.proofs.Shapes.{if_some, none_some, some_same}
use Rattle.network_steps.specs.Schedule.{is_ready}
use Rattle.net_laws.proofs.MoveLemmas.{deed_of, reached}
use Rattle.process_steps.specs.Steps.{Chooses, Deed, Given, Inputs, Picks, Puts, Sets, Takes, entry_of, is_offered, offers, step}
use Rattle.net_core.specs.MovesIn.{ready_of}
use Rattle.net_core.specs.Places.{offers_of, places_from, places_of}
use Rattle.schedule.proofs.FillLemmas.{makes_way}
use Rattle.schedule.proofs.OwnLemmas.{own_takes}
use Rattle.schedule.specs.Agendas.{Acted, Follows, MakesWay, brings, puts_to, ready_in, takes, disturbs}

-- a put under another key
pending_put : (j k : Key) (l : Load) (pending : List (Key × Load)) → key_eq j k ≡ false → pending_at j (pending ++ (k, l) ∷ []) ≡ pending_at j pending
pending_put j k l [] apart = cond-false (key_eq j k) (Some l) None apart
pending_put j k l (message ∷ rest) apart = ap (λ o. if key_eq j message.0 then Some message.1 else o) (pending_put j k l rest apart)

-- a take of another key
pending_take : (j k : Key) (pending : List (Key × Load)) → key_eq j k ≡ false → pending_at j (without k pending) ≡ pending_at j pending
pending_take j k [] apart = refl
pending_take j k (message ∷ rest) apart = by_test (key_eq k message.0) refl (pending_take j k rest apart)
  where
    by_test : (t : Bool) → key_eq k message.0 ≡ t → pending_at j (without k rest) ≡ pending_at j rest → pending_at j (without k (message ∷ rest)) ≡ pending_at j (message ∷ rest)
    by_test true is more =
        ap (pending_at j) (cond-true (key_eq k message.0) rest (message ∷ without k rest) is)
        ∙ sym (cond-false (key_eq j message.0) (Some message.1) (pending_at j rest) (ap (key_eq j) (sym (key_same k message.0 is)) ∙ apart))
    by_test false is more =
        ap (pending_at j) (cond-false (key_eq k message.0) rest (message ∷ without k rest) is)
        ∙ ap (λ o. if key_eq j message.0 then Some message.1 else o) more

-- the deed is of no message of this key
abbrev Apart : Key → Deed → Type 0
Apart j (Puts k l) = key_eq j k ≡ false
Apart j (Takes k x l) = key_eq j k ≡ false
Apart j _ = Unit {0}

still_pending : (j : Key) (d : Deed) (pending : List (Key × Load)) → Apart j d → pending_at j (pending_after d pending) ≡ pending_at j pending
still_pending j (Puts k l) pending apart = pending_put j k l pending apart
still_pending j (Takes k x l) pending apart = pending_take j k pending apart
still_pending j (Sets i r x v) pending apart = refl
still_pending j (Inputs i r x v) pending apart = refl
still_pending j (Picks i r t) pending apart = refl
still_pending j (Chooses i r c) pending apart = refl

filter_same : (f g : Act → Bool) (acts : List Act) → ((a : Act) → is_offered a acts ≡ true → f a ≡ g a) → filter f acts ≡ filter g acts
filter_same f g [] same = refl
filter_same f g (a ∷ acts) same =
    ap₂ (λ (t : Bool) l. if t then a ∷ l else l) (same a (or_left (act_eq a a) (is_offered a acts) (act_itself a))) refl
    ∙ ap (λ l. if g a then a ∷ l else l) (filter_same f g acts (λ c h. same c (or_right (act_eq c a) (is_offered c acts) h)))

places_same : (f g : Act → Bool) (n : ℕ) (acts : List Act) → ((a : Act) → is_offered a acts ≡ true → f a ≡ g a) → places_from f n acts ≡ places_from g n acts
places_same f g n [] same = refl
places_same f g n (a ∷ acts) same =
    ap₂ (λ (t : Bool) l. if t then n ∷ l else l) (same a (or_left (act_eq a a) (is_offered a acts) (act_itself a)))
    (places_same f g (n + 1) acts (λ c h. same c (or_right (act_eq c a) (is_offered c acts) h)))

-- a role that has the same process, and the same messages for what it takes
module _ (N M : Network) (r : Role) (same : M.processes r ≡ N.processes r)
    (alike : (a : Act) → is_offered a (offers_of N r) ≡ true → is_ready M a ≡ is_ready N a) where
  ready_same : ready_of M r ≡ ready_of N r
  ready_same = ap (λ P. filter (is_ready M) (offers r P)) same ∙ filter_same (is_ready M) (is_ready N) (offers_of N r) alike

  listed_same : ready_in M r ≡ ready_in N r
  listed_same =
      ap₂ (λ (done : List Act) (at : List Act × List ℕ). (r, done, at.0, at.1)) ready_same
      (ap₂ (λ (acts : List Act) (places : List ℕ). (acts, places)) (ap (offers r) same)
      (ap (λ P. places_of (is_ready M) (offers r P)) same ∙ places_same (is_ready M) (is_ready N) 0 (offers_of N r) alike))

-- what a role did, and whose and what its entry is
record Did (N : Network) (q : Role) (a : Act) (outcome : NextNetwork) : Type 0 where
  given : Given
  deed : Deed
  process : Process
  does : step q (N.stores q) (N.processes q) a given ≡ Does deed process
  network : outcome.network ≡ after_deed N q deed process
  who : doer (entry_of deed) ≡ Some q
  acts : act_of (entry_of deed) ≡ Some a

outcome_deed : (N : Network) (q : Role) (m : Attempt Deed Process) (outcome : NextNetwork) → deed_outcome N q m ≡ Some outcome
    → (d : Deed) × (P : Process) × (outcome.entry ≡ entry_of d) × (outcome.network ≡ after_deed N q d P) × (m ≡ Does d P)
outcome_deed N q Stuck outcome h = absurd (none_some h)
outcome_deed N q (Does d P) outcome h = (d, P, ap (λ (o : NextNetwork). o.entry) (sym (some_same h)), ap (λ (o : NextNetwork). o.network) (sym (some_same h)), refl)

did : Known → (b : PlainBundle) (H : List Entry) (N : Network) → IsSound b → network_run b H ≡ Some N → (q : Role) (a : Act) (outcome : NextNetwork)
    → act_step (setting b) N q a ≡ Some outcome → Did N q a outcome
did known b H N sound run q a outcome h =
    let at = reached known b sound H N run in
    let is = deed_of known b sound N at.0 at.1 q a outcome h in
    let parts = outcome_deed N q (step q (N.stores q) (N.processes q) a (given_at (setting b) N q a)) outcome h in
    record {
      given = given_at (setting b) N q a;
      deed = parts.0;
      process = parts.1;
      does = parts.4;
      network = parts.3;
      who = ap doer (sym parts.2 ∙ is.entry) ∙ entry_doer is.deed ∙ ap Some is.who;
      acts = ap act_of (sym parts.2 ∙ is.entry) ∙ is.act;
    }

put_comes : (j k : Key) (l : Load) (pending : List (Key × Load)) → key_eq j k ≡ true → is_some (pending_at j (pending ++ (k, l) ∷ [])) ≡ true
put_comes j k l [] is = ap is_some (cond-true (key_eq j k) (Some l) None is)
put_comes j k l (message ∷ rest) is = by_test (key_eq j message.0) (put_comes j k l rest is)
  where
    by_test : (t : Bool) → is_some (pending_at j (rest ++ (k, l) ∷ [])) ≡ true
        → is_some (if t then Some message.1 else pending_at j (rest ++ (k, l) ∷ [])) ≡ true
    by_test true more = refl
    by_test false more = more

-- the message is for a role that didn't act
module _ (q r : Role) (a : Act) (other : role_eq r q ≡ false) (j : Key) (own : j.to ≡ r) where
  not_put : puts_to a r ≡ false → (k : Key) → a ≡ act.Put k → key_eq j k ≡ false
  not_put none k is = false_from_ne_true (key_eq j k) (λ same.
      both_ways (role_eq r k.to) (ap (λ x. puts_to x r) (sym is) ∙ none)
      (subst (λ x. role_eq r x ≡ true) (sym own ∙ ap (λ (i : Key). i.to) (key_same j k same)) (role_itself r)))

  not_taken : (k : Key) → k.to ≡ q → key_eq j k ≡ false
  not_taken k of_q = false_from_ne_true (key_eq j k) (λ same.
      both_ways (role_eq r q) other
      (subst (λ x. role_eq r x ≡ true) (sym own ∙ ap (λ (i : Key). i.to) (key_same j k same) ∙ of_q) (role_itself r)))

  of_none : puts_to a r ≡ false → (d : Deed) → doer (entry_of d) ≡ Some q → act_of (entry_of d) ≡ Some a → Apart j d
  of_none none (Puts k l) who acts = not_put none k (sym (some_same acts))
  of_none none (Takes k x l) who acts = not_taken k (some_same who)
  of_none none (Sets i s x v) who acts = tt
  of_none none (Inputs i s x v) who acts = tt
  of_none none (Picks i s t) who acts = tt
  of_none none (Chooses i s c) who acts = tt

  -- it is there after the act if it was before, or if the act puts it
  comes : (d : Deed) (pending : List (Key × Load)) → doer (entry_of d) ≡ Some q → act_of (entry_of d) ≡ Some a
      → is_some (pending_at j (pending_after d pending)) ≡ (brings a (act.Take j) || is_some (pending_at j pending))
  comes (Puts k l) pending who acts = by_test (key_eq j k) refl ∙ ap (λ x. brings x (act.Take j) || is_some (pending_at j pending)) (some_same acts)
    where
      by_test : (t : Bool) → key_eq j k ≡ t → is_some (pending_at j (pending ++ (k, l) ∷ [])) ≡ (key_eq j k || is_some (pending_at j pending))
      by_test true is = put_comes j k l pending is ∙ ap (λ t. t || is_some (pending_at j pending)) (sym is)
      by_test false is = ap is_some (pending_put j k l pending is) ∙ ap (λ t. t || is_some (pending_at j pending)) (sym is)
  comes (Takes k x l) pending who acts =
      ap is_some (pending_take j k pending (not_taken k (some_same who))) ∙ ap (λ x. brings x (act.Take j) || is_some (pending_at j pending)) (some_same acts)
  comes (Sets i s x v) pending who acts = ap (λ x. brings x (act.Take j) || is_some (pending_at j pending)) (some_same acts)
  comes (Inputs i s x v) pending who acts = ap (λ x. brings x (act.Take j) || is_some (pending_at j pending)) (some_same acts)
  comes (Picks i s t) pending who acts = ap (λ x. brings x (act.Take j) || is_some (pending_at j pending)) (some_same acts)
  comes (Chooses i s c) pending who acts = ap (λ x. brings x (act.Take j) || is_some (pending_at j pending)) (some_same acts)

or_true : (t : Bool) → true ≡ (t || true)
or_true true = refl
or_true false = refl

-- what a role takes is to it
abbrev Owns : Network → Role → Type 0
Owns N r = (j : Key) → is_offered (act.Take j) (offers r (N.processes r)) ≡ true → j.to ≡ r

-- what a role can do that didn't act is what it could before, and the takes of what is put to it
pub follows : Known → (b : PlainBundle) (H : List Entry) (N : Network) → IsSound b → network_run b H ≡ Some N → (q : Role) (a : Act) (outcome : NextNetwork)
    → act_step (setting b) N q a ≡ Some outcome → (r : Role) → role_eq r q ≡ false → Follows N outcome.network a r
follows known b H N sound run q a outcome h r other =
    let done = did known b H N sound run q a outcome h in
    let own = own_takes known b H N sound run r in
    subst (λ M. Follows N M a r) (sym done.network)
    (record {
      offers = ap (offers r) (cond-false (role_eq r q) done.process (N.processes r) other);
      ready = places_same (is_ready (after_deed N q done.deed done.process)) (λ c. brings a c || is_ready N c) 0 (offers_of N r) (come done own);
      same = λ none. places_same (is_ready (after_deed N q done.deed done.process)) (is_ready N) 0 (offers_of N r) (stay done own none);
    })
  where
    come : (done : Did N q a outcome) → Owns N r → (c : Act) → is_offered c (offers_of N r) ≡ true
        → is_ready (after_deed N q done.deed done.process) c ≡ (brings a c || is_ready N c)
    come done own (act.Take j) k = comes q r a other j (own j k) done.deed N.pending done.who done.acts
    come done own (act.Put j) k = or_true (brings a (act.Put j))
    come done own (act.Set j) k = or_true (brings a (act.Set j))
    come done own (act.Input j) k = or_true (brings a (act.Input j))
    come done own (act.Pick j) k = or_true (brings a (act.Pick j))
    come done own (act.Scope j) k = or_true (brings a (act.Scope j))

    stay : (done : Did N q a outcome) → Owns N r → puts_to a r ≡ false → (c : Act) → is_offered c (offers_of N r) ≡ true
        → is_ready (after_deed N q done.deed done.process) c ≡ is_ready N c
    stay done own none (act.Take j) k = ap is_some (still_pending j done.deed N.pending (of_none q r a other j (own j k) none done.deed done.who done.acts))
    stay done own none (act.Put j) k = refl
    stay done own none (act.Set j) k = refl
    stay done own none (act.Input j) k = refl
    stay done own none (act.Pick j) k = refl
    stay done own none (act.Scope j) k = refl

-- an act that is offered has no property that none of them has
any_none : (f : Act → Bool) (c : Act) (acts : List Act) → is_offered c acts ≡ true → list_any f acts ≡ false → f c ≡ false
any_none f c [] h nowhere = absurd (both_ways false refl h)
any_none f c (x ∷ xs) h nowhere = ⊎_elim
    (λ here. false_from_ne_true (f c) (λ yes. both_ways (f x || list_any f xs) nowhere (or_left (f x) (list_any f xs) (subst (λ z. f z ≡ true) (act_same c x here) yes))))
    (λ there. any_none f c xs there (false_from_ne_true (list_any f xs) (λ yes. both_ways (f x || list_any f xs) nowhere (or_right (f x) (list_any f xs) yes))))
    (or_cases (act_eq c x) (is_offered c xs) h)

-- a message that the role itself takes, where its act disturbs none of these
module _ (q : Role) (a : Act) (others : List Act) (none : disturbs q a others ≡ false) where
  of_own : (j : Key) → j.to ≡ q → is_offered (act.Take j) others ≡ true → (d : Deed) → act_of (entry_of d) ≡ Some a → Apart j d
  of_own j own offered (Puts k l) acts =
      let free : role_eq k.to q ≡ false = ap (λ x. disturbs q x others) (some_same acts) ∙ none in
      false_from_ne_true (key_eq j k) (λ same.
      both_ways (role_eq k.to q) free
      (subst (λ x. role_eq x q ≡ true) (sym own ∙ ap (λ (i : Key). i.to) (key_same j k same)) (role_itself q)))
  of_own j own offered (Takes k x l) acts =
      let free : list_any (takes k) others ≡ false = ap (λ x. disturbs q x others) (some_same acts) ∙ none in
      any_none (takes k) (act.Take j) others offered free
  of_own j own offered (Sets i s x v) acts = tt
  of_own j own offered (Inputs i s x v) acts = tt
  of_own j own offered (Picks i s t) acts = tt
  of_own j own offered (Chooses i s c) acts = tt

-- what a role offers that acted is what it did before, with others in place of its act
acted_way : (N : Network) (q : Role) (a : Act) (outcome : NextNetwork) (done : Did N q a outcome)
    → MakesWay a (offers_of N q) (offers_of (after_deed N q done.deed done.process) q)
acted_way N q a outcome done =
    subst (λ (P : Process). MakesWay a (offers_of N q) (offers q P)) (sym (cond-true (role_eq q q) done.process (N.processes q) (role_itself q)))
    (makes_way q (N.stores q) a done.given (N.processes q) done.deed done.process done.does)

-- and of what stays it can do what it could
module _ (N : Network) (q : Role) (a : Act) (outcome : NextNetwork) (done : Did N q a outcome) (own : Owns N q) (way : MakesWay a (offers_of N q) (offers_of (after_deed N q done.deed done.process) q))
    (none : disturbs q a (way.front ++ way.back) ≡ false) where
  one : (c : Act) → is_offered c (way.front ++ way.back) ≡ true → is_offered c (way.front ++ a ∷ way.back) ≡ true → is_ready (after_deed N q done.deed done.process) c ≡ is_ready N c
  one (act.Take j) k l =
      ap is_some (still_pending j done.deed N.pending
      (of_own q a (way.front ++ way.back) none j (own j (subst (λ acts. is_offered (act.Take j) acts ≡ true) (sym way.was) l)) k done.deed done.acts))
  one (act.Put j) k l = refl
  one (act.Set j) k l = refl
  one (act.Input j) k l = refl
  one (act.Pick j) k l = refl
  one (act.Scope j) k l = refl

  in_front : (c : Act) (more : List Act) → is_offered c way.front ≡ true → is_offered c (way.front ++ more) ≡ true
  in_front c more k = list_any-append (act_eq c) way.front more ∙ or_left (is_offered c way.front) (is_offered c more) k

  in_back : (c : Act) (more : List Act) → is_offered c more ≡ true → is_offered c (way.front ++ more) ≡ true
  in_back c more k = list_any-append (act_eq c) way.front more ∙ or_right (is_offered c way.front) (is_offered c more) k

  front_stays : places_of (is_ready (after_deed N q done.deed done.process)) way.front ≡ places_of (is_ready N) way.front
  front_stays =
      places_same (is_ready (after_deed N q done.deed done.process)) (is_ready N) 0 way.front
      (λ c k. one c (in_front c way.back k) (in_front c (a ∷ way.back) k))

  back_stays : places_from (is_ready (after_deed N q done.deed done.process)) (length way.front + 1) way.back ≡ places_from (is_ready N) (length way.front + 1) way.back
  back_stays =
      places_same (is_ready (after_deed N q done.deed done.process)) (is_ready N) (length way.front + 1) way.back
      (λ c k. one c (in_back c way.back k) (in_back c (a ∷ way.back) (or_right (act_eq c a) (is_offered c way.back) k)))

-- what a role can do that acted is what it could before, but for what stands in place of its act
pub acted : Known → (b : PlainBundle) (H : List Entry) (N : Network) → IsSound b → network_run b H ≡ Some N → (q : Role) (a : Act) (outcome : NextNetwork)
    → act_step (setting b) N q a ≡ Some outcome → Acted N outcome.network a q
acted known b H N sound run q a outcome h =
    let done = did known b H N sound run q a outcome h in
    let way = acted_way N q a outcome done in
    subst (λ M. Acted N M a q) (sym done.network)
    (record {
      way = way;
      front = λ none. front_stays N q a outcome done (own_takes known b H N sound run q) way none;
      back = λ none. back_stays N q a outcome done (own_takes known b H N sound run q) way none;
    })

outcome_entry : (b : Setting) (N : Network) (timed : Timed) (o : Option Entry) (outcome : NextNetwork) → entry_outcome b N timed o ≡ Some outcome
    → outcome.network ≡ after_change b N timed
outcome_entry b N timed None outcome h = absurd (none_some h)
outcome_entry b N timed (Some e) outcome h =
    ap (λ (o : NextNetwork). o.network) (if_some (nat_le timed.after N.visible) (record { entry = e; network = after_change b N timed }) h).1

-- after a change of the script each role can do what it could before
pub untouched_by_change : (b : Setting) (N : Network) (outcome : NextNetwork) → change_step b N ≡ Some outcome → (r : Role) → ready_in outcome.network r ≡ ready_in N r
untouched_by_change b N outcome h r = by_script (slice_get b.script N.changes) h
  where
    alike : (timed : Timed) (a : Act) → is_ready (after_change b N timed) a ≡ is_ready N a
    alike timed (act.Take j) = refl
    alike timed (act.Put k) = refl
    alike timed (act.Set i) = refl
    alike timed (act.Input i) = refl
    alike timed (act.Pick i) = refl
    alike timed (act.Scope i) = refl

    by_script : (o : Option Timed) → script_outcome b N o ≡ Some outcome → ready_in outcome.network r ≡ ready_in N r
    by_script None k = absurd (none_some k)
    by_script (Some timed) k =
        ap (λ M. ready_in M r) (outcome_entry b N timed (change_entry b.rules timed.change) outcome k)
        ∙ listed_same N (after_change b N timed) r refl (λ a offered. alike timed a)

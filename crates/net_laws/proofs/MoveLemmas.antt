-- After any run of a sound bundle each move can be done, and there is one where the network has not ended.
use Rattle.std.proofs.Common.{◌≡◌, ℕ, zero, suc, List, [], ◌∷◌, ◌++◌, Bool, true, false, ◌&&◌, not, Option, Some, None, IsSome, All, Contains, slice_get, filter, map, refl, sym, ap, ◌∙◌, subst, ⊎_elim, arith}
use Rattle.std.specs.Prelude.{flat_map, is_some, if◌then◌else◌}
use Rattle.std.proofs.lemmas.Bool.{and_parts, or_left, or_right, or_cases, cond-true, cond-false, both_ways}
use Rattle.std.proofs.lemmas.List.Elements.{All-nil, All-cons, Contains-append_left, Contains-append_right}
use Rattle.dioc_terms.specs.declared.names.Role.{Role}
use Rattle.dioc_terms.specs.declared.processes.Key.{Key}
use Rattle.dioc_terms.specs.declared.processes.ScopeHead.{ScopeHead}
use Rattle.dioc_terms.specs.declared.entries.Act.{Act}
use Rattle.dioc_terms.specs.declared.entries.Act.TheVariants as act
use Rattle.dioc_terms.specs.declared.entries.Entry.{Entry}
use Rattle.dioc_terms.specs.Equality.{role_eq, member, act_eq}
use Rattle.dioc_terms.specs.Messages.{act_of}
use Rattle.dioc_terms.specs.Attempts.{Attempt, Stuck, Does}
use Rattle.dioc_terms.specs.Plain.{PlainBundle, Setting, setting}
use Rattle.dioc_terms.specs.Processes.{Process, Load}
use Rattle.process_steps.specs.Laws.{given_fits, is_done, load_fits, OffersAreSteps}
use Rattle.process_steps.specs.Steps.{Deed, Puts, Takes, Sets, Inputs, Picks, Chooses, Given, Alone, Got, Decision, entry_of, offers, is_offered, step}
use Rattle.global_steps.specs.Follow.{book_choice}
use Rattle.marked_laws.specs.Laws.{IsSound, HasStep}
use Rattle.network_steps.specs.Network.{Network, NextNetwork, decision, given_at, pending_at, act_step, network_start, network_run, network_ended}
use Rattle.process_steps.proofs.Lemmas.{steps-show_their_acts}
use Rattle.marked_laws.proofs.Choices.{cast_unique, sound_answers}
use Rattle.marked_laws.proofs.Equality.{role_same, act_same, act_itself}
use Rattle.marked_laws.proofs.Found.{found}
use Rattle.marked_laws.proofs.Mails.{MailFits, mail_fits}
use Rattle.marked_laws.proofs.Mark.{Mark, Still, mail, place}
use Rattle.marked_laws.proofs.MarkSteps.{doer_of, given_by}
use Rattle.marked_laws.proofs.Networks.{deed_outcome, given_same}
use Rattle.marked_laws.proofs.Norm.{alike_step}
use Rattle.marked_laws.proofs.Pending.{pending_is}
use Rattle.marked_laws.proofs.Premise.{Known, proper_text, text_epoch}
use Rattle.marked_laws.proofs.Shapes.{none_some, some_same}
use Rattle.marked_laws.proofs.Simulate.{Marks, answers_in, runs_explained}
use Rattle.network_steps.specs.declared.moves.Move.{Move}
use Rattle.network_steps.specs.declared.moves.Move.TheVariants as move
use Rattle.network_steps.specs.Schedule.{change_due, is_ready, role_moves, moves, move_step}
use Rattle.net_laws.proofs.Loads.{mail_of_tag}
use Rattle.net_laws.proofs.ScriptLemmas.{change_steps}

pub some_got : {A : Type 0} (o : Option A) → IsSome o → (x : A) × (o ≡ Some x)
some_got None h = cc
some_got (Some x) h = (x, refl)

abbrev message_given : Option Load → Given
message_given None = Alone
message_given (Some l) = Got l

take_fits : (k : Key) (o : Option Load) → is_some o ≡ true → ((l : Load) → o ≡ Some l → load_fits k.tag l ≡ true) → given_fits (act.Take k) (message_given o) ≡ true
take_fits k None ready fits = cc
take_fits k (Some l) ready fits = fits l refl

done_outcome : (N : Network) (q : Role) (m : Attempt Deed Process) → is_done m ≡ true → IsSome (deed_outcome N q m)
done_outcome N q Stuck h = cc
done_outcome N q (Does d P) h = refl

-- a network whose pending messages fit their tags
abbrev pub MailOfTags : Network → Type 0
MailOfTags N = (k : Key) (l : Load) → pending_at k N.pending ≡ Some l → load_fits k.tag l ≡ true

fits_given : (b : Setting) (N : Network) (q : Role) (a : Act) → MailOfTags N → is_ready N a ≡ true → given_fits a (given_at b N q a) ≡ true
fits_given b N q (act.Take k) pending ready = take_fits k (pending_at k N.pending) ready (pending k)
fits_given b N q (act.Scope i) pending ready = refl
fits_given b N q _ pending ready = refl

abbrev pub EachDone : Setting → Network → List Move → Type 0
EachDone b N [] = Unit {0}
EachDone b N (m ∷ ms) = IsSome (move_step b N m) × EachDone b N ms

each_append : (b : Setting) (N : Network) (xs ys : List Move) → EachDone b N xs → EachDone b N ys → EachDone b N (xs ++ ys)
each_append b N [] ys h k = k
each_append b N (x ∷ xs) ys h k = (h.0, each_append b N xs ys h.1 k)

pub each_at : (b : Setting) (N : Network) (ms : List Move) (i : ℕ) (m : Move) → EachDone b N ms → slice_get ms i ≡ Some m → IsSome (move_step b N m)
each_at b N [] i m h is = absurd (none_some is)
each_at b N (x ∷ xs) zero m h is = subst (λ y. IsSome (move_step b N y)) (some_same is) h.0
each_at b N (x ∷ xs) (suc i) m h is = each_at b N xs i m h.1 is

pub each_all : (b : Setting) (N : Network) (ms : List Move) → EachDone b N ms → All (λ m. IsSome (move_step b N m)) ms
each_all b N [] h = All-nil (λ m. IsSome (move_step b N m))
each_all b N (m ∷ ms) h = All-cons (λ x. IsSome (move_step b N x)) m ms h.0 (each_all b N ms h.1)

module _ (offered_steps : OffersAreSteps) (b : PlainBundle) (N : Network) (pending : MailOfTags N) where
  -- an act that is offered and ready can be done
  act_done : (q : Role) (a : Act) → is_offered a (offers q (N.processes q)) ≡ true → is_ready N a ≡ true → IsSome (act_step (setting b) N q a)
  act_done q a offered ready = done_outcome N q (step q (N.stores q) (N.processes q) a (given_at (setting b) N q a))
      (offered_steps.exactly q (N.stores q) (N.processes q) a (given_at (setting b) N q a) (fits_given (setting b) N q a pending ready) ∙ offered)

  acts_done : (q : Role) (acts : List Act) → ((a : Act) → is_offered a acts ≡ true → is_offered a (offers q (N.processes q)) ≡ true)
      → EachDone (setting b) N (map (move.Act q) (filter (is_ready N) acts))
  acts_done q [] offered = tt
  acts_done q (a ∷ acts) offered = by_test (is_ready N a) refl (acts_done q acts (λ c h. offered c (or_right (act_eq c a) (is_offered c acts) h)))
    where
      by_test : (t : Bool) → is_ready N a ≡ t → EachDone (setting b) N (map (move.Act q) (filter (is_ready N) acts)) → EachDone (setting b) N (map (move.Act q) (filter (is_ready N) (a ∷ acts)))
      by_test true ready rest =
          subst (λ l. EachDone (setting b) N (map (move.Act q) l)) (sym (cond-true (is_ready N a) (a ∷ filter (is_ready N) acts) (filter (is_ready N) acts) ready))
          (act_done q a (offered a (or_left (act_eq a a) (is_offered a acts) (act_itself a))) ready, rest)
      by_test false waits rest =
          subst (λ l. EachDone (setting b) N (map (move.Act q) l)) (sym (cond-false (is_ready N a) (a ∷ filter (is_ready N) acts) (filter (is_ready N) acts) waits)) rest

  roles_done : (roles : List Role) → EachDone (setting b) N (flat_map (role_moves N) roles)
  roles_done [] = tt
  roles_done (q ∷ qs) = each_append (setting b) N (role_moves N q) (flat_map (role_moves N) qs) (acts_done q (offers q (N.processes q)) (λ a h. h)) (roles_done qs)

  -- each move can be done
  pub moves_done : IsSound b → EachDone (setting b) N (moves (setting b) N)
  moves_done sound = each_append (setting b) N (if change_due b.script N.changes N.visible && not (network_ended b.cast N) then move.Change ∷ [] else [])
      (flat_map (role_moves N) b.cast) (by_test (change_due b.script N.changes N.visible && not (network_ended b.cast N)) refl) (roles_done b.cast)
    where
      by_test : (t : Bool) → (change_due b.script N.changes N.visible && not (network_ended b.cast N)) ≡ t → EachDone (setting b) N (if t then move.Change ∷ [] else [])
      by_test true is = (change_steps b N sound.formed (and_parts (change_due b.script N.changes N.visible) (not (network_ended b.cast N)) is).0, tt)
      by_test false is = tt

-- an element is in a list with another one before it
contains_later : {A : Type 0} (first : A) (xs : List A) (x : A) → Contains xs x → Contains (first ∷ xs) x
contains_later first xs x h = Contains-append_right (first ∷ []) xs x h

-- an act that is offered and ready is a move
act_listed : (N : Network) (q : Role) (a : Act) (acts : List Act) → is_ready N a ≡ true → is_offered a acts ≡ true
    → Contains (map (move.Act q) (filter (is_ready N) acts)) (move.Act q a)
act_listed N q a [] ready offered = cc
act_listed N q a (c ∷ acts) ready offered = by_test (is_ready N c) refl (λ h. act_listed N q a acts ready h)
  where
    by_test : (t : Bool) → is_ready N c ≡ t → (is_offered a acts ≡ true → Contains (map (move.Act q) (filter (is_ready N) acts)) (move.Act q a))
        → Contains (map (move.Act q) (filter (is_ready N) (c ∷ acts))) (move.Act q a)
    by_test true is more =
        subst (λ l. Contains (map (move.Act q) l) (move.Act q a)) (sym (cond-true (is_ready N c) (c ∷ filter (is_ready N) acts) (filter (is_ready N) acts) is))
        (⊎_elim (λ same. (0, omega arith, ap (move.Act q) (sym (act_same a c same))))
        (λ later. contains_later (move.Act q c) (map (move.Act q) (filter (is_ready N) acts)) (move.Act q a) (more later))
        (or_cases (act_eq a c) (is_offered a acts) offered))
    by_test false is more =
        subst (λ l. Contains (map (move.Act q) l) (move.Act q a)) (sym (cond-false (is_ready N c) (c ∷ filter (is_ready N) acts) (filter (is_ready N) acts) is))
        (⊎_elim (λ same. absurd (both_ways (is_ready N c) is (subst (λ x. is_ready N x ≡ true) (act_same a c same) ready))) more (or_cases (act_eq a c) (is_offered a acts) offered))

role_listed : (N : Network) (q : Role) (roles : List Role) (m : Move) → member q roles ≡ true → Contains (role_moves N q) m → Contains (flat_map (role_moves N) roles) m
role_listed N q [] m is some = cc
role_listed N q (r ∷ rs) m is some = ⊎_elim
    (λ same. Contains-append_left (role_moves N r) (flat_map (role_moves N) rs) m (subst (λ y. Contains (role_moves N y) m) (role_same q r same) some))
    (λ later. Contains-append_right (role_moves N r) (flat_map (role_moves N) rs) m (role_listed N q rs m later some))
    (or_cases (role_eq q r) (member q rs) is)

-- what a step of a role is: the entry shows the role and the act, and what is taken is pending
pub record IsDeed (N : Network) (M : Mark) (q : Role) (a : Act) (outcome : NextNetwork) : Type 0 where
  pub deed : Deed
  pub entry : outcome.entry ≡ entry_of deed
  pub who : doer_of deed ≡ q
  pub act : act_of (entry_of deed) ≡ Some a
  pub mail : MailFits deed (mail M)

outcome_deed : (N : Network) (q : Role) (m : Attempt Deed Process) (outcome : NextNetwork) → deed_outcome N q m ≡ Some outcome
    → (d : Deed) × (P : Process) × (m ≡ Does d P) × (outcome.entry ≡ entry_of d)
outcome_deed N q Stuck outcome h = absurd (none_some h)
outcome_deed N q (Does d P) outcome h = (d, P, refl, ap (λ (o : NextNetwork). o.entry) (sym (some_same h)))

taken_pending : (M : Mark) (d : Deed) (k : Key) → act_of (entry_of d) ≡ Some (act.Take k) → MailFits d (mail M) → is_some (mail M k) ≡ true
taken_pending M (Takes j x l) k is fits = subst (λ i. is_some (mail M i) ≡ true) (same is) (ap is_some fits)
  where
    same : Some (act.Take j) ≡ Some (act.Take k) → j ≡ k
    same e = cc
taken_pending M (Puts j l) k is fits = cc
taken_pending M (Sets i r x v) k is fits = cc
taken_pending M (Inputs i r x v) k is fits = cc
taken_pending M (Picks i r t) k is fits = cc
taken_pending M (Chooses i r c) k is fits = cc

module _ (known : Known) (b : PlainBundle) (sound : IsSound b) where
  -- the network after a run is that of a mark
  pub reached : (H : List Entry) (N : Network) → network_run b H ≡ Some N → (M : Mark) × Marks b.cast N M
  reached H N h =
      let start : Marks b.cast (network_start b) (Still b.choreo) = record {
        fine = proper_text known b.cast b.choreo sound.formed.choreo.indices sound.choreo.connected sound.choreo.no_self_message
            (λ q is. subst (λ c. member q c ≡ true) (sym sound.formed.cast) (known.casts.same q b.choreo ∙ is));
        places = λ q. refl;
        mails = λ k. refl;
        old = λ n at. omega (arith, text_epoch b.choreo sound.formed.choreo.indices n at);
      } in
      let parts = runs_explained (setting b) (cast_unique known b sound) (sound_answers known b sound) H (network_start b) N (Still b.choreo) start h in
      (parts.0, parts.1)

  module _ (N : Network) (M : Mark) (marks : Marks b.cast N M) where
    pending_mail : (k : Key) → pending_at k N.pending ≡ mail M k
    pending_mail k = pending_is k N.pending (mail M k) (marks.mails k)

    pub mail_of_tags : MailOfTags N
    mail_of_tags k l h = mail_of_tag b.cast M marks.fine k l (sym (pending_mail k) ∙ h)

    pub deed_of : (q : Role) (a : Act) (outcome : NextNetwork) → act_step (setting b) N q a ≡ Some outcome → IsDeed N M q a outcome
    deed_of q a outcome h =
        let mails : Key → Option Load = λ k. pending_at k N.pending in
        let decide : ScopeHead → Decision = λ head. decision b.cast N.updates head (book_choice b.rules N.book head (N.stores q)) in
        let did = outcome_deed N q (step q (N.stores q) (N.processes q) a (given_at (setting b) N q a)) outcome h in
        let steps : step q (N.stores q) (N.processes q) a (given_by mails decide a) ≡ Does did.0 did.1 =
        ap (step q (N.stores q) (N.processes q) a) (sym (given_same (setting b) N q a)) ∙ did.2 in
        let alike = alike_step q (N.stores q) a (given_by mails decide a) (N.processes q) (place b.cast M q) (marks.places q) steps in
        let here = found b.cast N.stores (answers_in (setting b) N) N.updates (cast_unique known b sound) M marks.fine mails decide q
        (λ j at. pending_mail j)
        (λ head is. ap (λ r. decision b.cast N.updates head (book_choice b.rules N.book head (N.stores r))) (sym is)) a alike.1 in
        record {
          deed = did.0;
          entry = did.3;
          who = here.3;
          act = steps-show_their_acts q (N.stores q) (N.processes q) a (given_at (setting b) N q a) did.0 did.1 did.2;
          mail = mail_fits b.cast N.stores (answers_in (setting b) N) N.updates here.1 marks.fine;
        }

    -- an act that can be done is ready
    ready_step : (q : Role) (a : Act) → IsSome (act_step (setting b) N q a) → is_ready N a ≡ true
    ready_step q (act.Take k) h =
        let got = some_got (act_step (setting b) N q (act.Take k)) h in
        let did = deed_of q (act.Take k) got.0 got.1 in
        ap is_some (pending_mail k) ∙ taken_pending M did.deed k did.act did.mail
    ready_step q _ h = refl

    -- a step of a role is among the moves
    pub has_move : (next : HasStep b N) → Contains (moves (setting b) N) (move.Act next.role next.act)
    has_move next = Contains-append_right (if change_due b.script N.changes N.visible && not (network_ended b.cast N) then move.Change ∷ [] else [])
        (flat_map (role_moves N) b.cast) (move.Act next.role next.act)
        (role_listed N next.role b.cast (move.Act next.role next.act) next.in_cast
        (act_listed N next.role next.act (offers next.role (N.processes next.role)) (ready_step next.role next.act next.defined) next.offered))

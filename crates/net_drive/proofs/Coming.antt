-- Which auxiliary move comes first, that a network without one is quiet, and that a played entry that may come can be done.
use Rattle.std.proofs.Common.{◌≡◌, List, [], ◌∷◌, ◌++◌, Bool, true, false, ◌&&◌, not, map, filter, flat_map, if◌then◌else◌, Option, Some, None, IsSome, is_some, refl, sym, ap, ap₂, ◌∙◌, subst, ⊎_elim}
use Rattle.std.specs.Prelude.{option_and_then}
use Rattle.std.specs.List.{find, list_any}
use Rattle.std.proofs.lemmas.Bool.{and_parts, and_from, or_left, or_right, or_cases, cases_Bool, cond-true, cond-false, both_ways}
use Rattle.std.proofs.lemmas.List.Folds.{list_any-append}
use Rattle.dioc_terms.specs.declared.names.Role.{Role}
use Rattle.dioc_terms.specs.declared.names.Index.{Index}
use Rattle.dioc_terms.specs.declared.processes.Key.{Key}
use Rattle.dioc_terms.specs.declared.entries.Act.{Act}
use Rattle.dioc_terms.specs.declared.entries.Act.TheVariants as act
use Rattle.dioc_terms.specs.declared.entries.Entry.{Entry}
use Rattle.dioc_terms.specs.declared.entries.Entry.TheVariants as entry
use Rattle.dioc_terms.specs.Equality.{role_eq, act_eq, member}
use Rattle.dioc_terms.specs.Attempts.{Attempt, Stuck, Does}
use Rattle.dioc_terms.specs.Messages.{is_aux, doer, act_of, visible}
use Rattle.dioc_terms.specs.Plain.{PlainBundle, Setting, setting}
use Rattle.dioc_terms.specs.Processes.{Process, Load}
use Rattle.process_steps.specs.Laws.{given_fits, is_done, load_fits, OffersAreSteps}
use Rattle.process_steps.specs.Steps.{Deed, Puts, Takes, Sets, Inputs, Picks, Chooses, Given, Alone, Got, entry_of, offers, is_offered, step}
use Rattle.global_steps.specs.Follow.{State, follow, play}
use Rattle.drive_laws.specs.Laws.{is_aux_act, IsQuiet}
use Rattle.drive_laws.proofs.Lost.{placed_run, follow_plays, step_by, after_that, change_ready}
use Rattle.drive_laws.proofs.PlayedParts.{played_visible, played_one}
use Rattle.marked_laws.specs.Laws.{IsSound}
use Rattle.network_steps.specs.Network.{Network, NextNetwork, given_at, pending_at, act_step, network_start, network_run, network_step, network_ended}
use Rattle.marked_laws.proofs.Acts.{step_offered}
use Rattle.marked_laws.proofs.Choices.{cast_unique, sound_answers}
use Rattle.marked_laws.proofs.Equality.{role_same, act_same, entry_itself}
use Rattle.marked_laws.proofs.Extension.{extensions}
use Rattle.marked_laws.proofs.Mails.{MailFits}
use Rattle.marked_laws.proofs.Mark.{Mark, run, mail}
use Rattle.marked_laws.proofs.Networks.{deed_outcome, network_cases}
use Rattle.marked_laws.proofs.Pending.{pending_is}
use Rattle.marked_laws.proofs.Plays.{entry_index, entry_doer}
use Rattle.marked_laws.proofs.Premise.{Known}
use Rattle.marked_laws.proofs.Shapes.{none_some, some_same}
use Rattle.marked_laws.proofs.Simulate.{Marks, answers_in, state_of, moves}
use Rattle.network_steps.specs.declared.moves.Move.{Move}
use Rattle.network_steps.specs.declared.moves.Move.TheVariants as move
use Rattle.network_steps.specs.Schedule.{change_due, is_ready, role_moves, move_step}
use Rattle.network_steps.specs.Schedule as schedule
use Rattle.net_laws.proofs.MoveLemmas.{MailOfTags, EachDone, some_got, moves_done, mail_of_tags, deed_of}
use Rattle.net_drive.specs.Driven.{is_aux_move, first_auxiliary, act_may_come, may_come}

-- an entry is auxiliary where its act is, and an entry of a role shows its index by its act
aux_by : (e : Entry) (a : Act) → act_of e ≡ Some a → is_aux e ≡ is_aux_act a
aux_by (entry.Put k n) a h = ap is_aux_act (some_same h)
aux_by (entry.Take k x) a h = ap is_aux_act (some_same h)
aux_by (entry.Set i r x v) a h = ap is_aux_act (some_same h)
aux_by (entry.Input i r x v) a h = ap is_aux_act (some_same h)
aux_by (entry.Pick i r t) a h = ap is_aux_act (some_same h)
aux_by (entry.Scope i r c) a h = ap is_aux_act (some_same h)
aux_by (entry.Add name) a h = absurd (none_some h)
aux_by (entry.Drop name) a h = absurd (none_some h)
aux_by (entry.Env key v) a h = absurd (none_some h)

abbrev act_place : Act → Index
act_place (act.Put k) = k.index
act_place (act.Take k) = k.index
act_place (act.Set i) = i
act_place (act.Input i) = i
act_place (act.Pick i) = i
act_place (act.Scope i) = i

index_by : (e : Entry) (a : Act) → act_of e ≡ Some a → entry_index e ≡ act_place a
index_by (entry.Put k n) a h = ap act_place (some_same h)
index_by (entry.Take k x) a h = ap act_place (some_same h)
index_by (entry.Set i r x v) a h = ap act_place (some_same h)
index_by (entry.Input i r x v) a h = ap act_place (some_same h)
index_by (entry.Pick i r t) a h = ap act_place (some_same h)
index_by (entry.Scope i r c) a h = ap act_place (some_same h)
index_by (entry.Add name) a h = absurd (none_some h)
index_by (entry.Drop name) a h = absurd (none_some h)
index_by (entry.Env key v) a h = absurd (none_some h)

role_act : (e : Entry) (r : Role) → doer e ≡ Some r → (a : Act) × (act_of e ≡ Some a)
role_act (entry.Put k n) r h = (act.Put k, refl)
role_act (entry.Take k x) r h = (act.Take k, refl)
role_act (entry.Set i s x v) r h = (act.Set i, refl)
role_act (entry.Input i s x v) r h = (act.Input i, refl)
role_act (entry.Pick i s t) r h = (act.Pick i, refl)
role_act (entry.Scope i s c) r h = (act.Scope i, refl)
role_act (entry.Add name) r h = absurd (none_some h)
role_act (entry.Drop name) r h = absurd (none_some h)
role_act (entry.Env key v) r h = absurd (none_some h)

-- the first that passes does so
find_passes : (p : Move → Bool) (ms : List Move) (m : Move) → find p ms ≡ Some m → p m ≡ true
find_passes p [] m h = absurd (none_some h)
find_passes p (x ∷ ms) m h = ⊎_elim
    (λ yes. subst (λ y. p y ≡ true) (some_same (sym (cond-true (p x) (Some x) (find p ms) yes) ∙ h)) yes)
    (λ no. find_passes p ms m (sym (cond-false (p x) (Some x) (find p ms) no) ∙ h)) (cases_Bool (p x))

-- a move that passes makes one be found, and what is found can be done where each can
found_done : (b : Setting) (N : Network) (p : Move → Bool) (ms : List Move) → EachDone b N ms → list_any p ms ≡ true
    → (outcome : NextNetwork) × (option_and_then (move_step b N) (find p ms) ≡ Some outcome)
found_done b N p [] each h = absurd (both_ways false refl h)
found_done b N p (x ∷ ms) each h = ⊎_elim
    (λ yes. let got = some_got (move_step b N x) each.0 in
    (got.0, ap (option_and_then (move_step b N)) (cond-true (p x) (Some x) (find p ms) yes) ∙ got.1))
    (λ no. let rest = found_done b N p ms each.1 (⊎_elim (λ yes. absurd (both_ways (p x) no yes)) (λ later. later) (or_cases (p x) (list_any p ms) h)) in
    (rest.0, ap (option_and_then (move_step b N)) (cond-false (p x) (Some x) (find p ms) no) ∙ rest.1))
    (cases_Bool (p x))

-- an auxiliary act that is offered and ready is among the moves
aux_acts : (N : Network) (q : Role) (a : Act) (acts : List Act) → is_ready N a ≡ true → is_aux_act a ≡ true → is_offered a acts ≡ true
    → list_any is_aux_move (map (move.Act q) (filter (is_ready N) acts)) ≡ true
aux_acts N q a [] ready aux offered = absurd (both_ways false refl offered)
aux_acts N q a (c ∷ acts) ready aux offered = ⊎_elim
    (λ is. ap (λ l. list_any is_aux_move (map (move.Act q) l)) (cond-true (is_ready N c) (c ∷ filter (is_ready N) acts) (filter (is_ready N) acts) is)
    ∙ ⊎_elim
    (λ same. or_left (is_aux_act c) (list_any is_aux_move (map (move.Act q) (filter (is_ready N) acts))) (subst (λ x. is_aux_act x ≡ true) (act_same a c same) aux))
    (λ later. or_right (is_aux_act c) (list_any is_aux_move (map (move.Act q) (filter (is_ready N) acts))) (aux_acts N q a acts ready aux later))
    (or_cases (act_eq a c) (is_offered a acts) offered))
    (λ not_it. ap (λ l. list_any is_aux_move (map (move.Act q) l)) (cond-false (is_ready N c) (c ∷ filter (is_ready N) acts) (filter (is_ready N) acts) not_it)
    ∙ ⊎_elim
    (λ same. absurd (both_ways (is_ready N c) not_it (subst (λ x. is_ready N x ≡ true) (act_same a c same) ready)))
    (λ later. aux_acts N q a acts ready aux later)
    (or_cases (act_eq a c) (is_offered a acts) offered))
    (cases_Bool (is_ready N c))

aux_roles : (N : Network) (q : Role) (roles : List Role) → member q roles ≡ true → list_any is_aux_move (role_moves N q) ≡ true
    → list_any is_aux_move (flat_map (role_moves N) roles) ≡ true
aux_roles N q [] in_it some = absurd (both_ways false refl in_it)
aux_roles N q (r ∷ rs) in_it some = list_any-append is_aux_move (role_moves N r) (flat_map (role_moves N) rs) ∙ ⊎_elim
    (λ same. or_left (list_any is_aux_move (role_moves N r)) (list_any is_aux_move (flat_map (role_moves N) rs))
    (subst (λ y. list_any is_aux_move (role_moves N y) ≡ true) (role_same q r same) some))
    (λ later. or_right (list_any is_aux_move (role_moves N r)) (list_any is_aux_move (flat_map (role_moves N) rs)) (aux_roles N q rs later some))
    (or_cases (role_eq q r) (member q rs) in_it)

taken_pending : (M : Mark) (d : Deed) (k : Key) → act_of (entry_of d) ≡ Some (act.Take k) → MailFits d (mail M) → is_some (mail M k) ≡ true
taken_pending M (Takes j x l) k is fits = subst (λ i. is_some (mail M i) ≡ true) (same is) (ap is_some fits)
  where
    same : Some (act.Take j) ≡ Some (act.Take k) → j ≡ k
    same e = cc
taken_pending M (Puts j l) k is fits = cc
taken_pending M (Sets i r x v) k is fits = cc
taken_pending M (Inputs i r x v) k is fits = cc
taken_pending M (Picks i r t) k is fits = cc
taken_pending M (Chooses i r c) k is fits = cc

abbrev message_given : Option Load → Given
message_given None = Alone
message_given (Some l) = Got l

take_fits : (k : Key) (o : Option Load) → is_some o ≡ true → ((l : Load) → o ≡ Some l → load_fits k.tag l ≡ true) → given_fits (act.Take k) (message_given o) ≡ true
take_fits k None ready fits = cc
take_fits k (Some l) ready fits = fits l refl

fits_given : (b : Setting) (N : Network) (q : Role) (a : Act) → MailOfTags N → is_ready N a ≡ true → given_fits a (given_at b N q a) ≡ true
fits_given b N q (act.Take k) pending ready = take_fits k (pending_at k N.pending) ready (pending k)
fits_given b N q (act.Scope i) pending ready = refl
fits_given b N q _ pending ready = refl

done_outcome : (N : Network) (q : Role) (m : Attempt Deed Process) → is_done m ≡ true → IsSome (deed_outcome N q m)
done_outcome N q Stuck h = cc
done_outcome N q (Does d P) h = refl

did_act : (N : Network) (q : Role) (m : Attempt Deed Process) (outcome : NextNetwork) → deed_outcome N q m ≡ Some outcome → (d : Deed) × (P : Process) × (m ≡ Does d P)
did_act N q Stuck outcome h = absurd (none_some h)
did_act N q (Does d P) outcome h = (d, P, refl)

module _ (known : Known) (offered_steps : OffersAreSteps) (b : PlainBundle) (sound : IsSound b) where
  -- one more step of a run
  pub one_more : (H : List Entry) (N : Network) (e : Entry) (N' : Network) → network_run b H ≡ Some N → network_step (setting b) N e ≡ Some N'
      → network_run b (H ++ e ∷ []) ≡ Some N'
  one_more H N e N' runs steps = extensions.run_one (setting b) (network_start b) H e ∙ ap (option_and_then (λ M. network_step (setting b) M e)) runs ∙ steps

  module _ (H : List Entry) (N : Network) (runs : network_run b H ≡ Some N) where
    -- what an act that is done says: its entry is a step of the network, and it was offered and ready
    pub record ActDone (q : Role) (a : Act) (outcome : NextNetwork) : Type 0 where
      pub steps : network_step (setting b) N outcome.entry ≡ Some outcome.network
      pub shows : act_of outcome.entry ≡ Some a
      pub offered : is_offered a (offers q (N.processes q)) ≡ true
      pub ready : is_ready N a ≡ true

    pub act_done : (q : Role) (a : Act) (outcome : NextNetwork) → act_step (setting b) N q a ≡ Some outcome → ActDone q a outcome
    act_done q a outcome h =
        let placed = placed_run known b H N sound runs in
        let M : Mark = placed.0 in
        let marks = (placed.1).marks in
        let did = deed_of known b sound N M marks q a outcome h in
        let shows : act_of outcome.entry ≡ Some a = ap act_of did.entry ∙ did.act in
        let acted = did_act N q (step q (N.stores q) (N.processes q) a (given_at (setting b) N q a)) outcome h in
        record {
          steps = step_by (setting b) N outcome.entry q a (ap doer did.entry ∙ entry_doer did.deed ∙ ap Some did.who) shows
              ∙ after_that outcome.entry (act_step (setting b) N q a) outcome.entry outcome.network h (entry_itself outcome.entry);
          shows = shows;
          offered = step_offered q (N.stores q) (N.processes q) a (given_at (setting b) N q a) acted.2;
          ready = ready_of M marks did.deed did.act did.mail a refl;
        }
      where
        ready_of : (M : Mark) → Marks b.cast N M → (d : Deed) → act_of (entry_of d) ≡ Some a → MailFits d (mail M) → (c : Act) → c ≡ a → is_ready N c ≡ true
        ready_of M marks d is fits (act.Take k) same =
            ap is_some (pending_is k N.pending (mail M k) (marks.mails k)) ∙ taken_pending M d k (is ∙ ap Some (sym same)) fits
        ready_of M marks d is fits (act.Put k) same = refl
        ready_of M marks d is fits (act.Set i) same = refl
        ready_of M marks d is fits (act.Input i) same = refl
        ready_of M marks d is fits (act.Pick i) same = refl
        ready_of M marks d is fits (act.Scope i) same = refl

    -- an act that is offered and ready can be done
    pub act_goes : (q : Role) (a : Act) → is_offered a (offers q (N.processes q)) ≡ true → is_ready N a ≡ true
        → (outcome : NextNetwork) × (act_step (setting b) N q a ≡ Some outcome)
    act_goes q a offered ready =
        let placed = placed_run known b H N sound runs in
        let pending : MailOfTags N = mail_of_tags known b sound N placed.0 (placed.1).marks in
        some_got (act_step (setting b) N q a) (done_outcome N q (step q (N.stores q) (N.processes q) a (given_at (setting b) N q a))
        (offered_steps.exactly q (N.stores q) (N.processes q) a (given_at (setting b) N q a) (fits_given (setting b) N q a pending ready) ∙ offered))

    -- the first auxiliary move is a step of the network, by an auxiliary entry
    pub aux_found : (outcome : NextNetwork) → first_auxiliary (setting b) N ≡ Some outcome
        → (network_step (setting b) N outcome.entry ≡ Some outcome.network) × (is_aux outcome.entry ≡ true)
    aux_found outcome h = by_find (find is_aux_move (schedule.moves (setting b) N)) refl h
      where
        by_move : (m : Move) → is_aux_move m ≡ true → move_step (setting b) N m ≡ Some outcome
            → (network_step (setting b) N outcome.entry ≡ Some outcome.network) × (is_aux outcome.entry ≡ true)
        by_move move.Change aux k = absurd (both_ways false refl aux)
        by_move (move.Act q a) aux k = let done = act_done q a outcome k in (done.steps, aux_by outcome.entry a done.shows ∙ aux)

        by_find : (o : Option Move) → find is_aux_move (schedule.moves (setting b) N) ≡ o → option_and_then (move_step (setting b) N) o ≡ Some outcome
            → (network_step (setting b) N outcome.entry ≡ Some outcome.network) × (is_aux outcome.entry ≡ true)
        by_find None is k = absurd (none_some k)
        by_find (Some m) is k = by_move m (find_passes is_aux_move (schedule.moves (setting b) N) m is) k

    -- where there is none the network is quiet
    pub none_quiet : first_auxiliary (setting b) N ≡ None → IsQuiet (setting b) N
    none_quiet none q a in_it aux = by_step (act_step (setting b) N q a) refl
      where
        by_step : (o : Option NextNetwork) → act_step (setting b) N q a ≡ o → act_step (setting b) N q a ≡ None
        by_step None h = h
        by_step (Some outcome) h =
            let done = act_done q a outcome h in
            let placed = placed_run known b H N sound runs in
            let each = moves_done offered_steps b N (mail_of_tags known b sound N placed.0 (placed.1).marks) sound in
            let changes : List Move = if change_due b.script N.changes N.visible && not (network_ended b.cast N) then move.Change ∷ [] else [] in
            let some : list_any is_aux_move (schedule.moves (setting b) N) ≡ true =
            list_any-append is_aux_move changes (flat_map (role_moves N) b.cast)
            ∙ or_right (list_any is_aux_move changes) (list_any is_aux_move (flat_map (role_moves N) b.cast))
            (aux_roles N q b.cast in_it (aux_acts N q a (offers q (N.processes q)) done.ready aux done.offered)) in
            absurd (none_some (sym none ∙ (found_done (setting b) N is_aux_move (schedule.moves (setting b) N) each some).1))

    -- an entry that the network can do may come
    pub step_may : (e : Entry) (N' : Network) → network_step (setting b) N e ≡ Some N' → may_come N e ≡ true
    step_may e N' h = ⊎_elim
        (λ s.
        let done = act_done s.role s.act _ (ap (deed_outcome N s.role) s.steps) in
        ap₂ (act_may_come N) s.does s.acts
        ∙ and_from (is_offered s.act (offers s.role (N.processes s.role))) (is_ready N s.act) done.offered done.ready)
        (λ s. ap (λ o. act_may_come N o (act_of e)) s.nobody)
        (network_cases (setting b) N e N' h)

    -- an entry that is played and that may come can be done
    pub comes : (S T : State) (e : Entry) → play b (visible H) ≡ Some S → follow (setting b) S e ≡ Some T → may_come N e ≡ true
        → (N' : Network) × (network_step (setting b) N e ≡ Some N')
    comes S T e played follows may = by_doer (doer e) refl
      where
        by_doer : (o : Option Role) → doer e ≡ o → (N' : Network) × (network_step (setting b) N e ≡ Some N')
        by_doer None who =
            let placed = placed_run known b H N sound runs in
            let same : S ≡ state_of N placed.0 = some_same (sym played ∙ placed.2) in
            some_got (network_step (setting b) N e) (change_ready (setting b) N placed.0 e T who (ap (λ X. follow (setting b) X e) (sym same) ∙ follows))
        by_doer (Some r) who =
            let placed = placed_run known b H N sound runs in
            let M : Mark = placed.0 in
            let marks = (placed.1).marks in
            let same : S ≡ state_of N M = some_same (sym played ∙ placed.2) in
            let shown = role_act e r who in
            let a : Act = shown.0 in
            let parts = and_parts (is_offered a (offers r (N.processes r))) (is_ready N a) (sym (ap₂ (act_may_come N) who shown.1) ∙ may) in
            let goes = act_goes r a parts.0 parts.1 in
            let outcome : NextNetwork = goes.0 in
            let done = act_done r a outcome goes.1 in
            let here = follow_plays (setting b) (state_of N M) e r T who (ap (λ X. follow (setting b) X e) (sym same) ∙ follows) in
            let seen : is_aux e ≡ false = played_visible b.cast N.stores (answers_in (setting b) N) N.updates (run M) e here.2 in
            let moved = moves (setting b) (cast_unique known b sound) (sound_answers known b sound) N M outcome.entry outcome.network marks done.steps in
            ⊎_elim
            (λ aux. absurd (both_ways (is_aux e) seen (aux_by e a shown.1 ∙ sym (aux_by outcome.entry a done.shows) ∙ aux.0)))
            (λ plays.
            let its = deed_of known b sound N M marks r a outcome goes.1 in
            let other = follow_plays (setting b) (state_of N M) outcome.entry r (state_of outcome.network moved.mark)
            (ap doer its.entry ∙ entry_doer its.deed ∙ ap Some its.who) plays.1 in
            let one : e ≡ outcome.entry = played_one b.cast N.stores (answers_in (setting b) N) N.updates M marks.fine e outcome.entry
            (index_by e a shown.1 ∙ sym (index_by outcome.entry a done.shows)) here other in
            (outcome.network, subst (λ f. network_step (setting b) N f ≡ Some outcome.network) (sym one) done.steps))
            moved.shown

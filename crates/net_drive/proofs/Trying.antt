-- What became of an entry that was tried, and which auxiliary move an agenda has first.
use Rattle.std.proofs.Common.{◌≡◌, ◌<◌, ◌+◌, ℕ, List, [], ◌∷◌, ◌++◌, length, drop, get_or, Bool, true, false, Option, Some, None, slice_get, refl, sym, ap, ap₂, ◌∙◌, subst, inl, inr, arith, length-append}
use Rattle.std.specs.Prelude.{flat_map, if◌then◌else◌, map, option_and_then, option_map}
use Rattle.std.specs.List.{find}
use Rattle.std.specs.Option.{option_map_or, option_or}
use Rattle.std.proofs.lemmas.Bool.{and_from, and_parts, both_ways, cond-false, cond-true}
use Rattle.std.proofs.lemmas.List.{drop_more}
use Rattle.std.proofs.lemmas.List.Folds.{find-append}
use Rattle.dioc_terms.specs.declared.entries.Act.{Act}
use Rattle.dioc_terms.specs.declared.entries.Entry.{Entry}
use Rattle.dioc_terms.specs.declared.names.Role.{Role}
use Rattle.dioc_terms.specs.Equality.{entry_eq}
use Rattle.dioc_terms.specs.Messages.{act_of, doer}
use Rattle.dioc_terms.specs.Plain.{setting}
use Rattle.drive_laws.specs.Laws.{is_aux_act}
use Rattle.net_core.proofs.Choosing.{chosen_first, place_inside}
use Rattle.net_core.specs.MovesIn.{are_places, chosen}
use Rattle.network_steps.specs.Network.{Network, NextNetwork, act_step, network_after, network_step}
use Rattle.marked_laws.proofs.Premise.{Known}
use Rattle.marked_laws.proofs.Shapes.{none_some}
use Rattle.network_steps.specs.declared.moves.Move.{Move}
use Rattle.network_steps.specs.declared.moves.Move.TheVariants as move
use Rattle.network_steps.specs.Schedule.{is_ready, move_step}
use Rattle.net_drive.specs.declared.entries.Tried.TheVariants as tried
use Rattle.net_drive.specs.Driven.{act_may_come, first_auxiliary, is_aux_move, may_come}
use Rattle.net_drive.specs.Driving.{DrivesOn, IsStuckAt, IsTried, IsTurn, judged}
use Rattle.net_drive.specs.Making.{Makes, move_by, shown_move}
use Rattle.net_drive.proofs.Coming.{act_done, act_goes, aux_found, step_may}
use Rattle.net_drive.proofs.Redone.{noted_is, redoes_noted, step_shown}
use Rattle.net_drive.proofs.OnTheWay.{aux_on}
use Rattle.process_steps.specs.Laws.{OffersAreSteps}
use Rattle.process_steps.specs.Steps.{is_offered, offers}
use Rattle.net_core.specs.Nets.{IsSoundRun, NetState, network_of}
use Rattle.net_core.specs.Steps.{GoesOn}
use Rattle.schedule.specs.declared.roles.ReadyRole.{ReadyRole}
use Rattle.schedule.proofs.AgendaLemmas.{is_due, moves_are}
use Rattle.schedule.specs.Agendas.{Shown, agenda_of, moves_of, ready_seen}
use Rattle.schedule.specs.Turns.{IsMoveOf}

pub longer : (old new : NetState) (outcome : NextNetwork) → GoesOn old outcome new → length old.history < length new.history
longer old new outcome goes = omega (arith, ap length goes.history, length-append old.history (outcome.entry ∷ []))

-- ---- an entry that is tried

pub move_made : (old new : NetState) (m : Move) → Makes (move_step (setting old.bundle) (network_of old) m) old new true → IsMoveOf old m new
move_made old new m made = record { outcome = made.0; steps = made.1; goes = made.2 }

module _ (known : Known) (offered_steps : OffersAreSteps) (old : NetState) (run : IsSoundRun old) where
  may_by_step : (o : Option Role) (a : Option Act) (outcome : NextNetwork) → move_step (setting old.bundle) (network_of old) (move_by o a) ≡ Some outcome
      → act_may_come (network_of old) o a ≡ true
  may_by_step None a outcome h = refl
  may_by_step (Some r) None outcome h = refl
  may_by_step (Some r) (Some a) outcome h =
      let done = act_done known offered_steps old.bundle run.sound old.history (network_of old) run.runs r a outcome h in
      and_from (is_offered a (offers r ((network_of old).processes r))) (is_ready (network_of old) a) done.offered done.ready

  waits_by_none : (r : Role) (a : Act) → act_step (setting old.bundle) (network_of old) r a ≡ None → act_may_come (network_of old) (Some r) (Some a) ≡ false
  waits_by_none r a none = by_test (act_may_come (network_of old) (Some r) (Some a)) refl
    where
      by_test : (t : Bool) → act_may_come (network_of old) (Some r) (Some a) ≡ t → act_may_come (network_of old) (Some r) (Some a) ≡ false
      by_test false is = is
      by_test true is =
          let parts = and_parts (is_offered a (offers r ((network_of old).processes r))) (is_ready (network_of old) a) is in
          absurd (none_some (sym none ∙ (act_goes known offered_steps old.bundle run.sound old.history (network_of old) run.runs r a parts.0 parts.1).1))

  module _ (new : NetState) (e : Entry) where
    -- the move that it shows was made
    came : (noted : Bool) → Makes (move_step (setting old.bundle) (network_of old) (shown_move e)) old new true
        → noted ≡ option_map_or (entry_eq e) (slice_get new.history (length old.history)) false → IsTried old e new (judged (shown_move e) true noted)
    came true made is = record {
      may = may_by_step (doer e) (act_of e) made.0 made.1;
      steps = step_shown (setting old.bundle) (network_of old) e
          ∙ ap (network_after e) made.1
          ∙ cond-true (entry_eq e (made.0).entry) (Some (made.0).network) None (sym (noted_is old new e true made.0 made.2 is))
          ∙ ap Some (sym (made.2).network);
      history = redoes_noted old new e true made is;
      made = move_made old new (shown_move e) made;
    }
    came false made is =
        (may_by_step (doer e) (act_of e) made.0 made.1, redoes_noted old new e false made is)

    -- it was not
    stayed : (noted : Bool) → Makes (move_step (setting old.bundle) (network_of old) (shown_move e)) old new false → IsTried old e new (judged (shown_move e) false noted)
    stayed noted made = by_doer (doer e) (act_of e) refl refl made.0
      where
        none : network_step (setting old.bundle) (network_of old) e ≡ None
        none = step_shown (setting old.bundle) (network_of old) e ∙ ap (network_after e) made.0

        by_doer : (o : Option Role) (a : Option Act) → doer e ≡ o → act_of e ≡ a → move_step (setting old.bundle) (network_of old) (move_by o a) ≡ None
            → IsTried old e new (judged (move_by o a) false noted)
        by_doer None a who shows h = (ap (λ o. act_may_come (network_of old) o (act_of e)) who, none)
        by_doer (Some r) None who shows h = (ap₂ (act_may_come (network_of old)) who shows, none)
        by_doer (Some r) (Some a) who shows h = (ap₂ (act_may_come (network_of old)) who shows ∙ waits_by_none r a h, made.1)

    pub tried_by : (made noted : Bool) → Makes (move_step (setting old.bundle) (network_of old) (shown_move e)) old new made
        → noted ≡ option_map_or (entry_eq e) (slice_get new.history (length old.history)) false → IsTried old e new (judged (shown_move e) made noted)
    tried_by true noted h is = came noted h is
    tried_by false noted h is = stayed noted h

  -- an entry that may not come, where no auxiliary move is left
  pub stuck_waiting : (e : Entry) → may_come (network_of old) e ≡ false → first_auxiliary (setting old.bundle) (network_of old) ≡ None → IsStuckAt old e
  stuck_waiting e waits none = record {
    history = old.history;
    network = network_of old;
    runs = run.runs;
    shows = refl;
    strays = by_step (network_step (setting old.bundle) (network_of old) e) refl;
    why = inr none;
  }
    where
      by_step : (o : Option Network) → network_step (setting old.bundle) (network_of old) e ≡ o → network_step (setting old.bundle) (network_of old) e ≡ None
      by_step None is = is
      by_step (Some N) is =
          absurd (both_ways (may_come (network_of old) e) waits
          (step_may known offered_steps old.bundle run.sound old.history (network_of old) run.runs e N is))

  -- and one that may come
  pub stuck_coming : (e : Entry) → may_come (network_of old) e ≡ true → network_step (setting old.bundle) (network_of old) e ≡ None → IsStuckAt old e
  stuck_coming e may none = record {
    history = old.history;
    network = network_of old;
    runs = run.runs;
    shows = refl;
    strays = none;
    why = inl may;
  }

  -- ---- a turn towards an entry

  pub turn_strays : (e : Entry) (new : NetState) → IsTried old e new tried.Strays → IsTurn old e new tried.Strays
  turn_strays e new h = stuck_coming e h.0 h.1

  module _ (e : Entry) (between new : NetState) (waits : IsTried old e between tried.Waits) where
    made_from : (made : Bool) → Makes (first_auxiliary (setting between.bundle) (network_of between)) between new made
        → Makes (first_auxiliary (setting old.bundle) (network_of old)) old new made
    made_from made = subst (λ (net : NetState). Makes (first_auxiliary (setting net.bundle) (network_of net)) net new made) waits.1

    pub turn_waits : Makes (first_auxiliary (setting between.bundle) (network_of between)) between new true → IsTurn old e new tried.Waits
    turn_waits h =
        let made = made_from true h in
        let aux = aux_found known offered_steps old.bundle run.sound old.history (network_of old) run.runs made.0 made.1 in
        (longer old new made.0 made.2, λ rest. aux_on old new (e ∷ rest) made.0 made.1 aux.1 made.2 waits.0)

    pub turn_stuck : Makes (first_auxiliary (setting between.bundle) (network_of between)) between new false → IsTurn old e new tried.Strays
    turn_stuck h = stuck_waiting e waits.0 (made_from false h).0

  -- a turn without an entry
  pub turn_on : (new : NetState) (h : Makes (first_auxiliary (setting old.bundle) (network_of old)) old new true) → DrivesOn old new [] []
  turn_on new made =
      let aux = aux_found known offered_steps old.bundle run.sound old.history (network_of old) run.runs made.0 made.1 in
      aux_on old new [] made.0 made.1 aux.1 made.2 tt

-- ---- the first auxiliary move of an agenda

pub found_in : (q : Role) (acts : List Act) → find is_aux_move (map (move.Act q) acts) ≡ option_map (move.Act q) (find is_aux_act acts)
found_in q [] = refl
found_in q (a ∷ acts) = by_test (is_aux_act a) (found_in q acts)
  where
    by_test : (t : Bool) → find is_aux_move (map (move.Act q) acts) ≡ option_map (move.Act q) (find is_aux_act acts)
        → (if t then Some (move.Act q a) else find is_aux_move (map (move.Act q) acts)) ≡ option_map (move.Act q) (if t then Some a else find is_aux_act acts)
    by_test true rest = refl
    by_test false rest = rest

-- in the first of the roles that has one
pub found_first : (ready : Shown) (rest : List Shown) (o : Option Act) → find is_aux_act ready.1 ≡ o
    → find is_aux_move (flat_map moves_of (ready ∷ rest)) ≡ option_or (option_map (move.Act ready.0) o) (find is_aux_move (flat_map moves_of rest))
found_first ready rest o is =
    find-append is_aux_move (moves_of ready) (flat_map moves_of rest)
    ∙ ap (λ x. option_or x (find is_aux_move (flat_map moves_of rest))) (found_in ready.0 ready.1 ∙ ap (option_map (move.Act ready.0)) is)

module _ (agenda : List ReadyRole) (i : ℕ) (ready : ReadyRole) (lt : i < length agenda) (is : ready ≡ get_or agenda i ready) where
  left_from : map ready_seen (drop i agenda) ≡ ready_seen ready ∷ map ready_seen (drop (i + 1) agenda)
  left_from = ap (map ready_seen) (drop_more agenda i ready lt ∙ ap (λ r. r ∷ drop (i + 1) agenda) (sym is))

  found_at : (o : Option Act) → find is_aux_act (ready_seen ready).1 ≡ o
      → find is_aux_move (flat_map moves_of (map ready_seen (drop i agenda)))
      ≡ option_or (option_map (move.Act ready.role) o) (find is_aux_move (flat_map moves_of (map ready_seen (drop (i + 1) agenda))))
  found_at o h = ap (λ l. find is_aux_move (flat_map moves_of l)) left_from ∙ found_first (ready_seen ready) (map ready_seen (drop (i + 1) agenda)) o h

  pub found_here : (a : Act) → find is_aux_act (ready_seen ready).1 ≡ Some a
      → find is_aux_move (flat_map moves_of (map ready_seen (drop i agenda))) ≡ Some (move.Act ready.role a)
  found_here a h = found_at (Some a) h

  pub found_later : find is_aux_act (ready_seen ready).1 ≡ None
      → find is_aux_move (flat_map moves_of (map ready_seen (drop i agenda))) ≡ find is_aux_move (flat_map moves_of (map ready_seen (drop (i + 1) agenda)))
  found_later h = found_at None h

-- the act at the next of the places
module _ (acts : List Act) (places : List ℕ) (i : ℕ) (a : Act) (inside : are_places places acts ≡ true) (lt : i < length places) (is : a ≡ get_or acts (get_or places i 0) a) where
  chosen_next : chosen (drop i places) acts ≡ a ∷ chosen (drop (i + 1) places) acts
  chosen_next =
      ap (λ ps. chosen ps acts) (drop_more places i 0 lt)
      ∙ chosen_first acts (get_or places i 0) (drop (i + 1) places) a (place_inside acts places i inside lt)
      ∙ ap (λ x. x ∷ chosen (drop (i + 1) places) acts) (sym is)

  pub aux_here : is_aux_act a ≡ true → find is_aux_act (chosen (drop i places) acts) ≡ Some a
  aux_here h = ap (find is_aux_act) chosen_next ∙ cond-true (is_aux_act a) (Some a) (find is_aux_act (chosen (drop (i + 1) places) acts)) h

  pub aux_later : is_aux_act a ≡ false → find is_aux_act (chosen (drop i places) acts) ≡ find is_aux_act (chosen (drop (i + 1) places) acts)
  aux_later h = ap (find is_aux_act) chosen_next ∙ cond-false (is_aux_act a) (Some a) (find is_aux_act (chosen (drop (i + 1) places) acts)) h

-- of an agenda of a net it is the first of its moves
pub first_of_agenda : (net : NetState) (agenda : List Shown) → agenda ≡ agenda_of net
    → first_auxiliary (setting net.bundle) (network_of net) ≡ option_and_then (move_step (setting net.bundle) (network_of net)) (find is_aux_move (flat_map moves_of agenda))
first_of_agenda net agenda is =
    ap (λ ms. option_and_then (move_step (setting net.bundle) (network_of net)) (find is_aux_move ms)) (moves_are net)
    ∙ ap (option_and_then (move_step (setting net.bundle) (network_of net))) (by_due (is_due net))
    ∙ ap (λ l. option_and_then (move_step (setting net.bundle) (network_of net)) (find is_aux_move (flat_map moves_of l))) (sym is)
  where
    by_due : (t : Bool) → find is_aux_move ((if t then move.Change ∷ [] else []) ++ flat_map moves_of (agenda_of net)) ≡ find is_aux_move (flat_map moves_of (agenda_of net))
    by_due true = refl
    by_due false = refl

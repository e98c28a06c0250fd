-- Driving a trace: each settled trace that the choreography plays is driven, and what is driven is a run that shows the trace.
use Rattle.std.proofs.Common.{◌≡◌, ◌≤◌, ℕ, zero, suc, ◌+◌, ◌*◌, List, [], ◌∷◌, ◌++◌, length, Bool, true, false, not, Option, Some, None, IsSome, IfSome, refl, sym, ap, ◌∙◌, subst, arith, length-append, append-nil}
use Rattle.std.specs.Prelude.{option_and_then}
use Rattle.std.specs.List.{list_all}
use Rattle.std.specs.Option.{option_map_or}
use Rattle.std.proofs.lemmas.Bool.{and_parts, cond-true, cond-false, both_ways, not-true, not_from_true, not_from_false}
use Rattle.std.proofs.lemmas.List.Elements.{filter-append}
use Rattle.dioc_terms.specs.declared.names.Role.{Role}
use Rattle.dioc_terms.specs.declared.entries.Entry.{Entry}
use Rattle.dioc_terms.specs.declared.entries.Entry.TheVariants as entry
use Rattle.dioc_terms.specs.Messages.{is_aux, doer, visible}
use Rattle.dioc_terms.specs.Plain.{PlainBundle, Setting, setting}
use Rattle.process_steps.specs.Laws.{OffersAreSteps}
use Rattle.global_steps.specs.Follow.{State, book_choice, follow, play, play_from, play_start}
use Rattle.global_steps.specs.Settled.{SettledFrom}
use Rattle.global_steps.proofs.Lemmas.{plays-go_on}
use Rattle.drive_laws.specs.Laws.{IsQuiet, Readiness, AuxiliaryEnds}
use Rattle.drive_laws.proofs.Lost.{follow_plays}
use Rattle.drive_laws.proofs.PlayedParts.{played_visible}
use Rattle.marked_laws.specs.Laws.{IsSound}
use Rattle.network_steps.specs.Network.{Network, NextNetwork, network_run, network_step, run_from}
use Rattle.marked_laws.proofs.Premise.{Known}
use Rattle.marked_laws.proofs.Shapes.{none_some, some_same}
use Rattle.net_laws.proofs.MoveLemmas.{some_got}
use Rattle.net_drive.specs.Driven.{first_auxiliary, may_come, put_before, driven_from}
use Rattle.net_drive.proofs.Coming.{one_more, aux_found, none_quiet, step_may, comes}

-- what is visible of one entry more
pub visible_aux : (H : List Entry) (e : Entry) → is_aux e ≡ true → visible (H ++ e ∷ []) ≡ visible H
visible_aux H e h =
    filter-append (λ x. not (is_aux x)) H (e ∷ []) ∙ ap (λ l. visible H ++ l) (cond-false (not (is_aux e)) (e ∷ []) [] (not_from_true (is_aux e) h))
    ∙ append-nil (visible H)

pub visible_shown : (H : List Entry) (e : Entry) → is_aux e ≡ false → visible (H ++ e ∷ []) ≡ visible H ++ e ∷ []
visible_shown H e h =
    filter-append (λ x. not (is_aux x)) H (e ∷ []) ∙ ap (λ l. visible H ++ l) (cond-true (not (is_aux e)) (e ∷ []) [] (not_from_false (is_aux e) h))

-- an entry that is played is visible
pub follow_shown : (b : Setting) (S T : State) (e : Entry) → follow b S e ≡ Some T → is_aux e ≡ false
follow_shown b S T e h = by_doer (doer e) refl
  where
    nobody_shown : (f : Entry) → doer f ≡ None → is_aux f ≡ false
    nobody_shown (entry.Add name) k = refl
    nobody_shown (entry.Drop name) k = refl
    nobody_shown (entry.Env key v) k = refl
    nobody_shown f k = absurd (none_some (sym k))

    by_doer : (o : Option Role) → doer e ≡ o → is_aux e ≡ false
    by_doer None who = nobody_shown e who
    by_doer (Some r) who = let played = follow_plays b S e r T who h in
        played_visible b.cast S.stores (λ head. book_choice b.rules S.book head (S.stores head.leader)) S.updates S.running e played.2

-- a play of one entry more, and what is left of a play
pub play_more : (b : PlainBundle) (t : List Entry) (S T : State) (e : Entry) → play b t ≡ Some S → follow (setting b) S e ≡ Some T → play b (t ++ e ∷ []) ≡ Some T
play_more b t S T e h k =
    plays-go_on.appended (setting b) (play_start b) t (e ∷ []) ∙ ap (option_and_then (λ next. play_from (setting b) next (e ∷ []))) h
    ∙ ap (option_and_then (λ next. Some next)) k

pub and_then_got : {A B : Type 0} (o : Option A) (f : A → Option B) (y : B) → option_and_then f o ≡ Some y → (x : A) × (o ≡ Some x) × (f x ≡ Some y)
and_then_got None f y h = absurd (none_some h)
and_then_got (Some x) f y h = (x, refl, h)

put_got : (e : Entry) (o : Option (List Entry)) (es : List Entry) → put_before e o ≡ Some es → (rest : List Entry) × (o ≡ Some rest) × (es ≡ e ∷ rest)
put_got e None es h = absurd (none_some h)
put_got e (Some rest) es h = (rest, refl, sym (some_same h))

if_is : {A : Type 0} (P : A → Type 0) (o : Option A) (a : A) → o ≡ Some a → IfSome o P → P a
if_is P o a h p = subst (λ x. IfSome x P) h p

-- the turns suffice
no_room : (v l w h : ℕ) → suc ((v + l) * w) ≤ 0 + h → h ≤ v * w → ⊥
no_room v l w h few many = omega (arith, few, many)

room_left : (p c h k : ℕ) → suc p ≤ suc c + h → k ≡ h + 1 → suc p ≤ c + k
room_left p c h k room is = omega (arith, room, is)

same_sum : (v w l : ℕ) → w ≡ v + 1 → w + l ≡ v + suc l
same_sum v w l h = omega (arith, h)

-- what is driven: a run from the network that shows the trace, to a network without auxiliary moves
pub record Drove (b : Setting) (N : Network) (t es : List Entry) : Type 0 where
  pub network : Network
  pub runs : run_from b N es ≡ Some network
  pub shows : visible es ≡ t
  pub quiet : IsQuiet b network

-- one entry before
drove_aux : (b : Setting) (N N' : Network) (e : Entry) (t es : List Entry) → network_step b N e ≡ Some N' → is_aux e ≡ true → Drove b N' t es → Drove b N t (e ∷ es)
drove_aux b N N' e t es steps aux rest = record {
  network = rest.network;
  runs = ap (option_and_then (λ next. run_from b next es)) steps ∙ rest.runs;
  shows = cond-false (not (is_aux e)) (e ∷ visible es) (visible es) (not_from_true (is_aux e) aux) ∙ rest.shows;
  quiet = rest.quiet;
}

drove_shown : (b : Setting) (N N' : Network) (e : Entry) (t es : List Entry) → network_step b N e ≡ Some N' → is_aux e ≡ false → Drove b N' t es → Drove b N (e ∷ t) (e ∷ es)
drove_shown b N N' e t es steps shown rest = record {
  network = rest.network;
  runs = ap (option_and_then (λ next. run_from b next es)) steps ∙ rest.runs;
  shows = cond-true (not (is_aux e)) (e ∷ visible es) (visible es) (not_from_false (is_aux e) shown) ∙ ap (λ l. e ∷ l) rest.shows;
  quiet = rest.quiet;
}

-- the clauses of driving, by what comes
pub ends_rest : (b : Setting) (count : ℕ) (N : Network) → first_auxiliary b N ≡ None → driven_from b (suc count) N [] ≡ Some []
ends_rest b count N h = ap (λ o. option_map_or (λ (outcome : NextNetwork). put_before outcome.entry (driven_from b count outcome.network [])) o (Some [])) h

pub ends_goes : (b : Setting) (count : ℕ) (N : Network) (outcome : NextNetwork) → first_auxiliary b N ≡ Some outcome
    → driven_from b (suc count) N [] ≡ put_before outcome.entry (driven_from b count outcome.network [])
ends_goes b count N outcome h = ap (λ o. option_map_or (λ (outcome : NextNetwork). put_before outcome.entry (driven_from b count outcome.network [])) o (Some [])) h

pub comes_now : (b : Setting) (count : ℕ) (N : Network) (e : Entry) (es : List Entry) → may_come N e ≡ true
    → driven_from b (suc count) N (e ∷ es) ≡ option_and_then (λ next. put_before e (driven_from b count next es)) (network_step b N e)
comes_now b count N e es h = cond-true (may_come N e) (option_and_then (λ next. put_before e (driven_from b count next es)) (network_step b N e))
    (option_and_then (λ (outcome : NextNetwork). put_before outcome.entry (driven_from b count outcome.network (e ∷ es))) (first_auxiliary b N)) h

pub waits_on : (b : Setting) (count : ℕ) (N : Network) (e : Entry) (es : List Entry) → may_come N e ≡ false
    → driven_from b (suc count) N (e ∷ es)
    ≡ option_and_then (λ (outcome : NextNetwork). put_before outcome.entry (driven_from b count outcome.network (e ∷ es))) (first_auxiliary b N)
waits_on b count N e es h = cond-false (may_come N e) (option_and_then (λ next. put_before e (driven_from b count next es)) (network_step b N e))
    (option_and_then (λ (outcome : NextNetwork). put_before outcome.entry (driven_from b count outcome.network (e ∷ es))) (first_auxiliary b N)) h

module _ (known : Known) (offered_steps : OffersAreSteps) (b : PlainBundle) (sound : IsSound b) where
  -- what is driven in so many turns is a run that shows the trace
  abbrev DroveIn : ℕ → Type 0
  DroveIn count = (H : List Entry) (N : Network) (t es : List Entry) → network_run b H ≡ Some N → list_all (λ e. not (is_aux e)) t ≡ true
      → driven_from (setting b) count N t ≡ Some es → Drove (setting b) N t es

  drove_next : (count : ℕ) → DroveIn count → DroveIn (suc count)
  drove_next count rest H N [] es runs all h = by_first (first_auxiliary (setting b) N) refl
    where
      by_first : (o : Option NextNetwork) → first_auxiliary (setting b) N ≡ o → Drove (setting b) N [] es
      by_first None none = subst (Drove (setting b) N []) (some_same (sym (ends_rest (setting b) count N none) ∙ h))
          (record { network = N; runs = refl; shows = refl; quiet = none_quiet known offered_steps b sound H N runs none })
      by_first (Some outcome) some =
          let step = aux_found known offered_steps b sound H N runs outcome some in
          let got = put_got outcome.entry (driven_from (setting b) count outcome.network []) es (sym (ends_goes (setting b) count N outcome some) ∙ h) in
          subst (Drove (setting b) N []) (sym got.2) (drove_aux (setting b) N outcome.network outcome.entry [] got.0 step.0 step.1
          (rest (H ++ outcome.entry ∷ []) outcome.network [] got.0 (one_more known offered_steps b sound H N outcome.entry outcome.network runs step.0) all got.1))
  drove_next count rest H N (e ∷ t) es runs all h = by_coming (may_come N e) refl
    where
      by_coming : (x : Bool) → may_come N e ≡ x → Drove (setting b) N (e ∷ t) es
      by_coming true may =
          let next = and_then_got (network_step (setting b) N e) (λ n. put_before e (driven_from (setting b) count n t)) es (sym (comes_now (setting b) count N e t may) ∙ h) in
          let got = put_got e (driven_from (setting b) count next.0 t) es next.2 in
          let parts = and_parts (not (is_aux e)) (list_all (λ x. not (is_aux x)) t) all in
          subst (Drove (setting b) N (e ∷ t)) (sym got.2) (drove_shown (setting b) N next.0 e t got.0 next.1 (not-true (is_aux e) parts.0)
          (rest (H ++ e ∷ []) next.0 t got.0 (one_more known offered_steps b sound H N e next.0 runs next.1) parts.1 got.1))
      by_coming false waits =
          let next = and_then_got (first_auxiliary (setting b) N) (λ (o : NextNetwork). put_before o.entry (driven_from (setting b) count o.network (e ∷ t))) es
          (sym (waits_on (setting b) count N e t waits) ∙ h) in
          let step = aux_found known offered_steps b sound H N runs next.0 next.1 in
          let got = put_got (next.0).entry (driven_from (setting b) count (next.0).network (e ∷ t)) es next.2 in
          subst (Drove (setting b) N (e ∷ t)) (sym got.2) (drove_aux (setting b) N (next.0).network (next.0).entry (e ∷ t) got.0 step.0 step.1
          (rest (H ++ (next.0).entry ∷ []) (next.0).network (e ∷ t) got.0
          (one_more known offered_steps b sound H N (next.0).entry (next.0).network runs step.0) all got.1))

  pub drove : (count : ℕ) → DroveIn count
  drove zero H N t es runs all h = absurd (none_some h)
  drove (suc count) H N t es runs all h = drove_next count (drove count) H N t es runs all h

  module _ (readiness : Readiness) (ends : AuxiliaryEnds) where
    abbrev IsDriven : ℕ → Network → List Entry → Type 0
    IsDriven count N t = (es : List Entry) × (driven_from (setting b) count N t ≡ Some es)

    abbrev HasRoom : ℕ → List Entry → List Entry → Type 0
    HasRoom count H t = suc ((length (visible H) + length t) * suc (6 * length b.cast)) ≤ count + length H

    room_aux : (count : ℕ) (H : List Entry) (e : Entry) (t : List Entry) → is_aux e ≡ true → HasRoom (suc count) H t → HasRoom count (H ++ e ∷ []) t
    room_aux count H e t aux room =
        subst (λ l. suc ((length l + length t) * suc (6 * length b.cast)) ≤ count + length (H ++ e ∷ [])) (sym (visible_aux H e aux))
        (room_left ((length (visible H) + length t) * suc (6 * length b.cast)) count (length H) (length (H ++ e ∷ [])) room (length-append H (e ∷ [])))

    room_shown : (count : ℕ) (H : List Entry) (e : Entry) (t : List Entry) → is_aux e ≡ false → HasRoom (suc count) H (e ∷ t) → HasRoom count (H ++ e ∷ []) t
    room_shown count H e t shown room =
        let same : length (visible (H ++ e ∷ [])) + length t ≡ length (visible H) + suc (length t) =
        same_sum (length (visible H)) (length (visible (H ++ e ∷ []))) (length t) (ap length (visible_shown H e shown) ∙ length-append (visible H) (e ∷ [])) in
        subst (λ n. suc (n * suc (6 * length b.cast)) ≤ count + length (H ++ e ∷ [])) (sym same)
        (room_left ((length (visible H) + suc (length t)) * suc (6 * length b.cast)) count (length H) (length (H ++ e ∷ [])) room (length-append H (e ∷ [])))

    -- a settled trace that the choreography plays is driven
    abbrev DrivesIn : ℕ → Type 0
    DrivesIn count = (H : List Entry) (N : Network) (S : State) (t : List Entry) → network_run b H ≡ Some N → play b (visible H) ≡ Some S
        → IsSome (play_from (setting b) S t) → SettledFrom (setting b) S t → HasRoom count H t → IsDriven count N t

    -- by an auxiliary move first
    drives_aux : (count : ℕ) → DrivesIn count → (H : List Entry) (N : Network) (S : State) (t : List Entry) → network_run b H ≡ Some N → play b (visible H) ≡ Some S
        → IsSome (play_from (setting b) S t) → SettledFrom (setting b) S t → HasRoom (suc count) H t → (outcome : NextNetwork)
        → first_auxiliary (setting b) N ≡ Some outcome → IsDriven count outcome.network t
    drives_aux count rest H N S t runs played plays settled room outcome some =
        let step = aux_found known offered_steps b sound H N runs outcome some in
        rest (H ++ outcome.entry ∷ []) outcome.network S t (one_more known offered_steps b sound H N outcome.entry outcome.network runs step.0)
        (ap (play b) (visible_aux H outcome.entry step.1) ∙ played) plays settled (room_aux count H outcome.entry t step.1 room)

    -- the entry that comes next is played
    next_played : (S : State) (e : Entry) (t : List Entry) → IsSome (play_from (setting b) S (e ∷ t))
        → (T : State) × (follow (setting b) S e ≡ Some T) × IsSome (play_from (setting b) T t)
    next_played S e t plays =
        let got = some_got (play_from (setting b) S (e ∷ t)) plays in
        let next = and_then_got (follow (setting b) S e) (λ T. play_from (setting b) T t) got.0 got.1 in
        (next.0, next.1, subst (λ o. IsSome o) (sym next.2) refl)

    drives_shown : (count : ℕ) → DrivesIn count → (H : List Entry) (N : Network) (S T : State) (e : Entry) (t : List Entry) → network_run b H ≡ Some N
        → play b (visible H) ≡ Some S → follow (setting b) S e ≡ Some T → IsSome (play_from (setting b) T t) → SettledFrom (setting b) S (e ∷ t)
        → HasRoom (suc count) H (e ∷ t) → may_come N e ≡ true → IsDriven (suc count) N (e ∷ t)
    drives_shown count rest H N S T e t runs played follows plays settled room may =
        let shown : is_aux e ≡ false = follow_shown (setting b) S T e follows in
        let next = comes known offered_steps b sound H N runs S T e played follows may in
        let more = rest (H ++ e ∷ []) next.0 T t (one_more known offered_steps b sound H N e next.0 runs next.1)
        (ap (play b) (visible_shown H e shown) ∙ play_more b (visible H) S T e played follows) plays
        (if_is (λ next. SettledFrom (setting b) next t) (follow (setting b) S e) T follows settled.1) (room_shown count H e t shown room) in
        (e ∷ more.0, comes_now (setting b) count N e t may ∙ ap (option_and_then (λ n. put_before e (driven_from (setting b) count n t))) next.1 ∙ ap (put_before e) more.1)

    drives_next : (count : ℕ) → DrivesIn count → DrivesIn (suc count)
    drives_next count rest H N S [] runs played plays settled room = by_first (first_auxiliary (setting b) N) refl
      where
        by_first : (o : Option NextNetwork) → first_auxiliary (setting b) N ≡ o → IsDriven (suc count) N []
        by_first None none = ([], ends_rest (setting b) count N none)
        by_first (Some outcome) some =
            let more = drives_aux count rest H N S [] runs played plays settled room outcome some in
            (outcome.entry ∷ more.0, ends_goes (setting b) count N outcome some ∙ ap (put_before outcome.entry) more.1)
    drives_next count rest H N S (e ∷ t) runs played plays settled room = by_coming (may_come N e) refl
      where
        by_first : may_come N e ≡ false → (o : Option NextNetwork) → first_auxiliary (setting b) N ≡ o → IsDriven (suc count) N (e ∷ t)
        by_first waits None none =
            let follows = next_played S e t plays in
            let ready = some_got (network_step (setting b) N e)
            (readiness b H N S follows.0 e sound runs (none_quiet known offered_steps b sound H N runs none) played follows.1 settled.0) in
            absurd (both_ways (may_come N e) waits (step_may known offered_steps b sound H N runs e ready.0 ready.1))
        by_first waits (Some outcome) some =
            let more = drives_aux count rest H N S (e ∷ t) runs played plays settled room outcome some in (
              outcome.entry ∷ more.0,
              waits_on (setting b) count N e t waits
                  ∙ ap (option_and_then (λ (o : NextNetwork). put_before o.entry (driven_from (setting b) count o.network (e ∷ t)))) some
                  ∙ ap (put_before outcome.entry) more.1,
            )

        by_coming : (x : Bool) → may_come N e ≡ x → IsDriven (suc count) N (e ∷ t)
        by_coming true may =
            let follows = next_played S e t plays in
            drives_shown count rest H N S follows.0 e t runs played follows.1 follows.2 settled room may
        by_coming false waits = by_first waits (first_auxiliary (setting b) N) refl

    pub drives : (count : ℕ) → DrivesIn count
    drives zero H N S t runs played plays settled room =
        absurd (no_room (length (visible H)) (length t) (suc (6 * length b.cast)) (length H) room (ends b H N sound runs))
    drives (suc count) H N S t runs played plays settled room = drives_next count (drives count) H N S t runs played plays settled room

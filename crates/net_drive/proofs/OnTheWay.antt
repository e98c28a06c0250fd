-- A net that is driven on: how far it has come, step by step, and what that is of the whole.
use Rattle.std.proofs.Common.{◌≡◌, ◌⊎◌, ◌≤◌, ◌<◌, ◌+◌, ◌-◌, ◌*◌, ℕ, zero, suc, List, [], ◌∷◌, ◌++◌, length, take, drop, get_or, Bool, true, false, not, Option, Some, None, refl, sym, ap, ap₂, ◌∙◌, subst, arith, append_assoc, length-append, append-nil}
use Rattle.std.specs.Prelude.{if◌then◌else◌, nat_lt, option_and_then}
use Rattle.std.proofs.lemmas.Bool.{both_ways, cond-true, cond-false, ltb-false, not_from_true, not_from_false}
use Rattle.std.proofs.lemmas.List.Elements.{filter-append}
use Rattle.std.proofs.lemmas.List.{drop_more, take_more}
use Rattle.std.proofs.lemmas.List.Folds.{list_all_at}
use Rattle.std.specs.List.{list_all}
use Rattle.std.proofs.lemmas.Nat.{mul-le}
use Rattle.dioc_terms.specs.declared.entries.Entry.{Entry}
use Rattle.dioc_terms.specs.Messages.{is_aux, visible}
use Rattle.dioc_terms.specs.Plain.{PlainBundle, Setting, setting}
use Rattle.drive_laws.specs.Laws.{AuxiliaryEnds}
use Rattle.network_steps.specs.Network.{Network, NextNetwork, network_run, network_start, network_step}
use Rattle.marked_laws.proofs.Shapes.{none_some}
use Rattle.net_drive.specs.Driven.{driven, driven_from, first_auxiliary, may_come, put_before}
use Rattle.net_drive.specs.Driving.{DrivesOn, HasCome, HasRoom, IsStuckAt, put_all}
use Rattle.net_drive.proofs.Driving.{comes_now, ends_goes, ends_rest, waits_on}
use Rattle.rule_checks.specs.declared.refusals.Refusal.{Refusal}
use Rattle.rule_checks.specs.declared.refusals.Refusal.TheVariants.{TooMany}
use Rattle.rule_checks.specs.declared.refusals.Which.{Which}
use Rattle.rule_checks.specs.declared.refusals.Which.TheVariants.{Nodes, Roles}
use Rattle.rule_checks.specs.Refusals.{IsAccepted, first_refusal, too_many}
use Rattle.dioc_terms.specs.Terms.{nodes}
use Rattle.net_core.specs.Nets.{IsSoundRun, NetState, network_at, network_of}
use Rattle.net_core.specs.Steps.{GoesOn}
use Rattle.schedule.proofs.UpdateLemmas.{few_updates}

-- ---- entries before those that are driven

put_both : (xs ys : List Entry) (o : Option (List Entry)) → put_all (xs ++ ys) o ≡ put_all xs (put_all ys o)
put_both [] ys o = refl
put_both (x ∷ xs) ys o = ap (put_before x) (put_both xs ys o)

put_whole : (es : List Entry) → put_all es (Some []) ≡ Some es
put_whole [] = refl
put_whole (e ∷ es) = ap (put_before e) (put_whole es)

none_more : (n : ℕ) → 0 + n ≡ n
none_more n = omega arith

one_more : (n : ℕ) → 1 + n ≡ suc n
one_more n = omega arith

-- nothing was made yet
pub stay : (net : NetState) (rest : List Entry) → DrivesOn net net [] rest
stay net rest = record {
  made = [];
  history = sym (append-nil net.history);
  shows = refl;
  leads = λ count. ap (λ n. driven_from (setting net.bundle) n (network_of net) rest) (none_more count);
  bundle = refl;
  limit = refl;
}

-- one part of the way, and then another
both_counts : (m n k count : ℕ) → k ≡ m + n → k + count ≡ m + (n + count)
both_counts m n k count h = omega (arith, h)

pub join : (a b c : NetState) (shown later rest : List Entry) → DrivesOn a b shown (later ++ rest) → DrivesOn b c later rest → DrivesOn a c (shown ++ later) rest
join a b c shown later rest f g = record {
  made = f.made ++ g.made;
  history = g.history ∙ ap (λ h. h ++ g.made) f.history ∙ append_assoc a.history f.made g.made;
  shows = filter-append (λ e. not (is_aux e)) f.made g.made ∙ ap₂ (λ xs ys. xs ++ ys) f.shows g.shows;
  leads = λ count.
      let more : driven_from (setting a.bundle) (length g.made + count) (network_of b) (later ++ rest)
      ≡ put_all g.made (driven_from (setting a.bundle) count (network_of c) rest) =
      subst (λ (B : PlainBundle). driven_from (setting B) (length g.made + count) (network_of b) (later ++ rest)
      ≡ put_all g.made (driven_from (setting B) count (network_of c) rest)) f.bundle (g.leads count) in
      ap₂ (λ n t. driven_from (setting a.bundle) n (network_of a) t)
      (both_counts (length f.made) (length g.made) (length (f.made ++ g.made)) count (length-append f.made g.made)) (append_assoc shown later rest)
      ∙ f.leads (length g.made + count)
      ∙ ap (put_all f.made) more
      ∙ sym (put_both f.made g.made (driven_from (setting a.bundle) count (network_of c) rest));
  bundle = g.bundle ∙ f.bundle;
  limit = g.limit ∙ f.limit;
}

-- an entry that may not come yet, where one is next
abbrev pub Waits : Network → List Entry → Type 0
Waits N [] = Unit {0}
Waits N (e ∷ es) = may_come N e ≡ false

-- an auxiliary move more
turn_goes : (b : Setting) (count : ℕ) (N : Network) (rest : List Entry) (outcome : NextNetwork) → first_auxiliary b N ≡ Some outcome → Waits N rest
    → driven_from b (suc count) N rest ≡ put_before outcome.entry (driven_from b count outcome.network rest)
turn_goes b count N [] outcome some waits = ends_goes b count N outcome some
turn_goes b count N (e ∷ es) outcome some waits =
    waits_on b count N e es waits
    ∙ ap (option_and_then (λ (o : NextNetwork). put_before o.entry (driven_from b count o.network (e ∷ es)))) some

pub aux_on : (old new : NetState) (rest : List Entry) (outcome : NextNetwork) → first_auxiliary (setting old.bundle) (network_of old) ≡ Some outcome
    → is_aux outcome.entry ≡ true → GoesOn old outcome new → Waits (network_of old) rest → DrivesOn old new [] rest
aux_on old new rest outcome some aux goes waits = record {
  made = outcome.entry ∷ [];
  history = goes.history;
  shows = cond-false (not (is_aux outcome.entry)) (outcome.entry ∷ []) [] (not_from_true (is_aux outcome.entry) aux);
  leads = λ count.
      ap (λ n. driven_from (setting old.bundle) n (network_of old) rest) (one_more count)
      ∙ turn_goes (setting old.bundle) count (network_of old) rest outcome some waits
      ∙ ap (λ (N : Network). put_before outcome.entry (driven_from (setting old.bundle) count N rest)) (sym goes.network);
  bundle = goes.bundle;
  limit = goes.limit;
}

-- an entry that comes
pub come_on : (old new : NetState) (e : Entry) (rest : List Entry) → HasCome old e new → is_aux e ≡ false → DrivesOn old new (e ∷ []) rest
come_on old new e rest come shown = record {
  made = e ∷ [];
  history = come.history;
  shows = cond-true (not (is_aux e)) (e ∷ []) [] (not_from_false (is_aux e) shown);
  leads = λ count.
      ap (λ n. driven_from (setting old.bundle) n (network_of old) (e ∷ rest)) (one_more count)
      ∙ comes_now (setting old.bundle) count (network_of old) e rest come.may
      ∙ ap (option_and_then (λ next. put_before e (driven_from (setting old.bundle) count next rest))) come.steps;
  bundle = come.made.goes.bundle;
  limit = come.made.goes.limit;
}

-- ---- what stays on the way to an entry

pub shows_more : (old new : NetState) (shown rest : List Entry) → DrivesOn old new shown rest → visible new.history ≡ visible old.history ++ shown
shows_more old new shown rest on =
    ap visible on.history ∙ filter-append (λ e. not (is_aux e)) old.history on.made ∙ ap (λ l. visible old.history ++ l) on.shows

pub room_stays : (old new : NetState) (rest : List Entry) → DrivesOn old new [] rest → HasRoom old → HasRoom new
room_stays old new rest on room = record {
  roles = subst (λ (B : PlainBundle). length B.cast ≤ 32) (sym on.bundle) room.roles;
  entries = subst (λ t. length t ≤ 1000000) (sym (shows_more old new [] rest on ∙ append-nil (visible old.history))) room.entries;
  limit = on.limit ∙ room.limit;
}

pub stuck_before : (old new : NetState) (rest : List Entry) (e : Entry) → DrivesOn old new [] rest → IsStuckAt new e → IsStuckAt old e
stuck_before old new rest e on stuck = record {
  history = stuck.history;
  network = stuck.network;
  runs = subst (λ (B : PlainBundle). network_run B stuck.history ≡ Some stuck.network) on.bundle stuck.runs;
  shows = stuck.shows ∙ shows_more old new [] rest on ∙ append-nil (visible old.history);
  strays = subst (λ (B : PlainBundle). network_step (setting B) stuck.network e ≡ None) on.bundle stuck.strays;
  why = subst (λ (B : PlainBundle). (may_come stuck.network e ≡ true) ⊎ (first_auxiliary (setting B) stuck.network ≡ None)) on.bundle stuck.why;
}

-- ---- through the entries, one by one

-- what is visible of a net that began without entries
pub shown_so_far : (start net : NetState) (shown rest : List Entry) → DrivesOn start net shown rest → start.history ≡ [] → visible net.history ≡ shown
shown_so_far start net shown rest on fresh = shows_more start net shown rest on ∙ ap (λ h. visible h ++ shown) fresh

-- the room stays
pub room_on : (start net : NetState) (shown rest : List Entry) → DrivesOn start net shown rest → start.history ≡ [] → length shown ≤ 1000000 → HasRoom start → HasRoom net
room_on start net shown rest on fresh few room = record {
  roles = subst (λ (B : PlainBundle). length B.cast ≤ 32) (sym on.bundle) room.roles;
  entries = subst (λ t. length t ≤ 1000000) (sym (shown_so_far start net shown rest on fresh)) few;
  limit = on.limit ∙ room.limit;
}

pub part_left : (trace : List Entry) (i : ℕ) (e : Entry) → i < length trace → e ≡ get_or trace i e → drop i trace ≡ e ∷ drop (i + 1) trace
part_left trace i e lt is = drop_more trace i e lt ∙ ap (λ x. x ∷ drop (i + 1) trace) (sym is)

pub entry_more : (start net new : NetState) (trace : List Entry) (i : ℕ) (e : Entry) → DrivesOn start net (take i trace) (drop i trace)
    → ((rest : List Entry) → DrivesOn net new (e ∷ []) rest) → i < length trace → e ≡ get_or trace i e → DrivesOn start new (take (i + 1) trace) (drop (i + 1) trace)
entry_more start net new trace i e on more lt is =
    let far : DrivesOn start net (take i trace) (e ∷ drop (i + 1) trace) = subst (DrivesOn start net (take i trace)) (part_left trace i e lt is) on in
    let front : take (i + 1) trace ≡ take i trace ++ e ∷ [] = take_more trace i e lt ∙ ap (λ x. take i trace ++ x ∷ []) (sym is) in
    subst (λ t. DrivesOn start new t (drop (i + 1) trace)) (sym front)
    (join start net new (take i trace) (e ∷ []) (drop (i + 1) trace) far (more (drop (i + 1) trace)))

-- ---- there is room

few_entries : (h v r w : ℕ) → h ≤ v * w → w ≡ suc (6 * r) → v ≤ 1000000 → r ≤ 32 → h ≤ 1000000 * 193
few_entries h v r w within is few roles = omega (arith, within, mul-le v w 1000000 193 few (omega (arith, is, roles)))

pub short_history : AuxiliaryEnds → (net : NetState) → IsSoundRun net → HasRoom net → length net.history ≤ 193000000
short_history ends net run room =
    few_entries (length net.history) (length (visible net.history)) (length net.bundle.cast) (suc (6 * length net.bundle.cast))
    (ends net.bundle net.history (network_of net) run.sound run.runs) refl room.entries room.roles

pub has_room : AuxiliaryEnds → (net : NetState) → IsSoundRun net → HasRoom net → length net.history < net.limit
has_room ends net run room = omega (arith, short_history ends net run room, room.limit)

-- the same history, within a smaller limit
pub few_made : AuxiliaryEnds → (net : NetState) → IsSoundRun net → HasRoom net → (network_of net).updates < 4294967295
few_made ends net run room =
    let short : length net.history ≤ 193000000 = short_history ends net run room in
    few_updates (record { bundle = net.bundle; history = net.history; limit = 4294967295 })
    (record { sound = run.sound; runs = run.runs; within = omega (arith, short) }) (omega (arith, short)) (omega arith)

-- each move leaves room for less
pub lessens : (old new : NetState) → new.limit ≡ old.limit → length old.history < length new.history → length old.history < old.limit
    → new.limit - length new.history < old.limit - length old.history
lessens old new same longer room = omega (arith, same, longer, room)

-- ---- the whole

fits : (m p : ℕ) → m ≤ p → m + suc (p - m) ≡ suc p
fits m p h = omega (arith, h)

-- a net that has been driven through a trace, and rests, has the driven history
pub whole_driven : AuxiliaryEnds → (start net : NetState) (trace : List Entry) → start.history ≡ [] → IsSoundRun net → DrivesOn start net trace []
    → first_auxiliary (setting net.bundle) (network_of net) ≡ None → driven start.bundle trace ≡ Some net.history
whole_driven ends start net trace fresh run on rests =
    let b : PlainBundle = start.bundle in
    let same : net.history ≡ on.made = on.history ∙ ap (λ h. h ++ on.made) fresh in
    let most : ℕ = length trace * suc (6 * length b.cast) in
    let within : length on.made ≤ most =
    subst (λ (B : PlainBundle). length on.made ≤ length trace * suc (6 * length B.cast)) on.bundle
    (subst (λ t. length on.made ≤ length t * suc (6 * length net.bundle.cast)) on.shows
    (subst (λ h. length h ≤ length (visible h) * suc (6 * length net.bundle.cast)) same
    (ends net.bundle net.history (network_of net) run.sound run.runs))) in
    let none : first_auxiliary (setting b) (network_of net) ≡ None = subst (λ (B : PlainBundle). first_auxiliary (setting B) (network_of net) ≡ None) on.bundle rests in
    let first : network_of start ≡ network_start b = ap (network_at b) fresh in
    ap₂ (λ n t. driven_from (setting b) n (network_start b) t) (sym (fits (length on.made) most within)) (sym (append-nil trace))
    ∙ ap (λ (N : Network). driven_from (setting b) (length on.made + suc (most - length on.made)) N (trace ++ [])) (sym first)
    ∙ on.leads (suc (most - length on.made))
    ∙ ap (put_all on.made) (ends_rest (setting b) (most - length on.made) (network_of net) none)
    ∙ put_whole on.made ∙ ap Some (sym same)

-- ---- how many roles there may be

refused_rest : (o : Option Refusal) (rest : List (Option Refusal)) → first_refusal (o ∷ rest) ≡ None → (o ≡ None) × (first_refusal rest ≡ None)
refused_rest None rest h = (refl, h)
refused_rest (Some refusal) rest h = absurd (none_some (sym h))

not_many : (which : Which) (most count : ℕ) → too_many which most count ≡ None → count ≤ most
not_many which most count h = by_test (nat_lt most count) refl h
  where
    by_test : (t : Bool) → nat_lt most count ≡ t → (if t then Some (TooMany which) else None) ≡ None → count ≤ most
    by_test true is k = absurd (none_some (sym k))
    by_test false is k = ltb-false most count is

pub few_roles : (b : PlainBundle) → IsAccepted b → length b.cast ≤ 32
few_roles b accepted =
    not_many Roles 32 (length b.cast) (refused_rest (too_many Roles 32 (length b.cast)) _ (refused_rest (too_many Nodes 5000 (nodes b.choreo)) _ accepted.no_refusal).1).0

-- an entry of a trace of visible entries is visible
pub entry_shown : (trace : List Entry) (i : ℕ) (e : Entry) → list_all (λ x. not (is_aux x)) trace ≡ true → i < length trace → e ≡ get_or trace i e → is_aux e ≡ false
entry_shown trace i e all lt is = by_test (is_aux e) refl
  where
    by_test : (t : Bool) → is_aux e ≡ t → is_aux e ≡ false
    by_test false h = h
    by_test true h =
        absurd (both_ways (list_all (λ x. not (is_aux x)) trace)
        (list_all_at (λ x. not (is_aux x)) trace i e lt (ap (λ x. not (is_aux x)) (sym is) ∙ not_from_true (is_aux e) h)) all)

-- a front and what is left
pub way_whole : (i : ℕ) (trace : List Entry) → take i trace ++ drop i trace ≡ trace
way_whole zero trace = refl
way_whole (suc i) [] = refl
way_whole (suc i) (e ∷ trace) = ap (λ l. e ∷ l) (way_whole i trace)

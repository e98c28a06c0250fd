-- An agenda lists the acts of a net, and is brought up to date after the last act.
use Rattle.std.proofs.Common.{◌≡◌, ◌<◌, ◌≤◌, ◌+◌, ◌-◌, ℕ, zero, suc, List, [], ◌∷◌, ◌++◌, length, Bool, true, false, ◌&&◌, not, Option, Some, slice_get, refl, sym, ap, ap₂, ◌∙◌, subst, map, arith, take, get_or}
use Rattle.std.specs.Prelude.{◌||◌, flat_map, if◌then◌else◌, vec_len}
use Rattle.std.proofs.lemmas.List.{append-nil, length-append, length-map, take_all, take_more}
use Rattle.std.proofs.lemmas.List.Folds.{flat_map-map}
use Rattle.std.proofs.lemmas.Option.{slice_get_read}
use Rattle.dioc_terms.specs.declared.entries.Act.{Act}
use Rattle.dioc_terms.specs.declared.entries.Act.TheVariants as act
use Rattle.dioc_terms.specs.declared.names.Role.{Role}
use Rattle.dioc_terms.specs.declared.processes.Key.{Key}
use Rattle.dioc_terms.specs.Equality.{member}
use Rattle.dioc_terms.specs.Plain.{PlainBundle, setting}
use Rattle.dioc_terms.specs.Terms.{distinct_roles}
use Rattle.network_steps.specs.Network.{Network}
use Rattle.marked_laws.proofs.Choices.{cast_unique}
use Rattle.marked_laws.proofs.Premise.{Known}
use Rattle.marked_laws.proofs.Whole.{distinct_offers}
use Rattle.network_steps.specs.declared.moves.Move.{Move}
use Rattle.network_steps.specs.declared.moves.Move.TheVariants as move
use Rattle.network_steps.specs.Schedule.{change_due, is_ready, move_place, moves}
use Rattle.net_core.specs.Nets.{IsSoundRun, NetState, network_of}
use Rattle.schedule.specs.declared.roles.ReadyRole.{ReadyRole}
use Rattle.net_core.proofs.Choosing.{chosen_long}
use Rattle.net_core.proofs.PlacesLemmas.{chosen_places}
use Rattle.net_core.specs.MovesIn.{chosen}
use Rattle.net_core.specs.Places.{offers_of, places_of}
use Rattle.schedule.proofs.RoleLemmas.{stands_in}
use Rattle.schedule.proofs.TouchLemmas.{acted, follows, untouched_by_change}
use Rattle.schedule.specs.Agendas.{Acted, Follows, IsFilled, IsStale, Shown, WasListed, agenda_of, moves_of, puts_to, ready_in, ready_seen, takes}
use Rattle.schedule.specs.Turns.{IsMoveOf, IsScheduled, has_ended}

-- whether a change is listed
abbrev pub is_due : NetState → Bool
is_due net = change_due net.bundle.script (network_of net).changes (network_of net).visible && not (has_ended net)

-- the moves are the change where it is due, and then the acts of the agenda
pub moves_are : (net : NetState) → moves (setting net.bundle) (network_of net) ≡ (if is_due net then move.Change ∷ [] else []) ++ flat_map moves_of (agenda_of net)
moves_are net =
    ap (λ l. (if is_due net then move.Change ∷ [] else []) ++ l) (sym (flat_map-map moves_of (ready_in (network_of net)) net.bundle.cast))

moves_due : (net : NetState) (agenda : List Shown) → agenda ≡ agenda_of net → true ≡ is_due net
    → moves (setting net.bundle) (network_of net) ≡ move.Change ∷ flat_map moves_of agenda
moves_due net agenda is due =
    moves_are net ∙ ap (λ (t : Bool). (if t then move.Change ∷ [] else []) ++ flat_map moves_of (agenda_of net)) (sym due)
    ∙ ap (λ l. move.Change ∷ flat_map moves_of l) (sym is)

moves_not_due : (net : NetState) (agenda : List Shown) → agenda ≡ agenda_of net → false ≡ is_due net
    → moves (setting net.bundle) (network_of net) ≡ flat_map moves_of agenda
moves_not_due net agenda is due =
    moves_are net ∙ ap (λ (t : Bool). (if t then move.Change ∷ [] else []) ++ flat_map moves_of (agenda_of net)) (sym due)
    ∙ ap (flat_map moves_of) (sym is)

is_scheduled : (net : NetState) (seed : Option ℕ) (listed : List Move) (place : ℕ) (m : Move) → moves (setting net.bundle) (network_of net) ≡ listed
    → place ≡ move_place seed (length listed) → slice_get listed place ≡ Some m → IsScheduled net seed m
is_scheduled net seed listed place m same is got =
    let at : slice_get listed (move_place seed (length listed)) ≡ Some m = subst (λ n. slice_get listed n ≡ Some m) is got in
    subst (λ (ms : List Move). slice_get ms (move_place seed (length ms)) ≡ Some m) (sym same) at

-- what is scheduled where a change is due, and where none is
pub scheduled_due : (net : NetState) (seed : Option ℕ) (agenda : List Shown) (acts place : ℕ) (m : Move) → agenda ≡ agenda_of net → true ≡ is_due net
    → acts ≡ length (flat_map moves_of agenda) → place ≡ move_place seed (acts + 1) → slice_get (move.Change ∷ flat_map moves_of agenda) place ≡ Some m → IsScheduled net seed m
scheduled_due net seed agenda acts place m is due count at got =
    let more : acts + 1 ≡ length (move.Change ∷ flat_map moves_of agenda) = omega (arith, count) in
    is_scheduled net seed (move.Change ∷ flat_map moves_of agenda) place m (moves_due net agenda is due) (at ∙ ap (move_place seed) more) got

pub scheduled_act : (net : NetState) (seed : Option ℕ) (agenda : List Shown) (acts place : ℕ) (m : Move) → agenda ≡ agenda_of net → false ≡ is_due net
    → acts ≡ length (flat_map moves_of agenda) → place ≡ move_place seed acts → slice_get (flat_map moves_of agenda) place ≡ Some m → IsScheduled net seed m
scheduled_act net seed agenda acts place m is due count at got =
    is_scheduled net seed (flat_map moves_of agenda) place m (moves_not_due net agenda is due) (at ∙ ap (move_place seed) count) got

-- there is an act where no change is due
pub some_act : (net : NetState) (agenda : List Shown) (acts : ℕ) → agenda ≡ agenda_of net → false ≡ is_due net
    → acts ≡ length (flat_map moves_of agenda) → 0 < length (moves (setting net.bundle) (network_of net)) → 0 < acts
some_act net agenda acts is due count some = omega (arith, some, count, ap length (moves_not_due net agenda is due))

-- the second of two is the first of what is left
pub got_later : (xs : List Move) (place : ℕ) (m : Move) → (place ≡ 0 → ⊥) → slice_get xs (place - 1) ≡ Some m → slice_get (move.Change ∷ xs) place ≡ Some m
got_later xs zero m some h = absurd (some refl)
got_later xs (suc place) m some h = ap (slice_get xs) (omega arith) ∙ h

-- a move among the first of two lists, and among the second
got_front : (xs ys : List Move) (place : ℕ) (m : Move) → slice_get xs place ≡ Some m → slice_get (xs ++ ys) place ≡ Some m
got_front [] ys place m got = cc
got_front (x ∷ xs) ys zero m got = got
got_front (x ∷ xs) ys (suc place) m got = got_front xs ys place m got

got_back : (xs ys : List Move) (place : ℕ) (m : Move) → length xs ≤ place → slice_get ys (place - length xs) ≡ Some m → slice_get (xs ++ ys) place ≡ Some m
got_back [] ys place m past got = ap (slice_get ys) (omega arith) ∙ got
got_back (x ∷ xs) ys zero m past got = absurd (omega (arith, past))
got_back (x ∷ xs) ys (suc place) m past got = got_back xs ys place m (omega (arith, past)) (ap (slice_get ys) (omega arith) ∙ got)

-- a role has as many moves as places
pub ready_long : (ready : ReadyRole) → vec_len ready.ready ≡ length (moves_of (ready_seen ready))
ready_long ready =
    let long : length (moves_of (ready_seen ready)) ≡ length ready.ready.items =
    length-map (chosen ready.ready.items ready.acts.items) (move.Act ready.role) ∙ chosen_long ready.acts.items ready.ready.items ready.inside in
    omega (arith, long, ready.ready.ok.0)

count_append : (agenda : List ReadyRole) (ready : ReadyRole)
    → length (flat_map moves_of (map ready_seen (agenda ++ ready ∷ []))) ≡ length (flat_map moves_of (map ready_seen agenda)) + vec_len ready.ready
count_append [] ready =
    let all : length (moves_of (ready_seen ready) ++ []) ≡ vec_len ready.ready = ap length (append-nil (moves_of (ready_seen ready))) ∙ sym (ready_long ready) in
    omega (arith, all)
count_append (first ∷ later) ready =
    let both : length (moves_of (ready_seen first) ++ flat_map moves_of (map ready_seen (later ++ ready ∷ []))) ≡ length (moves_of (ready_seen first)) + length (flat_map moves_of (map ready_seen (later ++ ready ∷ []))) =
    length-append (moves_of (ready_seen first)) (flat_map moves_of (map ready_seen (later ++ ready ∷ []))) in
    let one : length (moves_of (ready_seen first) ++ flat_map moves_of (map ready_seen later)) ≡ length (moves_of (ready_seen first)) + length (flat_map moves_of (map ready_seen later)) =
    length-append (moves_of (ready_seen first)) (flat_map moves_of (map ready_seen later)) in
    omega (arith, both, one, count_append later ready)

-- an agenda has those of one role more
pub count_more : (agenda : List ReadyRole) (i : ℕ) (ready : ReadyRole) → i < length agenda → ready ≡ get_or agenda i ready
    → length (flat_map moves_of (map ready_seen (take (i + 1) agenda))) ≡ length (flat_map moves_of (map ready_seen (take i agenda))) + vec_len ready.ready
count_more agenda i ready inside is =
    ap (λ xs. length (flat_map moves_of (map ready_seen xs))) (take_more agenda i ready inside)
    ∙ ap (λ (r : ReadyRole). length (flat_map moves_of (map ready_seen (take i agenda ++ r ∷ [])))) (sym is)
    ∙ count_append (take i agenda) ready

-- an act of a role of an agenda
pub got_in : (agenda : List ReadyRole) (i : ℕ) (ready : ReadyRole) (left place : ℕ) (m : Move) → i < length agenda → ready ≡ get_or agenda i ready
    → place ≡ left + length (flat_map moves_of (map ready_seen (take i agenda))) → slice_get (moves_of (ready_seen ready)) left ≡ Some m
    → slice_get (flat_map moves_of (map ready_seen agenda)) place ≡ Some m
got_in [] i ready left place m inside is at got = absurd (omega (arith, inside))
got_in (first ∷ later) zero ready left place m inside is at got =
    got_front (moves_of (ready_seen first)) (flat_map moves_of (map ready_seen later)) place m
    (ap₂ (λ (r : ReadyRole) n. slice_get (moves_of (ready_seen r)) n) (sym is) (omega (arith, at)) ∙ got)
got_in (first ∷ later) (suc i) ready left place m inside is at got =
    let acts : List Move = moves_of (ready_seen first) in
    let before : List Move = flat_map moves_of (map ready_seen (take i later)) in
    let long : length (acts ++ before) ≡ length acts + length before = length-append acts before in
    got_back acts (flat_map moves_of (map ready_seen later)) place m (omega (arith, at, long))
    (got_in later i ready left (place - length acts) m (omega (arith, inside)) is (omega (arith, at, long)) got)

-- there are no more acts than those of all roles
pub none_left : (agenda : List ReadyRole) (i left place : ℕ) → length agenda ≤ i
    → place ≡ left + length (flat_map moves_of (map ready_seen (take i agenda))) → place < length (flat_map moves_of (map ready_seen agenda)) → ⊥
none_left agenda i left place past at within =
    let all : place ≡ left + length (flat_map moves_of (map ready_seen agenda)) =
    at ∙ ap (λ (l : List ReadyRole). left + length (flat_map moves_of (map ready_seen l))) (take_all i agenda past) in
    omega (arith, all, within)

-- lists made of one whose members become the same
map_same : {A B : Type 0} (f h : A → B) (xs : List A) → ((x : A) → f x ≡ h x) → map f xs ≡ map h xs
map_same f h [] same = refl
map_same f h (x ∷ xs) same = ap₂ (λ y ys. y ∷ ys) (same x) (map_same f h xs same)

-- after a move the agenda from before it is one that is to be brought up to date
pub stale_after : Known → (old new : NetState) (m : Move) (agenda : List Shown) → IsSoundRun old → IsMoveOf old m new → agenda ≡ agenda_of old
    → IsStale new (Some m) agenda
stale_after known old new move.Change agenda run made is =
    is ∙ map_same (ready_in (network_of old)) (ready_in (network_of new)) old.bundle.cast
    (λ r. sym (ap (λ M. ready_in M r) made.goes.network ∙ untouched_by_change (setting old.bundle) (network_of old) made.outcome made.steps r))
    ∙ ap (λ (b : PlainBundle). map (ready_in (network_of new)) b.cast) (sym made.goes.bundle)
stale_after known old new (move.Act q a) agenda run made is = record {
  before = network_of old;
  listed = is ∙ ap (λ (b : PlainBundle). map (ready_in (network_of old)) b.cast) (sym made.goes.bundle);
  acted = subst (λ M. Acted (network_of old) M a q) (sym made.goes.network)
      (acted known old.bundle old.history (network_of old) run.sound run.runs q a made.outcome made.steps);
  follows = λ r other. subst (λ M. Follows (network_of old) M a r) (sym made.goes.network)
      (follows known old.bundle old.history (network_of old) run.sound run.runs q a made.outcome made.steps r other);
  roles = subst (λ (b : PlainBundle). distinct_roles b.cast ≡ true) (sym made.goes.bundle) (cast_unique known old.bundle run.sound);
  acts = distinct_offers known old.bundle old.history (network_of old) run.sound run.runs q;
}

-- a role of the cast
pub member_at : (cast : List Role) (i : ℕ) (q : Role) → i < length cast → q ≡ get_or cast i q → member q cast ≡ true
member_at cast i q lt is = stands_in cast i q (slice_get_read cast (length cast) i q refl lt is)

-- what is listed of a role with all its acts and the right places is what is to be
listed_so : (N : Network) (r : Role) (acts : List Act) (places : List ℕ) → acts ≡ offers_of N r → places ≡ places_of (is_ready N) (offers_of N r)
    → (r, chosen places acts, acts, places) ≡ ready_in N r
listed_so N r acts places all here =
    ap₂ (λ (xs : List Act) (ps : List ℕ). (r, chosen ps xs, xs, ps)) all here
    ∙ ap (λ (done : List Act). (r, done, offers_of N r, places_of (is_ready N) (offers_of N r))) (chosen_places (is_ready N) (offers_of N r))

pub filled_so : (N : Network) (r : Role) (acts : List Act) (places : List ℕ) → IsFilled N (offers_of N r) acts places → (r, chosen places acts, acts, places) ≡ ready_in N r
filled_so N r acts places is = listed_so N r acts places is.all (is.ready ∙ ap (places_of (is_ready N)) is.all)

-- so it is once the takes of a message that was put to it are put among them
pub come_listed : (N : Network) (k : Key) (r : Role) (acts : List Act) (places new : List ℕ) → WasListed N (act.Put k) (r, chosen places acts, acts, places)
    → ((p : Act → Bool) → places ≡ places_of p acts → new ≡ places_of (λ a. takes k a || p a) acts) → (r, chosen new acts, acts, new) ≡ ready_in N r
come_listed N k r acts places new was put =
    let M = was.before in
    let at : acts ≡ offers_of M r = ap (λ (x : Shown). x.2) was.listed in
    let old : places ≡ places_of (is_ready M) acts = ap (λ (x : Shown). x.3) was.listed ∙ ap (places_of (is_ready M)) (sym at) in
    listed_so N r acts new (at ∙ sym was.follows.offers)
    (put (is_ready M) old ∙ ap (places_of (λ a. takes k a || is_ready M a)) at ∙ sym was.follows.ready ∙ ap (places_of (is_ready N)) (sym was.follows.offers))

-- and as it is where nothing was put to it
pub stay_listed : (N : Network) (a : Act) (ready : Shown) → WasListed N a ready → puts_to a ready.0 ≡ false → ready ≡ ready_in N ready.0
stay_listed N a ready was none =
    let M = was.before in
    let r : Role = ready.0 in
    was.listed
    ∙ ap (λ (done : List Act). (r, done, offers_of M r, places_of (is_ready M) (offers_of M r))) (sym (chosen_places (is_ready M) (offers_of M r)))
    ∙ listed_so N r (offers_of M r) (places_of (is_ready M) (offers_of M r)) (sym was.follows.offers)
    (sym (was.follows.same none) ∙ ap (places_of (is_ready N)) (sym was.follows.offers))

-- an act that is no put puts nothing
pub none_put : (a : Act) (r : Role) → ((k : Key) → a ≡ act.Put k → ⊥) → puts_to a r ≡ false
none_put (act.Put k) r other = absurd (other k refl)
none_put (act.Take k) r other = refl
none_put (act.Set i) r other = refl
none_put (act.Input i) r other = refl
none_put (act.Pick i) r other = refl
none_put (act.Scope i) r other = refl

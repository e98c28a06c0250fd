-- An act that an agenda lists, what it leaves of the role that did it, and what of its receiver.
use Rattle.std.proofs.Common.{◌≡◌, ℕ, zero, suc, ◌+◌, ◌<◌, List, [], ◌∷◌, Bool, true, false, Option, Some, None, slice_get, map, length, get_or, take, refl, sym, ap, ap₂, ◌∙◌, subst, ⊎_elim, arith}
use Rattle.std.specs.Prelude.{flat_map, vec_len, if◌then◌else◌, option_and_then, slice_set}
use Rattle.std.specs.List.{position, position_from}
use Rattle.std.specs.Option.{option_map}
use Rattle.std.proofs.lemmas.Bool.{both_ways, cases_Bool, cond-false, cond-true, false_from_ne_true, or_cases}
use Rattle.std.proofs.lemmas.Iterator.Adapters.{position_from-zero}
use Rattle.std.proofs.lemmas.List.{length-map, map-set}
use Rattle.std.proofs.lemmas.List.Quantifiers.{position-Some}
use Rattle.std.proofs.lemmas.Option.{slice_get-get_or, slice_get-map}
use Rattle.dioc_terms.specs.declared.entries.Act.{Act}
use Rattle.dioc_terms.specs.declared.entries.Act.TheVariants as act
use Rattle.dioc_terms.specs.declared.names.Role.{Role}
use Rattle.dioc_terms.specs.declared.processes.Key.{Key}
use Rattle.dioc_terms.specs.Equality.{member, role_eq}
use Rattle.marked_laws.proofs.Equality.{role_itself, role_same}
use Rattle.marked_laws.proofs.Shapes.{none_some, some_same}
use Rattle.marked_laws.specs.Offers.{distinct_acts}
use Rattle.net_core.proofs.Choosing.{chosen_at, chosen_long}
use Rattle.net_core.specs.MovesIn.{chosen}
use Rattle.net_core.specs.Nets.{NetState, network_of}
use Rattle.net_core.specs.Places.{offers_of}
use Rattle.network_steps.specs.Network.{Network}
use Rattle.network_steps.specs.declared.moves.Move.{Move}
use Rattle.network_steps.specs.declared.moves.Move.TheVariants as move
use Rattle.schedule.proofs.AgendaLemmas.{got_in, none_put, ready_long, stay_listed}
use Rattle.schedule.proofs.RoleLemmas.{all_same, listed_at, one_place, one_set, roles_listed}
use Rattle.schedule.specs.declared.roles.Listed.TheVariants as listed
use Rattle.schedule.specs.declared.roles.ReadyRole.{ReadyRole}
use Rattle.network_steps.specs.declared.moves.StepFault.{StepFault}
use Rattle.schedule.specs.Turns.{CanMake, CanMakeListed, IsRefusedAs}
use Rattle.schedule.specs.Agendas.{Acted, DidAt, DidIn, Follows, HasActed, IsListedAs, IsStale, IsStaleAt, Shown, WasListed, agenda_of, half, move_at, moves_of, puts_to, ready_in, ready_seen}

-- what stands at a place of a list stands in it
pub got_inside : {A : Type 0} (xs : List A) (i : ℕ) (x : A) → slice_get xs i ≡ Some x → i < length xs
got_inside [] i x h = absurd (none_some h)
got_inside (y ∷ ys) zero x h = omega arith
got_inside (y ∷ ys) (suc i) x h = omega (arith, got_inside ys i x h)

-- an act of a role among its moves, where no change stands
of_moves : (q : Role) (acts : List Act) (i : ℕ) (r : Role) (a : Act) → slice_get (map (move.Act q) acts) i ≡ Some (move.Act r a) → (q ≡ r) × (slice_get acts i ≡ Some a)
of_moves q [] i r a h = absurd (none_some h)
of_moves q (x ∷ xs) zero r a h = (role_is (some_same h), act_is (some_same h))
  where
    role_is : move.Act q x ≡ move.Act r a → q ≡ r
    role_is e = cc

    act_is : move.Act q x ≡ move.Act r a → Some x ≡ Some a
    act_is e = cc
of_moves q (x ∷ xs) (suc i) r a h = of_moves q xs i r a h

no_change : (q : Role) (acts : List Act) (i : ℕ) → slice_get (map (move.Act q) acts) i ≡ Some move.Change → ⊥
no_change q [] i h = none_some h
no_change q (x ∷ xs) zero h = other (some_same h)
  where
    other : move.Act q x ≡ move.Change → ⊥
    other e = cc
no_change q (x ∷ xs) (suc i) h = no_change q xs i h

-- the role that an agenda lists at a place
listed_there : (agenda : List Shown) (doer place : ℕ) (m : Move) → move_at agenda (listed.Act doer place) ≡ Some m
    → (x : Shown) × (slice_get agenda doer ≡ Some x) × (slice_get (moves_of x) place ≡ Some m)
listed_there agenda doer place m h = by_ready (slice_get agenda doer) refl h
  where
    by_ready : (o : Option Shown) → slice_get agenda doer ≡ o → option_and_then (λ (ready : Shown). slice_get (moves_of ready) place) o ≡ Some m
        → (x : Shown) × (slice_get agenda doer ≡ Some x) × (slice_get (moves_of x) place ≡ Some m)
    by_ready None is k = absurd (none_some k)
    by_ready (Some x) is k = (x, is, k)

-- in an agenda of roles
module _ (agenda : List ReadyRole) (doer : ℕ) (ready : ReadyRole) (is : ready ≡ get_or agenda doer ready) where
  seen_at : doer < length agenda → slice_get (map ready_seen agenda) doer ≡ Some (ready_seen ready)
  seen_at inside = got agenda doer inside is
    where
      got : (agenda : List ReadyRole) (i : ℕ) → i < length agenda → ready ≡ get_or agenda i ready → slice_get (map ready_seen agenda) i ≡ Some (ready_seen ready)
      got [] i lt h = absurd (omega (arith, lt))
      got (x ∷ xs) zero lt h = ap (λ (r : ReadyRole). Some (ready_seen r)) (sym h)
      got (x ∷ xs) (suc i) lt h = got xs i (omega (arith, lt)) h

  -- the move that is listed there is one of the role's
  pub move_of_role : (place : ℕ) (m : Move) → move_at (map ready_seen agenda) (listed.Act doer place) ≡ Some m → slice_get (moves_of (ready_seen ready)) place ≡ Some m
  move_of_role place m h =
      let found = listed_there (map ready_seen agenda) doer place m h in
      let inside : doer < length agenda = omega (arith, got_inside (map ready_seen agenda) doer found.0 found.1, length-map agenda ready_seen) in
      ap (λ (x : Shown). slice_get (moves_of x) place) (some_same (sym (seen_at inside) ∙ found.1)) ∙ found.2

  -- and the other way round
  pub listed_by_role : (place : ℕ) (m : Move) → doer < length agenda → slice_get (moves_of (ready_seen ready)) place ≡ Some m
      → move_at (map ready_seen agenda) (listed.Act doer place) ≡ Some m
  listed_by_role place m inside h = ap (option_and_then (λ (x : Shown). slice_get (moves_of x) place)) (seen_at inside) ∙ h

  pub act_of_role : (place : ℕ) (q : Role) (a : Act) → move_at (map ready_seen agenda) (listed.Act doer place) ≡ Some (move.Act q a)
      → (ready.role ≡ q) × (slice_get (ready_seen ready).1 place ≡ Some a)
  act_of_role place q a h = of_moves ready.role (ready_seen ready).1 place q a (move_of_role place (move.Act q a) h)

pub listed_inside : (agenda : List ReadyRole) (doer place : ℕ) (m : Move) → move_at (map ready_seen agenda) (listed.Act doer place) ≡ Some m → doer < length agenda
listed_inside agenda doer place m h =
    let found = listed_there (map ready_seen agenda) doer place m h in
    omega (arith, got_inside (map ready_seen agenda) doer found.0 found.1, length-map agenda ready_seen)

-- what an agenda lists so is the act of a role
pub listed_act : (agenda : List ReadyRole) (doer place : ℕ) (m : Move) → move_at (map ready_seen agenda) (listed.Act doer place) ≡ Some m
    → (q : Role) × (a : Act) × (m ≡ move.Act q a)
listed_act agenda doer place (move.Act q a) there = (q, a, refl)
listed_act agenda doer place move.Change there =
    let found = listed_there (map ready_seen agenda) doer place move.Change there in
    absurd (no_change found.0.0 found.0.1 place found.2)

-- an act that has no fault isn't refused
pub unrefused : (net : NetState) (agenda : List ReadyRole) (doer place : ℕ) → CanMakeListed net (map ready_seen agenda) (listed.Act doer place)
    → (f : StepFault) → IsRefusedAs net (map ready_seen agenda) (listed.Act doer place) f → ⊥
unrefused net agenda doer place can f refused =
    let act = listed_act agenda doer place can.move can.there in
    none_some
    (sym (subst (CanMake net) act.2 can.can)
    ∙ refused act.0 act.1 (can.there ∙ ap Some act.2))

-- the role at a place of a net's agenda is that of the cast
-- and what is listed of it is what is to be
pub role_listed : (net : NetState) (agenda : List ReadyRole) (doer : ℕ) (ready : ReadyRole) → map ready_seen agenda ≡ agenda_of net → ready ≡ get_or agenda doer ready
    → doer < length agenda → (slice_get net.bundle.cast doer ≡ Some ready.role) × (ready_seen ready ≡ ready_in (network_of net) ready.role)
role_listed net agenda doer ready listed is inside =
    listed_at (ready_in (network_of net)) (λ r. refl) net.bundle.cast doer (ready_seen ready)
    (ap (λ (l : List Shown). slice_get l doer) (sym listed) ∙ seen_at agenda doer ready is inside)

pub role_here : (net : NetState) (agenda : List ReadyRole) (doer : ℕ) (ready : ReadyRole) → map ready_seen agenda ≡ agenda_of net → ready ≡ get_or agenda doer ready
    → doer < length agenda → slice_get net.bundle.cast doer ≡ Some ready.role
role_here net agenda doer ready listed is inside = (role_listed net agenda doer ready listed is inside).0

-- a move of a role is the act at one of its places
pub place_listed : (ready : ReadyRole) (place : ℕ) (m : Move) → slice_get (moves_of (ready_seen ready)) place ≡ Some m → place < length ready.ready.items
place_listed ready place m h =
    omega (
      arith,
      got_inside (moves_of (ready_seen ready)) place m h,
      length-map (chosen ready.ready.items ready.acts.items) (move.Act ready.role),
      chosen_long ready.acts.items ready.ready.items ready.inside,
    )

pub move_is : (ready : ReadyRole) (place : ℕ) (m : Move) (x : Act) → slice_get (moves_of (ready_seen ready)) place ≡ Some m
    → x ≡ get_or ready.acts.items (get_or ready.ready.items place 0) x → m ≡ move.Act ready.role x
move_is ready place m x h is =
    some_same
    (sym h ∙ slice_get-map (move.Act ready.role) (chosen ready.ready.items ready.acts.items) place
    ∙ ap (option_map (move.Act ready.role)) (chosen_at ready.acts.items ready.ready.items place x ready.inside (place_listed ready place m h) is))

-- the act of a number is one of the role at which fewer are left than it has
pub number_at : (agenda : List ReadyRole) (i : ℕ) (ready : ReadyRole) (left number : ℕ) → i < length agenda → ready ≡ get_or agenda i ready
    → number ≡ left + length (flat_map moves_of (map ready_seen (take i agenda))) → left < vec_len ready.ready
    → IsListedAs (map ready_seen agenda) (flat_map moves_of (map ready_seen agenda)) number (listed.Act i left)
number_at agenda i ready left number inside is at less =
    let acts : List Move = moves_of (ready_seen ready) in
    let got : slice_get acts left ≡ Some (get_or acts left move.Change) = slice_get-get_or acts left move.Change (omega (arith, less, ready_long ready)) in
    record {
      move = get_or acts left move.Change;
      there = listed_by_role agenda i ready is left (get_or acts left move.Change) inside got;
      is = got_in agenda i ready left number (get_or acts left move.Change) inside is at got;
    }

-- an agenda that is stale at an act, and at a change
pub stale_act : (net : NetState) (doer place : ℕ) (agenda : List Shown) → IsStaleAt net (listed.Act doer place) agenda
    → DidIn net.bundle.cast (network_of net) doer place agenda
stale_act net doer place agenda stale = by_move stale.move stale.there stale.stale
  where
    by_move : (m : Move) → move_at agenda (listed.Act doer place) ≡ Some m → IsStale net (Some m) agenda → DidIn net.bundle.cast (network_of net) doer place agenda
    by_move (move.Act q a) there was = record { role = q; act = a; there = there; was = was }
    by_move move.Change there was =
        let found = listed_there agenda doer place move.Change there in
        absurd (no_change found.0.0 found.0.1 place found.2)

pub stale_change : (net : NetState) (agenda : List Shown) → IsStaleAt net listed.Change agenda → agenda ≡ agenda_of net
stale_change net agenda stale = by_move stale.move stale.there stale.stale
  where
    by_move : (m : Move) → Some move.Change ≡ Some m → IsStale net (Some m) agenda → agenda ≡ agenda_of net
    by_move move.Change there was = was
    by_move (move.Act q a) there was = absurd (other (some_same there))
      where
        other : move.Change ≡ move.Act q a → ⊥
        other e = cc

-- an agenda before the act that it lists is brought up to date
module _ (cast : List Role) (N : Network) (doer place : ℕ) (agenda : List ReadyRole) (did : DidIn cast N doer place (map ready_seen agenda)) where
  pub doer_inside : doer < length agenda
  doer_inside = listed_inside agenda doer place (move.Act did.role did.act) did.there

  module _ (ready : ReadyRole) (is : ready ≡ get_or agenda doer ready) where
    acts : (ready.role ≡ did.role) × (slice_get (ready_seen ready).1 place ≡ Some did.act)
    acts = act_of_role agenda doer ready is place did.role did.act did.there

    in_cast : (slice_get cast doer ≡ Some ready.role) × (ready_seen ready ≡ ready_in did.was.before ready.role)
    in_cast =
        listed_at (ready_in did.was.before) (λ r. refl) cast doer (ready_seen ready)
        (ap (λ (l : List Shown). slice_get l doer) (sym did.was.listed) ∙ seen_at agenda doer ready is doer_inside)

    pub doer_here : slice_get cast doer ≡ Some ready.role
    doer_here = in_cast.0

    pub did_at : DidAt N place (ready_seen ready)
    did_at = record {
      act = did.act;
      listed = acts.1;
      own = record {
        before = did.was.before;
        listed = in_cast.1;
        acted = subst (Acted did.was.before N did.act) (sym acts.0) did.was.acted;
      };
      distinct = subst (λ r. distinct_acts (offers_of did.was.before r) ≡ true) (sym acts.0) did.was.acts;
    }

    -- once the role is listed anew that did it
    pub has_acted : (b : Act) (new : ReadyRole) → slice_get (ready_seen ready).1 place ≡ Some b → ready_seen new ≡ ready_in N ready.role
        → HasActed cast N doer b (map ready_seen (slice_set agenda doer new))
    has_acted b new same so =
        let M = did.was.before in
        let q = did.role in
        let here : slice_get cast doer ≡ Some q = in_cast.0 ∙ ap Some acts.0 in
        record {
          before = M;
          role = q;
          here = here;
          listed = map-set ready_seen agenda doer new
              ∙ ap₂ (λ (l : List Shown) x. slice_set l doer x) did.was.listed
              (so ∙ ap (ready_in N) acts.0 ∙ sym (cond-true (role_eq q q) (ready_in N q) (ready_in M q) (role_itself q)))
              ∙ one_set (ready_in M) (half M N q) cast doer q (λ r apart. sym (cond-false (role_eq r q) (ready_in N r) (ready_in M r) apart)) did.was.roles here;
          follows = subst (λ a. (r : Role) → role_eq r q ≡ false → Follows M N a r) (some_same (sym acts.1 ∙ same)) did.was.follows;
          roles = did.was.roles;
        }

found_inside : (p : ReadyRole → Bool) (agenda : List ReadyRole) (i : ℕ) → position p agenda ≡ Some i → i < length agenda
found_inside p [] i h = absurd (none_some h)
found_inside p (x ∷ xs) i h = (position-Some p (x ∷ xs) i x h).0

-- an act among those that a role can do is listed at the role's place
pub found_act : (agenda : List ReadyRole) (doer place : ℕ) (ready : ReadyRole) (q : Role) (a : Act) → ready ≡ get_or agenda doer ready
    → position (λ (x : ReadyRole). role_eq x.role q) agenda ≡ Some doer → slice_get (ready_seen ready).1 place ≡ Some a
    → move_at (map ready_seen agenda) (listed.Act doer place) ≡ Some (move.Act q a)
found_act agenda doer place ready q a is here got =
    let own : role_eq ready.role q ≡ true =
    ap (λ (x : ReadyRole). role_eq x.role q) is ∙ (position-Some (λ (x : ReadyRole). role_eq x.role q) agenda doer ready here).1 in
    listed_by_role agenda doer ready is place (move.Act q a) (found_inside (λ (x : ReadyRole). role_eq x.role q) agenda doer here)
    (slice_get-map (move.Act ready.role) (ready_seen ready).1 place ∙ ap (option_map (move.Act ready.role)) got
    ∙ ap (λ r. Some (move.Act r a)) (role_same ready.role q own))

-- a role stands at each place of an agenda
pub some_at : (agenda : List ReadyRole) (i : ℕ) → i < length agenda → (ready : ReadyRole) × (ready ≡ get_or agenda i ready)
some_at [] i inside = absurd (omega (arith, inside))
some_at (x ∷ xs) zero inside = (x, refl)
some_at (x ∷ xs) (suc i) inside = some_at xs i (omega (arith, inside))

-- no role of an agenda has this name
nobody_from : (to : Role) (agenda : List ReadyRole) (n : ℕ) → position_from (λ (ready : ReadyRole). role_eq ready.role to) n agenda ≡ None
    → (r : Role) → member r (map (λ (x : Shown). x.0) (map ready_seen agenda)) ≡ true → role_eq r to ≡ false
nobody_from to [] n none r h = absurd (both_ways false refl h)
nobody_from to (x ∷ xs) n none r h = ⊎_elim
    (λ here. absurd (none_some (sym (sym (cond-true (role_eq x.role to) (Some n) (position_from (λ (ready : ReadyRole). role_eq ready.role to) (n + 1) xs) here) ∙ none))))
    (λ there. ⊎_elim
    (λ same. subst (λ q. role_eq q to ≡ false) (sym (role_same r x.role same)) there)
    (λ later. nobody_from to xs (n + 1) (sym (cond-false (role_eq x.role to) (Some n) (position_from (λ (ready : ReadyRole). role_eq ready.role to) (n + 1) xs) there) ∙ none) r later)
    (or_cases (role_eq r x.role) (member r (map (λ (y : Shown). y.0) (map ready_seen xs))) h))
    (cases_Bool (role_eq x.role to))

-- an agenda after the act of a role, of which the others are still to be brought up to date
module _ (cast : List Role) (N : Network) (doer : ℕ) (a : Act) (agenda : List ReadyRole) (done : HasActed cast N doer a (map ready_seen agenda)) where
  abbrev M : Network
  M = done.before

  abbrev q : Role
  q = done.role

  named : (r : Role) → (half M N q r).0 ≡ r
  named r = by_test (role_eq r q)
    where
      by_test : (t : Bool) → (if t then ready_in N r else ready_in M r).0 ≡ r
      by_test true = refl
      by_test false = refl

  unchanged : (r : Role) → (role_eq r q ≡ false → puts_to a r ≡ false) → half M N q r ≡ ready_in N r
  unchanged r none = ⊎_elim
      (λ yes. cond-true (role_eq r q) (ready_in N r) (ready_in M r) yes)
      (λ no. cond-false (role_eq r q) (ready_in N r) (ready_in M r) no
      ∙ stay_listed N a (ready_in M r) (record { before = M; listed = refl; follows = done.follows r no }) (none no))
      (cases_Bool (role_eq r q))

  settled : ((r : Role) → member r cast ≡ true → role_eq r q ≡ false → puts_to a r ≡ false) → map ready_seen agenda ≡ map (ready_in N) cast
  settled none = done.listed ∙ all_same (half M N q) (ready_in N) cast (λ r in_it. unchanged r (none r in_it))

  -- nothing was put
  pub none_came : ((k : Key) → a ≡ act.Put k → ⊥) → map ready_seen agenda ≡ map (ready_in N) cast
  none_came other = settled (λ r in_it apart. none_put a r other)

  module _ (k : Key) (put : a ≡ act.Put k) where
    to_is : (r : Role) → role_eq r k.to ≡ false → puts_to a r ≡ false
    to_is r apart = ap (λ b. puts_to b r) put ∙ apart

    -- to none of the cast
    pub came_to_none : position (λ (ready : ReadyRole). role_eq ready.role k.to) agenda ≡ None → map ready_seen agenda ≡ map (ready_in N) cast
    came_to_none none = settled (λ r in_it apart. to_is r
        (nobody_from k.to agenda 0 (sym (position_from-zero (λ (ready : ReadyRole). role_eq ready.role k.to) agenda) ∙ none) r
        (subst (λ rs. member r rs ≡ true) (sym (ap (map (λ (x : Shown). x.0)) done.listed ∙ roles_listed (half M N q) named cast)) in_it)))

    module _ (to : ℕ) (some : position (λ (ready : ReadyRole). role_eq ready.role k.to) agenda ≡ Some to) where
      pub to_inside : to < length agenda
      to_inside = found_inside (λ (ready : ReadyRole). role_eq ready.role k.to) agenda to some

      module _ (ready : ReadyRole) (is : ready ≡ get_or agenda to ready) where
        is_to : role_eq ready.role k.to ≡ true
        is_to = ap (λ (x : ReadyRole). role_eq x.role k.to) is ∙ (position-Some (λ (x : ReadyRole). role_eq x.role k.to) agenda to ready some).1

        in_its_place : (slice_get cast to ≡ Some ready.role) × (ready_seen ready ≡ half M N q ready.role)
        in_its_place =
            listed_at (half M N q) named cast to (ready_seen ready)
            (ap (λ (l : List Shown). slice_get l to) (sym done.listed) ∙ seen_at agenda to ready is to_inside)

        -- to the role itself
        pub came_to_itself : to ≡ doer → map ready_seen agenda ≡ map (ready_in N) cast
        came_to_itself same =
            let own : ready.role ≡ q = some_same (sym in_its_place.0 ∙ ap (slice_get cast) same ∙ done.here) in
            let is_q : k.to ≡ q = sym (role_same ready.role k.to is_to) ∙ own in
            settled (λ r in_it apart. to_is r (subst (λ x. role_eq r x ≡ false) (sym is_q) apart))

        -- to another
        module _ (other : to ≡ doer → ⊥) where
          apart : role_eq ready.role q ≡ false
          apart = false_from_ne_true (role_eq ready.role q) (λ same. other (sym (one_place cast doer to q ready.role done.roles done.here in_its_place.0 same)))

          pub came_listed : WasListed N (act.Put k) (ready_seen ready)
          came_listed = record {
            before = M;
            listed = in_its_place.1 ∙ cond-false (role_eq ready.role q) (ready_in N ready.role) (ready_in M ready.role) apart;
            follows = subst (λ b. Follows M N b ready.role) put (done.follows ready.role apart);
          }

          pub came_to : (new : ReadyRole) → ready_seen new ≡ ready_in N ready.role → map ready_seen (slice_set agenda to new) ≡ map (ready_in N) cast
          came_to new so =
              map-set ready_seen agenda to new
              ∙ ap₂ (λ (l : List Shown) x. slice_set l to x) done.listed so
              ∙ one_set (half M N q) (ready_in N) cast to ready.role
              (λ r away. unchanged r (λ h. to_is r (subst (λ x. role_eq r x ≡ false) (role_same ready.role k.to is_to) away))) done.roles in_its_place.0

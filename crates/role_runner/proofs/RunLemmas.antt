-- What the history of a closed stage says of the roles that played on it.
use Rattle.std.proofs.Common.{◌≡◌, ◌+◌, ◌≤◌, ℕ, zero, suc, List, [], ◌∷◌, ◌++◌, length, Bool, true, false, ◌&&◌, not, Some, slice_get, refl, sym, ap, ap₂, ◌∙◌, subst, arith, append-nil, length-append}
use Rattle.std.proofs.lemmas.Bool.{and_parts, cond-true, cond-false, not-true, or_left, or_right, both_ways}
use Rattle.std.proofs.lemmas.Option.{slice_get_within}
use Rattle.std.specs.List.{list_all}
use Rattle.dioc_terms.specs.declared.entries.Entry.{Entry}
use Rattle.dioc_terms.specs.declared.names.Role.{Role}
use Rattle.dioc_terms.specs.Equality.{member, role_eq}
use Rattle.dioc_terms.specs.Plain.{PlainBundle}
use Rattle.dioc_terms.specs.Terms.{distinct_roles}
use Rattle.marked_laws.proofs.Equality.{role_itself, role_same}
use Rattle.marked_laws.proofs.Premise.{all_member}
use Rattle.marked_laws.proofs.Shapes.{none_some, some_same}
use Rattle.marked_laws.specs.Laws.{IsSound, NothingLeft}
use Rattle.network_steps.specs.Network.{Network, network_ended, network_run, no_message}
use Rattle.process_steps.specs.Steps.{ended}
use Rattle.net_core.proofs.NetLemmas.{network_is}
use Rattle.net_core.specs.Nets.{network_at}
use Rattle.role_runner.proofs.EndLemmas.{at_within, went_at, went_lengths}
use Rattle.role_runner.specs.Endings.{AllEnded, AllWent, SomeCut}
use Rattle.stage.specs.Laws.{OthersLeaveAlone}
use Rattle.stage.specs.Owners.{cast_place, owner_in}
use Rattle.stage.specs.Roles.{RoleStandsAt}
use Rattle.stage.specs.Seats.{Base, later_views, opening_views}
use Rattle.turn_lock.specs.declared.views.View.{View}
use Rattle.turn_lock.specs.Items.{BeginsWith, items_of}
use Rattle.turn_lock.specs.Views.{number, mine}

-- a role at a place of a cast is of it
pub member_at : (cast : List Role) (i : ℕ) (q : Role) → slice_get cast i ≡ Some q → member q cast ≡ true
member_at [] i q at = absurd (none_some at)
member_at (r ∷ rs) zero q at = or_left (role_eq q r) (member q rs) (subst (λ x. role_eq q x ≡ true) (sym (some_same at)) (role_itself q))
member_at (r ∷ rs) (suc i) q at = or_right (role_eq q r) (member q rs) (member_at rs i q at)

apart : (t : Bool) → (t ≡ true → ⊥) → t ≡ false
apart true h = absurd (h refl)
apart false h = refl

-- each role has one place
pub place_at : (cast : List Role) (i : ℕ) (q : Role) → distinct_roles cast ≡ true → slice_get cast i ≡ Some q → cast_place cast q ≡ i
place_at [] i q distinct at = absurd (none_some at)
place_at (r ∷ rs) zero q distinct at = cond-true (role_eq q r) 0 (suc (cast_place rs q)) (subst (λ x. role_eq q x ≡ true) (sym (some_same at)) (role_itself q))
place_at (r ∷ rs) (suc i) q distinct at =
    let parts = and_parts (not (member r rs)) (distinct_roles rs) distinct in
    cond-false (role_eq q r) 0 (suc (cast_place rs q)) (apart (role_eq q r) (λ same. both_ways (member r rs) (not-true (member r rs) parts.0) (subst (λ x. member x rs ≡ true) (role_same q r same) (member_at rs i q at))))
    ∙ ap suc (place_at rs i q parts.1 at)

-- the seats of a new stage
pub later_length : (base : Base) (n count : ℕ) → length (later_views base n count) ≡ count
later_length base n zero = refl
later_length base n (suc count) = ap suc (later_length base (suc n) count)

pub opening_length : (base : Base) (count : ℕ) → length (opening_views base count) ≡ suc count
opening_length base count = ap suc (later_length base 1 count)

-- what is so of each of them
pub record IsOpening (base : Base) (place : ℕ) (v : View Entry Base) : Type 0 where
  pub based : v.base ≡ Some base
  pub number_is : number v ≡ place
  pub nothing : v.seen ≡ []
  pub none : mine v ≡ []

later_at : (base : Base) (n count i : ℕ) (v : View Entry Base) → slice_get (later_views base n count) i ≡ Some v → IsOpening base (n + i) v
later_at base n zero i v at = absurd (none_some at)
later_at base n (suc count) zero v at = subst (IsOpening base (n + 0)) (some_same at) (record { based = refl; number_is = omega arith; nothing = refl; none = refl })
later_at base n (suc count) (suc i) v at = subst (λ m. IsOpening base m v) (omega arith) (later_at base (suc n) count i v at)

pub opening_at : (base : Base) (count i : ℕ) (v : View Entry Base) → slice_get (opening_views base count) i ≡ Some v → IsOpening base i v
opening_at base count zero v at = subst (IsOpening base 0) (some_same at) (record { based = refl; number_is = refl; nothing = refl; none = refl })
opening_at base count (suc i) v at = subst (λ m. IsOpening base m v) (omega arith) (later_at base 1 count i v at)

-- the whole of a list that a list as long begins with
pub whole : (H seen : List Entry) → BeginsWith H seen → length H ≤ length seen → H ≡ seen
whole H seen begins short = begins.1 ∙ ap (λ r. seen ++ r) (nothing begins.0 (omega (arith, short, ap length begins.1, length-append seen begins.0))) ∙ append-nil seen
  where
    nothing : (rest : List Entry) → length rest ≡ 0 → rest ≡ []
    nothing [] h = refl
    nothing (e ∷ es) h = absurd (omega (arith, h))

-- every role passes the test
all_roles : (p : Role → Bool) (cast : List Role) → ((i : ℕ) (q : Role) → slice_get cast i ≡ Some q → p q ≡ true) → list_all p cast ≡ true
all_roles p [] each = refl
all_roles p (q ∷ qs) each = ap₂ (λ s t. s && t) (each 0 q refl) (all_roles p qs (λ i. each (suc i)))

-- The seats of a stage that was closed: they went on from the opening ones, and the history begins
-- with what each has seen and has no more entries of its number than it has of its own.
pub record Closed (bundle : PlainBundle) (limit : ℕ) (views : List (View Entry Base)) (H : List Entry) : Type 0 where
  pub sound : IsSound bundle
  pub network : Network
  pub runs : network_run bundle H ≡ Some network
  pub within : length H ≤ limit
  pub went : AllWent (opening_views (bundle, limit) (length bundle.cast)) views
  pub own : (i : ℕ) (v : View Entry Base) → slice_get views i ≡ Some v → items_of (owner_in bundle.cast) (number v) H ≡ mine v
  pub begins : (i : ℕ) (v : View Entry Base) → slice_get views i ≡ Some v → BeginsWith H v.seen

module _ (law : OthersLeaveAlone) (distinct : (b : PlainBundle) → IsSound b → distinct_roles b.cast ≡ true) (b : PlainBundle) (limit : ℕ) (views : List (View Entry Base)) (H : List Entry)
    (closed : Closed b limit views H) where
  -- a role of the cast has a seat
  seat_at : (i : ℕ) (q : Role) → slice_get b.cast i ≡ Some q → (v : View Entry Base) × (slice_get views i ≡ Some v)
  seat_at i q at =
      let below = slice_get_within b.cast i q at in
      let same = went_lengths (opening_views (b, limit) (length b.cast)) views closed.went in
      let many = opening_length (b, limit) (length b.cast) in
      at_within views i (omega (arith, below, same, many))

  -- it stands after the history where it stood after what its seat has seen
  stands_after : (i : ℕ) (q : Role) (v : View Entry Base) (P : _) (s : _) → slice_get b.cast i ≡ Some q → slice_get views i ≡ Some v → RoleStandsAt b v.seen q P s → RoleStandsAt b H q P s
  stands_after i q v P s at here stands =
      let from = went_at (opening_views (b, limit) (length b.cast)) views i v closed.went here in
      let opened = opening_at (b, limit) (length b.cast) i from.0 from.1 in
      let number_is : number v ≡ cast_place b.cast q =
      (from.2).number_is ∙ opened.number_is ∙ sym (place_at b.cast i q (distinct b closed.sound) at) in
      let met = (from.2).met (b, limit) ((from.2).base ∙ opened.based) in
      law b v.seen H (mine v) closed.network q P s (closed.begins i v here)
      (subst (λ n. items_of (owner_in b.cast) n H ≡ mine v) number_is (closed.own i v here))
      (subst (λ n. items_of (owner_in b.cast) n v.seen ≡ mine v) number_is met) closed.runs stands

  process_after : (q : Role) (P : _) (s : _) → RoleStandsAt b H q P s → closed.network.processes q ≡ P
  process_after q P s at = ap (λ (N : Network). N.processes q) (some_same (sym closed.runs ∙ at.runs)) ∙ at.process

  network_there : network_at b H ≡ closed.network
  network_there = network_is b H closed.network closed.runs

  none_left : (pending : List _) → pending ≡ [] → no_message pending ≡ true
  none_left pending h = ap no_message h

  -- where each role's process has ended, the network has
  pub run_ended : NothingLeft → AllEnded b views → network_ended b.cast (network_at b H) ≡ true
  run_ended nothing ended_all =
      let all = all_roles (λ q. ended (closed.network.processes q)) b.cast (λ i q at.
      let seat = seat_at i q at in
      let end = ended_all i q seat.0 at seat.1 in
      ap ended (process_after q end.process end.store (stands_after i q seat.0 end.process end.store at seat.1 end.stands)) ∙ end.done) in
      ap (network_ended b.cast) network_there
      ∙ ap₂ (λ s t. s && t) all (ap no_message (nothing b H closed.network closed.sound closed.runs all))

  -- where a role was cut, the network has not, and the history is full
  module _ (cut : SomeCut b limit views) where
    seen_whole : H ≡ cut.view.seen
    seen_whole = whole H cut.view.seen (closed.begins cut.place cut.view cut.here) (let full = cut.full in let within = closed.within in omega (arith, full, within))

    pub run_full : length H ≡ limit
    run_full = ap length seen_whole ∙ cut.full

    pub run_goes : network_ended b.cast (network_at b H) ≡ false
    run_goes = ap (network_ended b.cast) network_there ∙ apart (network_ended b.cast closed.network) (λ over.
        both_ways (ended cut.process) cut.goes
        (ap ended (sym (process_after cut.role cut.process cut.store (stands_after cut.place cut.role cut.view cut.process cut.store cut.at cut.here cut.stands)))
        ∙ all_member (λ q. ended (closed.network.processes q)) b.cast cut.role
        (and_parts (list_all (λ q. ended (closed.network.processes q)) b.cast) (no_message closed.network.pending) over).0 (member_at b.cast cut.place cut.role cut.at)))

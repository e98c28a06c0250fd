-- What a hold leaves its seat.
use Rattle.std.proofs.Common.{◌≡◌, ◌≢◌, ℕ, List, [], ◌∷◌, ◌++◌, Option, Some, None, refl, sym, ap, ◌∙◌, subst}
use Rattle.dioc_terms.specs.declared.entries.Act.{Act}
use Rattle.dioc_terms.specs.declared.entries.Entry.{Entry}
use Rattle.dioc_terms.specs.declared.names.Role.{Role}
use Rattle.dioc_terms.specs.declared.processes.Key.{Key}
use Rattle.dioc_terms.specs.Messages.{doer, act_of}
use Rattle.dioc_terms.specs.Attempts.{Does}
use Rattle.dioc_terms.specs.Plain.{PlainBundle, setting}
use Rattle.dioc_terms.specs.Processes.{Process}
use Rattle.dioc_terms.specs.Stores.{Store}
use Rattle.marked_laws.proofs.Shapes.{some_same}
use Rattle.network_steps.specs.Network.{Network, given_at}
use Rattle.process_steps.specs.Steps.{Deed, Given, Alone, entry_of, step, store_after}
use Rattle.turn_lock.specs.declared.views.View.{View}
use Rattle.turn_lock.specs.Items.{BeginsWith, items_of}
use Rattle.turn_lock.specs.Views.{number, mine, entered, left, left_with}
use Rattle.stage.specs.declared.faults.CommitFault.{CommitFault}
use Rattle.stage.specs.declared.faults.CommitFault.TheVariants as fault
use Rattle.stage.specs.Homes.{HomeState, IsSoundHome, with_entry}
use Rattle.stage.specs.Laws.{DeedsMove, OthersLeaveAlone}
use Rattle.stage.specs.Owners.{cast_place, owner_in}
use Rattle.stage.specs.Roles.{RoleStandsAt, CanAdd, CanDo, CanTake}
use Rattle.stage.proofs.OwnLemmas.{is_own}
use Rattle.process_steps.specs.Laws.{StepsShowTheirActs}
use Rattle.stage.specs.Seats.{Base, Added, CanCommit, CanCommitOwn, CanReceive, Committed, CommittedOwn, RefusedFor, SitsFor, StillStands}

-- a role that stands there does there what it can
does_there : (b : PlainBundle) (H : List Entry) (q : Role) (a : Act) (given : Given) (d : Deed) (P : Process) (s : Store) → RoleStandsAt b H q P s → (can : CanDo b H q a given d)
    → step q s P a given ≡ Does d can.next
does_there b H q a given d P s at can =
    let here : at.network ≡ can.stands.network = some_same (sym at.runs ∙ can.stands.runs) in
    let process : P ≡ can.process = sym at.process ∙ ap (λ (N : Network). N.processes q) here ∙ can.stands.process in
    let store : s ≡ can.store = sym at.store ∙ ap (λ (N : Network). N.stores q) here ∙ can.stands.store in
    (λ i. step q (store i) (process i) a given) ∙ can.does

module _ (v : View Entry Base) (home : HomeState) (base : v.base ≡ Some (home.bundle, home.limit)) where
  base_is : (b : Base) → v.base ≡ Some b → (home.bundle, home.limit) ≡ b
  base_is b h = some_same (sym base ∙ h)

  -- what the turn lock says of a seat that enters, said of roles
  pub still_stands : OthersLeaveAlone → BeginsWith home.history v.seen → items_of (owner_in home.bundle.cast) (number v) home.history ≡ mine v
      → items_of (owner_in home.bundle.cast) (number v) v.seen ≡ mine v → IsSoundHome home → StillStands v home.history
  still_stands law begins own met sound = record {
    begins = begins;
    own = λ b is. subst (λ (c : Base). items_of (owner_in c.0.cast) (number v) home.history ≡ mine v) (base_is b is) own;
    stands = λ b q P s sits at.
        let same = base_is b sits.0 in
        let place : number v ≡ cast_place home.bundle.cast q = sits.1 ∙ ap (λ (c : Base). cast_place c.0.cast q) (sym same) in
        subst (λ (c : Base). RoleStandsAt c.0 v.seen q P s → RoleStandsAt c.0 home.history q P s) same
        (law home.bundle v.seen home.history (mine v) sound.network q P s begins
        (subst (λ n. items_of (owner_in home.bundle.cast) n home.history ≡ mine v) place own)
        (subst (λ n. items_of (owner_in home.bundle.cast) n v.seen ≡ mine v) place met) sound.runs) at;
  }

  -- a take that its role offered is one that it offers still
  pub take_now : StillStands v home.history → (q : Role) (k : Key) (x : Option (List ℕ)) → CanReceive v q k x → CanTake home.bundle home.history q k x
  take_now still q k x can =
      let here = can (home.bundle, home.limit) base in
      record {
        process = here.1.process;
        store = here.1.store;
        stands = still.stands (home.bundle, home.limit) q here.1.process here.1.store (base, here.0) here.1.stands;
        offers = here.1.offers;
        shows = here.1.shows;
      }

  -- what an entry more leaves its seat
  abbrev pub added_one : StillStands v home.history → (fault_of : HomeState → Option CommitFault) → IsSoundHome home → (e : Entry) → fault_of home ≡ None → IsSoundHome (with_entry home e)
      → items_of (owner_in home.bundle.cast) (number v) (home.history ++ e ∷ []) ≡ mine v ++ e ∷ []
      → Added fault_of v (left_with (entered v home.history) (e ∷ [])) e
  added_one still fault_of sound e free after own = record {
    same_base = refl;
    same_number = refl;
    same_made = refl;
    one_more = refl;
    home = home;
    found = record { base = base; history = refl; sound = sound };
    free = free;
    begins = still.begins;
    seen = refl;
    own = own;
    after = after;
  }

  module _ (still : StillStands v home.history) (q : Role) (a : Act) (given : Given) (d : Deed) where
    -- what the role could do after what its seat had seen, it can do in the home that is found
    pub can_now : CanCommit v q a given d → CanDo home.bundle home.history q a given d
    can_now can =
        let here = can (home.bundle, home.limit) base in
        record {
          process = here.1.process;
          store = here.1.store;
          stands = still.stands (home.bundle, home.limit) q here.1.process here.1.store (base, here.0) here.1.stands;
          next = here.1.next;
          does = here.1.does;
        }

    -- the role stands where its step took it
    pub moved_on : DeedsMove → (sound : IsSoundHome home) → (can : CanDo home.bundle home.history q a given d) → given ≡ given_at (setting home.bundle) sound.network q a
        → doer (entry_of d) ≡ Some q → act_of (entry_of d) ≡ Some a → (b : Base) (P : Process) (s : Store) → SitsFor v b q → RoleStandsAt b.0 v.seen q P s
        → (Q : Process) × (step q s P a given ≡ Does d Q) × RoleStandsAt b.0 (home.history ++ entry_of d ∷ []) q Q (store_after d s)
    moved_on law sound can fits who acts b P s sits at =
        let same = base_is b sits.0 in
        let now : RoleStandsAt home.bundle home.history q P s =
        subst (λ (c : Base). RoleStandsAt c.0 home.history q P s) (sym same) (still.stands b q P s sits at) in
        let does = does_there home.bundle home.history q a given d P s now can in (
          can.next,
          does,
          subst (λ (c : Base). RoleStandsAt c.0 (home.history ++ entry_of d ∷ []) q can.next (store_after d s)) same
              (law home.bundle home.history sound.network q P s a d can.next sound.runs now (ap (step q s P a) (sym fits) ∙ does) who acts),
        )

    -- what a commit leaves its seat
    abbrev pub committed_here : (fault_of : HomeState → Option CommitFault) → DeedsMove → (sound : IsSoundHome home) → CanDo home.bundle home.history q a given d
        → given ≡ given_at (setting home.bundle) sound.network q a → doer (entry_of d) ≡ Some q → act_of (entry_of d) ≡ Some a → fault_of home ≡ None
        → IsSoundHome (with_entry home (entry_of d)) → items_of (owner_in home.bundle.cast) (number v) (home.history ++ entry_of d ∷ []) ≡ mine v ++ entry_of d ∷ []
        → Committed fault_of v (left_with (entered v home.history) (entry_of d ∷ [])) q a given d
    committed_here fault_of law sound can fits who acts free after own = record {
      added = added_one still fault_of sound (entry_of d) free after own;
      came = fits;
      moved = moved_on law sound can fits who acts;
    }

    pub committed : (fault_of : HomeState → Option CommitFault) → DeedsMove → (sound : IsSoundHome home) → CanDo home.bundle home.history q a given d
        → given ≡ given_at (setting home.bundle) sound.network q a → doer (entry_of d) ≡ Some q → act_of (entry_of d) ≡ Some a → fault_of home ≡ None
        → IsSoundHome (with_entry home (entry_of d)) → items_of (owner_in home.bundle.cast) (number v) (home.history ++ entry_of d ∷ []) ≡ mine v ++ entry_of d ∷ []
        → (w : View Entry Base) → w ≡ left_with (entered v home.history) (entry_of d ∷ []) → Committed fault_of v w q a given d
    committed fault_of law sound can fits who acts free after own w is =
        subst (λ u. Committed fault_of v u q a given d) (sym is) (committed_here fault_of law sound can fits who acts free after own)

  -- what a refusal leaves its seat
  pub refused : StillStands v home.history → IsSoundHome home → (fault_of : HomeState → Option CommitFault) (f : CommitFault) → (f ≢ fault.Memory → fault_of home ≡ Some f)
      → (w : View Entry Base) → w ≡ left (entered v home.history) → RefusedFor fault_of v w f
  refused still sound fault_of f first w is = subst (λ u. RefusedFor fault_of v u f) (sym is) (record {
    looked = record { same_base = refl; same_number = refl; same_made = refl; same_mine = refl; still = still };
    home = home;
    found = record { base = base; history = refl; sound = sound };
    first = first;
  })

  -- what a role could do alone it can do in the home that is found
  pub can_add_now : StillStands v home.history → (e : Entry) → CanCommitOwn v e → CanAdd home.bundle home.history e
  can_add_now still e can = record {
    role = can.role;
    act = can.act;
    deed = can.deed;
    is_own = can.is_own;
    who = can.who;
    can = can_now still can.role can.act Alone can.deed can.can;
  }

  -- what its commit leaves its seat
  pub committed_own : StillStands v home.history → (e : Entry) → (can : CanCommitOwn v e) → (fault_of : HomeState → Option CommitFault) → DeedsMove → StepsShowTheirActs → IsSoundHome home
      → fault_of home ≡ None → IsSoundHome (with_entry home e) → items_of (owner_in home.bundle.cast) (number v) (home.history ++ e ∷ []) ≡ mine v ++ e ∷ []
      → (w : View Entry Base) → w ≡ left_with (entered v home.history) (e ∷ []) → CommittedOwn fault_of v w e
  committed_own still e can fault_of law shows sound free after counts w is =
      let own = is_own e can.deed can.is_own in
      let here = can_now still can.role can.act Alone can.deed can.can in
      let acts = shows can.role here.store here.process can.act Alone can.deed here.next here.does in
      record {
        role = can.role;
        act = can.act;
        deed = can.deed;
        is_own = can.is_own;
        who = can.who;
        done = committed still can.role can.act Alone can.deed fault_of law sound here
            (own.alone (setting home.bundle) sound.network can.role can.act acts)
            (ap doer own.shows ∙ can.who) acts free
            (subst (λ x. IsSoundHome (with_entry home x)) (sym own.shows) after)
            (subst (λ x. items_of (owner_in home.bundle.cast) (number v) (home.history ++ x ∷ []) ≡ mine v ++ x ∷ []) (sym own.shows) counts) w
            (is ∙ ap (λ x. left_with (entered v home.history) (x ∷ [])) (sym own.shows));
      }

-- A whole hold, from the equations that its calls give: what is found under the lock, what is there when it is left, and what the seat then knows.
use Rattle.std.proofs.Common.{◌≡◌, ◌≢◌, List, [], ◌∷◌, ◌++◌, length, ℕ, Option, Some, None, IfSome, refl, sym, ap, ◌∙◌, subst}
use Rattle.std.specs.Option.{option_map_or}
use Rattle.dioc_terms.specs.declared.entries.Act.{Act}
use Rattle.dioc_terms.specs.declared.entries.Act.TheVariants as act
use Rattle.dioc_terms.specs.declared.entries.Entry.{Entry}
use Rattle.dioc_terms.specs.declared.names.Role.{Role}
use Rattle.dioc_terms.specs.declared.processes.Key.{Key}
use Rattle.dioc_terms.specs.Messages.{doer, act_of}
use Rattle.dioc_terms.specs.Plain.{setting}
use Rattle.dioc_terms.specs.Processes.{Load}
use Rattle.network_steps.specs.Network.{Network, given_at, pending_at}
use Rattle.process_steps.specs.Laws.{StepsShowTheirActs}
use Rattle.process_steps.specs.Steps.{Deed, Given, Alone, Got, Takes, entry_of}
use Rattle.net_core.proofs.NetLemmas.{network_is}
use Rattle.net_core.specs.Deeds.{message_given}
use Rattle.net_core.specs.Nets.{network_at}
use Rattle.turn_lock.specs.declared.views.Claim.{Claim}
use Rattle.turn_lock.specs.declared.views.View.{View}
use Rattle.turn_lock.specs.Items.{Shares, items_of}
use Rattle.turn_lock.specs.Views.{number, mine, entered, left, left_with}
use Rattle.stage.proofs.HomeLemmas.{Laws, take_can}
use Rattle.stage.proofs.SeatLemmas.{can_now, committed, committed_own, refused, take_now}
use Rattle.stage.specs.declared.faults.CommitFault.{CommitFault}
use Rattle.stage.specs.declared.faults.CommitFault.TheVariants as fault
use Rattle.stage.specs.Homes.{HomeState, IsSoundHome, with_entry}
use Rattle.stage.specs.Laws.{DeedsMove}
use Rattle.stage.specs.Owners.{cast_place, owner_in}
use Rattle.stage.specs.Seats.{Base, CanCommit, CanCommitOwn, CanReceive, Committed, CommittedOwn, IsClosed, RefusedFor, StillStands}

-- A seat of the view v has the turn with the view u, and has found `home`. A call that was lent what was found has added the entry; what it left is `next`.
pub record Grown (v u : View Entry Base) (home next : HomeState) (e : Entry) : Type 0 where
  pub view : u ≡ entered v home.history
  pub added : next ≡ with_entry home e

-- from what the calls of a hold say, of which one was lent the home as it was found
pub grown_by : (v u : View Entry Base) (home lent next : HomeState) (e : Entry) → u ≡ entered v home.history → lent ≡ home → next ≡ with_entry lent e → Grown v u home next e
grown_by v u home lent next e view same added = record { view = view; added = added ∙ ap (λ (h : HomeState). with_entry h e) same }

-- the entry is the one item more of the seat
pub own_item : (v u : View Entry Base) (home next : HomeState) (e : Entry) → Grown v u home next e → owner_in home.bundle.cast e ≡ number v
    → (x : Entry) × (next.history ≡ u.seen ++ x ∷ []) × (owner_in next.bundle.cast x ≡ number u)
own_item v u home next e grown owns = (
  e,
  ap (λ (h : HomeState). h.history) grown.added ∙ ap (λ (w : View Entry Base). w.seen ++ e ∷ []) (sym grown.view),
  ap (λ (h : HomeState). owner_in h.bundle.cast e) grown.added ∙ owns ∙ ap (λ (w : View Entry Base). number w) (sym grown.view),
)

-- the seat has left with the one item more that it finds there, and knows all of its number
pub record Leaves (u w : View Entry Base) (next : HomeState) : Type 0 where
  pub view : (x : Entry) → next.history ≡ u.seen ++ x ∷ [] → w ≡ left_with u (x ∷ [])
  pub own : items_of (owner_in next.bundle.cast) (number w) next.history ≡ mine w

-- what the seat knows once it has left
pub left_grown : (v u w : View Entry Base) (home next : HomeState) (e : Entry) → Grown v u home next e
    → Leaves u w next → w ≡ left_with (entered v home.history) (e ∷ [])
left_grown v u w home next e grown leaves =
    leaves.view e (ap (λ (h : HomeState). h.history) grown.added ∙ ap (λ (x : View Entry Base). x.seen ++ e ∷ []) (sym grown.view))
    ∙ ap (λ (x : View Entry Base). left_with x (e ∷ [])) grown.view

-- the seat's own entries are all of its number
pub own_grown : (v u w : View Entry Base) (home next : HomeState) (e : Entry) → Grown v u home next e → Leaves u w next
    → items_of (owner_in home.bundle.cast) (number v) (home.history ++ e ∷ []) ≡ mine v ++ e ∷ []
own_grown v u w home next e grown leaves =
    subst (λ (x : View Entry Base). items_of (owner_in home.bundle.cast) (number x) (home.history ++ e ∷ []) ≡ mine x) (left_grown v u w home next e grown leaves)
    (subst (λ (h : HomeState). items_of (owner_in h.bundle.cast) (number w) h.history ≡ mine w) grown.added leaves.own)

-- what the seat knows once it has left what it found
pub left_same : (v u w : View Entry Base) (home : HomeState) → u ≡ entered v home.history → w ≡ left u → w ≡ left (entered v home.history)
left_same v u w home view leaves = leaves ∙ ap (λ (x : View Entry Base). left x) view

-- what a refusal leaves the seat, from what the calls of a hold say, of which one was lent the home as it was found
pub refused_hold : (v u w : View Entry Base) (home lent : HomeState) → v.base ≡ Some (home.bundle, home.limit) → StillStands v home.history → IsSoundHome home
    → u ≡ entered v home.history → lent ≡ home → w ≡ left u → (fault_of : HomeState → Option CommitFault) (f : CommitFault) → (f ≢ fault.Memory → fault_of lent ≡ Some f)
    → RefusedFor fault_of v w f
refused_hold v u w home lent base still sound view same leaves fault_of f first =
    refused v home base still sound fault_of f (subst (λ (h : HomeState). f ≢ fault.Memory → fault_of h ≡ Some f) same first) w (left_same v u w home view leaves)

pub if_some : {A : Type 0} (P Q : A → Type 0) (o : Option A) → IfSome o P → ((x : A) → P x → Q x) → IfSome o Q
if_some P Q None h f = tt
if_some P Q (Some x) h f = f x h

-- what a home that was closed leaves
pub closed : (v : View Entry Base) (home : HomeState) (H : List Entry) (claims : List (Claim Entry)) → v.base ≡ Some (home.bundle, home.limit) → H ≡ home.history → IsSoundHome home
    → Shares (owner_in home.bundle.cast) home.history claims → IsClosed v H claims
closed v home H claims base same sound shares = record {
  home = home;
  found = record { base = base; history = sym same; sound = sound };
  shares = subst (λ h. Shares (owner_in home.bundle.cast) h claims) (sym same) shares;
}

-- the role's place is the seat's number
pub place_of : (v : View Entry Base) (home : HomeState) (q : Role) (a : Act) (given : Given) (d : Deed) → v.base ≡ Some (home.bundle, home.limit) → CanCommit v q a given d
    → number v ≡ cast_place home.bundle.cast q
place_of v home q a given d base can = (can (home.bundle, home.limit) base).0

-- the seat owns what its role does alone
pub own_entry : (v : View Entry Base) (home : HomeState) (e : Entry) → v.base ≡ Some (home.bundle, home.limit) → CanCommitOwn v e → owner_in home.bundle.cast e ≡ number v
own_entry v home e base can =
    ap (λ o. option_map_or (cast_place home.bundle.cast) o (length home.bundle.cast)) can.who
    ∙ sym (place_of v home can.role can.act Alone can.deed base can.can)

module _ (v u w : View Entry Base) (home next : HomeState) (base : v.base ≡ Some (home.bundle, home.limit)) (still : StillStands v home.history) (sound : IsSoundHome home)
    (fault_of : HomeState → Option CommitFault) (free : fault_of home ≡ None) (law : DeedsMove) (after : IsSoundHome next) where
  -- a role's deed that needs nothing from outside
  pub did_alone : (q : Role) (a : Act) (d : Deed) → CanCommit v q a Alone d → Alone ≡ given_at (setting home.bundle) sound.network q a
      → doer (entry_of d) ≡ Some q → act_of (entry_of d) ≡ Some a → Grown v u home next (entry_of d)
      → Leaves u w next → Committed fault_of v w q a Alone d
  did_alone q a d can fits who acts grown leaves =
      committed v home base still q a Alone d fault_of law sound (can_now v home base still q a Alone d can) fits who acts free
      (subst IsSoundHome grown.added after) (own_grown v u w home next (entry_of d) grown leaves) w (left_grown v u w home next (entry_of d) grown leaves)

  -- a take, with the message that is pending
  pub did_take : Laws → (k : Key) (x : Option (List ℕ)) (l : Load) → CanReceive v k.to k x → pending_at k (network_at home.bundle home.history).pending ≡ Some l
      → Grown v u home next (entry_of (Takes k x l)) → Leaves u w next
      → Committed fault_of v w k.to (act.Take k) (Got l) (Takes k x l)
  did_take laws k x l can there grown leaves =
      let pending : pending_at k sound.network.pending ≡ Some l =
      sym (ap (λ (N : Network). pending_at k N.pending) (network_is home.bundle home.history sound.network sound.runs)) ∙ there in
      committed v home base still k.to (act.Take k) (Got l) (Takes k x l) fault_of law sound
      (take_can laws home.bundle home.history sound.network sound.sound sound.runs k.to k x (take_now v home base still k.to k x can) l pending)
      (sym (ap message_given pending)) refl refl free
      (subst IsSoundHome grown.added after) (own_grown v u w home next (entry_of (Takes k x l)) grown leaves) w
      (left_grown v u w home next (entry_of (Takes k x l)) grown leaves)

  -- what a role does alone, by its entry
  pub did_own : StepsShowTheirActs → (e : Entry) → CanCommitOwn v e → Grown v u home next e
      → Leaves u w next → CommittedOwn fault_of v w e
  did_own shows e can grown leaves =
      committed_own v home base still e can fault_of law shows sound free
      (subst IsSoundHome grown.added after) (own_grown v u w home next e grown leaves) w (left_grown v u w home next e grown leaves)

-- The agenda of a net: what each role can do now, and what of it an act may change.
use Rattle.std.specs.Prelude.{◌≡◌, true, ◌+◌, ◌-◌, ℕ, List, [], length, map, drop, take, Bool, false, ◌∷◌, ◌++◌, ◌||◌, nat_le, nat_lt, Option, Some, None, if◌then◌else◌, option_and_then, slice_get}
use Rattle.std.specs.List.{list_any}
use Rattle.dioc_terms.specs.declared.entries.Act.{Act}
use Rattle.dioc_terms.specs.declared.entries.Act.TheVariants as act
use Rattle.dioc_terms.specs.declared.names.Role.{Role}
use Rattle.dioc_terms.specs.declared.processes.Key.{Key}
use Rattle.dioc_terms.specs.Equality.{key_eq, role_eq}
use Rattle.network_steps.specs.Network.{Network}
use Rattle.network_steps.specs.Schedule.{is_ready}
use Rattle.network_steps.specs.declared.moves.Move.{Move}
use Rattle.network_steps.specs.declared.moves.Move.TheVariants as move
use Rattle.net_core.specs.MovesIn.{chosen, ready_of}
use Rattle.net_core.specs.Nets.{NetState, network_of}
use Rattle.net_core.specs.Places.{offers_of, places_from, places_of}
use Rattle.process_steps.specs.Steps.{is_offered}
use Rattle.dioc_terms.specs.Terms.{distinct_roles}
use Rattle.marked_laws.specs.Offers.{distinct_acts}
use Rattle.schedule.specs.declared.roles.Listed.{Listed}
use Rattle.schedule.specs.declared.roles.Listed.TheVariants as listed
use Rattle.schedule.specs.declared.roles.ReadyRole.{ReadyRole}

-- a role, the acts that it can do, all acts that its process offers, and the places among them of
-- those that it can do
abbrev pub Shown : Type 0
Shown = Role × List Act × List Act × List ℕ

-- what is listed of a role, as a proof sees it
abbrev pub ready_seen : ReadyRole → Shown
ready_seen ready =
    (ready.role, chosen ready.ready.items ready.acts.items, ready.acts.items, ready.ready.items)

abbrev pub moves_of : Shown → List Move
moves_of ready = map (move.Act ready.0) ready.1

-- what is to be listed of a role in a network
abbrev pub ready_in : Network → Role → Shown
ready_in N q = (q, ready_of N q, offers_of N q, places_of (is_ready N) (offers_of N q))

-- what is to be listed of each role now, in the cast's order
abbrev pub agenda_of : NetState → List Shown
agenda_of net = map (ready_in (network_of net)) net.bundle.cast

-- the move that an agenda lists there
abbrev pub move_at : List Shown → Listed → Option Move
move_at agenda listed.Change = Some move.Change
move_at agenda (listed.Act doer place) =
    option_and_then (λ ready. slice_get (moves_of ready) place) (slice_get agenda doer)

-- an agenda lists a move there
pub record IsListed (agenda : List Shown) (made : Listed) : Type 0 where
  pub move : Move
  pub there : move_at agenda made ≡ Some move

-- it is the one of this number among these moves
pub record IsListedAs (agenda : List Shown) (all : List Move) (number : ℕ) (made : Listed)
    : Type 0 where
  pub move : Move
  pub there : move_at agenda made ≡ Some move
  pub is : slice_get all number ≡ Some move

-- whether the act puts a message to the role
abbrev pub puts_to : Act → Role → Bool
puts_to (act.Put k) r = role_eq r k.to
puts_to _ r = false

-- whether the other act takes the message of this key
abbrev pub takes : Key → Act → Bool
takes k (act.Take j) = key_eq j k
takes k _ = false

-- whether the act puts the message that the other takes
abbrev pub brings : Act → Act → Bool
brings (act.Put k) a = takes k a
brings _ a = false

-- a place put before the first that isn't below it, unless it is that one
abbrev pub with_place : ℕ → List ℕ → List ℕ
with_place n [] = n ∷ []
with_place n (m ∷ ms) =
    if nat_le n m then if nat_le m n then m ∷ ms else n ∷ m ∷ ms else m ∷ with_place n ms

-- the places of some acts, and of others behind them of which the first has this place
abbrev pub parted : (Act → Bool) → ℕ → List Act → List Act → List ℕ
parted p n front back = places_of p front ++ places_from p n back

-- of these places one is that of an act that was taken out, and the others are those of the acts
-- before it and behind it
pub record StandsAt (p : Act → Bool) (place at : ℕ) (acts : List Act) (places : List ℕ)
    : Type 0 where
  pub split : places ≡ places_of p (take at acts) ++ (at ∷ places_from p (at + 1) (drop at acts))
  pub long : place ≡ length (places_of p (take at acts))

-- these are all acts that are offered, and the places of those that can be done
pub record IsFilled (N : Network) (offers : List Act) (acts : List Act) (places : List ℕ)
    : Type 0 where
  pub all : acts ≡ offers
  pub ready : places ≡ places_of (is_ready N) acts

-- where a place behind this one is, once so many acts stand there in place of one
abbrev pub moved : ℕ → ℕ → ℕ → ℕ
moved at count place = if nat_lt at place then (place - 1) + count else place

-- others stand in a list of acts in place of the first that is this one
pub record MakesWay (a : Act) (old new : List Act) : Type 0 where
  pub front : List Act
  pub back : List Act
  pub news : List Act
  pub was : old ≡ front ++ a ∷ back
  pub first : is_offered a front ≡ false
  pub now : new ≡ front ++ (news ++ back)

-- whether the act of a role may change which of its other acts it can do: it puts a message to the
-- role itself, or takes one that another of them takes
abbrev pub disturbs : Role → Act → List Act → Bool
disturbs q (act.Put k) others = role_eq k.to q
disturbs q (act.Take k) others = list_any (takes k) others
disturbs q _ others = false

-- a role that didn't act offers after the act what it did before, and of that it can do what it
-- could, and the takes of a message that is put to it
pub record Follows (M N : Network) (a : Act) (r : Role) : Type 0 where
  pub offers : offers_of N r ≡ offers_of M r
  pub ready : places_of (is_ready N) (offers_of M r)
      ≡ places_of (λ b. brings a b || is_ready M b) (offers_of M r)
  pub same : puts_to a r ≡ false
      → places_of (is_ready N) (offers_of M r) ≡ places_of (is_ready M) (offers_of M r)

-- a role that acted offers after the act what it did before, but in place of the act what comes in
-- its place; and of the rest it can do what it could, unless the act disturbs it
pub record Acted (M N : Network) (a : Act) (r : Role) : Type 0 where
  pub way : MakesWay a (offers_of M r) (offers_of N r)
  pub front : disturbs r a (way.front ++ way.back) ≡ false
      → places_of (is_ready N) way.front ≡ places_of (is_ready M) way.front
  pub back : disturbs r a (way.front ++ way.back) ≡ false
      → places_from (is_ready N) (length way.front + 1) way.back
      ≡ places_from (is_ready M) (length way.front + 1) way.back

-- what is listed of a role is that from before the act of another, in some network
pub record WasListed (N : Network) (a : Act) (ready : Shown) : Type 0 where
  pub before : Network
  pub listed : ready ≡ ready_in before ready.0
  pub follows : Follows before N a ready.0

-- what is listed of a role is that from before its own act, in some network
pub record WasOwn (N : Network) (a : Act) (ready : Shown) : Type 0 where
  pub before : Network
  pub listed : ready ≡ ready_in before ready.0
  pub acted : Acted before N a ready.0

-- the same where the act stands at one of the places of those that the role can do
pub record DidAt (N : Network) (place : ℕ) (ready : Shown) : Type 0 where
  pub act : Act
  pub listed : slice_get ready.1 place ≡ Some act
  pub own : WasOwn N act ready
  pub distinct : distinct_acts (offers_of own.before ready.0) ≡ true

-- an agenda is that of a network before an act of the role: no role and no act stands twice in it
pub record WasAgenda (cast : List Role) (N : Network) (q : Role) (a : Act) (agenda : List Shown)
    : Type 0 where
  pub before : Network
  pub listed : agenda ≡ map (ready_in before) cast
  pub acted : Acted before N a q
  pub follows : (r : Role) → role_eq r q ≡ false → Follows before N a r
  pub roles : distinct_roles cast ≡ true
  pub acts : distinct_acts (offers_of before q) ≡ true

-- it lists the act there
pub record DidIn (cast : List Role) (N : Network) (doer place : ℕ) (agenda : List Shown)
    : Type 0 where
  pub role : Role
  pub act : Act
  pub there : move_at agenda (listed.Act doer place) ≡ Some (move.Act role act)
  pub was : WasAgenda cast N role act agenda

-- what is listed of a role once this role is listed as after its act
abbrev pub half : Network → Network → Role → Role → Shown
half M N q r = if role_eq r q then ready_in N r else ready_in M r

-- an agenda lists the role that acted as after its act, and the others as before it
pub record HasActed (cast : List Role) (N : Network) (doer : ℕ) (a : Act) (agenda : List Shown)
    : Type 0 where
  pub before : Network
  pub role : Role
  pub here : slice_get cast doer ≡ Some role
  pub listed : agenda ≡ map (half before N role) cast
  pub follows : (r : Role) → role_eq r role ≡ false → Follows before N a r
  pub roles : distinct_roles cast ≡ true

-- an agenda from before the last move, which was this one; before the first there is none
abbrev pub IsStale : NetState → Option Move → List Shown → Type 0
IsStale net None agenda = Unit {0}
IsStale net (Some move.Change) agenda = agenda ≡ agenda_of net
IsStale net (Some (move.Act q a)) agenda =
    WasAgenda net.bundle.cast (network_of net) q a agenda

-- it lists the move there
pub record IsStaleAt (net : NetState) (made : Listed) (agenda : List Shown) : Type 0 where
  pub move : Move
  pub there : move_at agenda made ≡ Some move
  pub stale : IsStale net (Some move) agenda

abbrev pub IsBehind : NetState → Option Listed → List Shown → Type 0
IsBehind net None agenda = Unit {0}
IsBehind net (Some made) agenda = IsStaleAt net made agenda

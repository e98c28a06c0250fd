-- A place in which another process comes: a scope that an update replaces, and a tell once its
-- first message is put.
use Rattle.std.specs.Prelude.{◌≡◌, Bool, true, false, Option, None, Some, Box}
use Rattle.std.specs.Global.{Global}
use Rattle.dioc_terms.specs.declared.names.Role.{Role}
use Rattle.dioc_terms.specs.Processes.{Process, Skip, ScopeLead, ScopeFollow, Tell, More, Part, letters, process}
use Rattle.dpoc_process.specs.Growth.{follower_end, leader_end}
use Rattle.dpoc_process.specs.Handed.{Handed, Message, Parted}
use Rattle.flat_role.specs.declared.replacing.Room.{Room}
use Rattle.flat_role.specs.declared.replacing.What.{What}
use Rattle.flat_role.specs.declared.replacing.What.TheVariants as what
use Rattle.process_steps.specs.Steps.{after, telling}

-- its first act may put another process in its place
abbrev pub is_replaced : Process → Bool
is_replaced (ScopeLead head others P) = true
is_replaced (ScopeFollow i leader P) = true
is_replaced (Tell (More k l ms)) = true
is_replaced R = false

-- its first act does so, by what comes with it
abbrev pub replaces : Process → Handed → Bool
replaces (ScopeLead head others P) (Parted own ms) = true
replaces (ScopeFollow i leader P) (Message (Part n Q)) = true
replaces (Tell (More k l ms)) h = true
replaces R h = false

-- what runs in its place then
abbrev pub replacing : Role → Process → Handed → Process
replacing me (ScopeLead head others P) (Parted own ms) =
    after (telling ms) (after own (leader_end me others head.index))
replacing me (ScopeFollow i leader P) (Message (Part n Q)) = after Q (follower_end me leader i)
replacing me (Tell (More k l ms)) h = telling ms
replacing me R h = Skip

-- what there is room for comes with the act
abbrev pub comes : What → Handed → Bool
comes (what.Leads lead) (Parted own ms) = true
comes (what.Follows follow) (Message (Part n Q)) = true
comes (what.Tells ms) h = true
comes w h = false

-- what comes then
abbrev pub coming : What → Handed → Process
coming (what.Leads lead) (Parted own ms) =
    after (telling ms) (after own (process lead.last.value))
coming (what.Follows follow) (Message (Part n Q)) = after Q (process follow.last.value)
coming (what.Tells ms) h = telling (letters ms.value)
coming w h = Skip

-- all that the process in the place of R needs
pub record IsRoom (me : Role) (R : Process) (room : Room) : Type 0 where
  pub role : room.me.value ≡ me
  pub grows : (h : Handed) → replaces R h ≡ true → coming room.what h ≡ replacing me R h
  pub when : (h : Handed) → comes room.what h ≡ replaces R h

-- there is room exactly where another process may come
abbrev pub IsRoomFor : Role → Process → Option (Box Room Global) → Type 0
IsRoomFor me R None = is_replaced R ≡ false
IsRoomFor me R (Some room) = IsRoom me R room.value

-- and only for the first act of a place
abbrev pub IsRoomWhen : Bool → Role → Process → Option (Box Room Global) → Type 0
IsRoomWhen true me R room = IsRoomFor me R room
IsRoomWhen false me R room = room ≡ None

-- What is made ready at a place is what another process there needs.
use Rattle.std.proofs.Common.{◌≡◌, List, Option, Some, true, refl, sym, subst, ap, ◌∙◌}
use Rattle.std.specs.Global.{Box}
use Rattle.dioc_terms.specs.declared.names.Index.{Index}
use Rattle.dioc_terms.specs.declared.names.Role.{Role}
use Rattle.dioc_terms.specs.declared.processes.Key.{Key}
use Rattle.dioc_terms.specs.declared.processes.ScopeHead.{ScopeHead}
use Rattle.dioc_terms.specs.Processes.{Process, ScopeLead, ScopeFollow, Tell, Letters, More, Load, Val, Flag, Keep, Part, Done, letters, process}
use Rattle.dpoc_process.specs.Growth.{follower_end, leader_end}
use Rattle.dpoc_process.specs.Handed.{Handed, Empty, Message, Kept, Parted}
use Rattle.flat_role.specs.declared.replacing.Follow.{Follow}
use Rattle.flat_role.specs.declared.replacing.Lead.{Lead}
use Rattle.flat_role.specs.declared.replacing.Room.{Room}
use Rattle.flat_role.specs.declared.replacing.What.TheVariants as what
use Rattle.flat_role.specs.declared.replacing.What.{What}
use Rattle.flat_role.specs.Replacing.{IsRoom, IsRoomFor, comes, coming, replaces, replacing}
use Rattle.process_steps.specs.Steps.{after, telling}

pub leads_room : (me : Role) (head : ScopeHead) (others : List Role) (P : Process) (lead : Lead)
    (room : Room) → room.me.value ≡ me → room.what ≡ what.Leads lead
    → process lead.last.value ≡ leader_end me others head.index
    → IsRoom me (ScopeLead head others P) room
leads_room me head others P lead room role is last = record {
  role = role;
  grows = λ h came. ap (λ w. coming w h) is ∙ grows h came;
  when = λ h. ap (λ w. comes w h) is ∙ when h;
}
  where
    grows : (h : Handed) → replaces (ScopeLead head others P) h ≡ true
        → coming (what.Leads lead) h ≡ replacing me (ScopeLead head others P) h
    grows Empty came = cc
    grows (Message l) came = cc
    grows Kept came = cc
    grows (Parted own ms) came = ap (λ R. after (telling ms) (after own R)) last

    when : (h : Handed) → comes (what.Leads lead) h ≡ replaces (ScopeLead head others P) h
    when Empty = refl
    when (Message l) = refl
    when Kept = refl
    when (Parted own ms) = refl

pub follows_room : (me : Role) (i : Index) (leader : Role) (P : Process) (follow : Follow)
    (room : Room) → room.me.value ≡ me → room.what ≡ what.Follows follow
    → process follow.last.value ≡ follower_end me leader i
    → IsRoom me (ScopeFollow i leader P) room
follows_room me i leader P follow room role is last = record {
  role = role;
  grows = λ h came. ap (λ w. coming w h) is ∙ grows h came;
  when = λ h. ap (λ w. comes w h) is ∙ when h;
}
  where
    grows : (h : Handed) → replaces (ScopeFollow i leader P) h ≡ true
        → coming (what.Follows follow) h ≡ replacing me (ScopeFollow i leader P) h
    grows Empty came = cc
    grows (Message (Val x)) came = cc
    grows (Message (Flag b)) came = cc
    grows (Message Keep) came = cc
    grows (Message (Part n Q)) came = ap (after Q) last
    grows (Message Done) came = cc
    grows Kept came = cc
    grows (Parted own ms) came = cc

    when : (h : Handed) → comes (what.Follows follow) h ≡ replaces (ScopeFollow i leader P) h
    when Empty = refl
    when (Message (Val x)) = refl
    when (Message (Flag b)) = refl
    when (Message Keep) = refl
    when (Message (Part n Q)) = refl
    when (Message Done) = refl
    when Kept = refl
    when (Parted own ms) = refl

pub tells_room : (me : Role) (k : Key) (l : Load) (ms : Letters) (room : Room) {left : _}
    → room.me.value ≡ me → room.what ≡ what.Tells left → letters left.value ≡ ms
    → IsRoom me (Tell (More k l ms)) room
tells_room me k l ms room {left} role is rest = record {
  role = role;
  grows = λ h came. ap (λ w. coming w h) is ∙ ap telling rest;
  when = λ h. ap (λ w. comes w h) is;
}

-- room that was made for this is room for it
pub made_for : (me : Role) (R : Process) (w : What) (o : Option (Box Room))
    → ((room : Room) → room.me.value ≡ me → room.what ≡ w → IsRoom me R room)
    → (made : Box Room) × (o ≡ Some made) × (made.value.what ≡ w) × (made.value.me.value ≡ me)
    → IsRoomFor me R o
made_for me R w o is made = subst (IsRoomFor me R) (sym made.1) (is made.0.value made.3 made.2)

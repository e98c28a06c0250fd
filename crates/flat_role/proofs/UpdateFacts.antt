-- What is seen of an update is what it keeps.
use Rattle.std.proofs.Common.{◌≡◌, ◌<◌, ◌+◌, ℕ, arith, ⊎_elim, Bool, Option, None, Some, true, false, sym, ap, ◌∙◌, subst, refl}
use Rattle.std.specs.Option.{is_some}
use Rattle.std.specs.Global.{Box}
use Rattle.std.specs.Prelude.{option_map}
use Rattle.std.proofs.lemmas.Bool.{cases_lt}
use Rattle.dioc_terms.specs.declared.names.Role.{Role}
use Rattle.dioc_terms.specs.declared.entries.Act.{Act}
use Rattle.dioc_terms.specs.Processes.{Process, Letters, Nothing, More, Tell}
use Rattle.dioc_terms.specs.Stores.{Store}
use Rattle.dpoc_process.proofs.StateLemmas.{state-steps}
use Rattle.dpoc_process.specs.Acting.{acting}
use Rattle.dpoc_process.specs.Changes.{rest_of}
use Rattle.dpoc_process.specs.Growth.{growth, handed_value, value_at, with_written, write_at}
use Rattle.dpoc_process.specs.Growth as writes
use Rattle.dpoc_process.specs.Handed.{Handed, Brings, IsEnabled}
use Rattle.dpoc_process.specs.KeptGrowth.{write_of}
use Rattle.dpoc_process.specs.RoleLaws.{local}
use Rattle.dpoc_process.specs.RoleSteps.{IsStep}
use Rattle.flat_role.specs.declared.replacing.Room.{Room}
use Rattle.flat_role.specs.declared.steps.Own.{Own}
use Rattle.dioc_terms.specs.declared.processes.Key.{Key}
use Rattle.dioc_terms.specs.Processes.{Load}
use Rattle.flat_role.specs.declared.leaves.Next.{Next}
use Rattle.flat_role.specs.Leaves.{IsNext, is_first}
use Rattle.flat_role.specs.ReadySteps.{IsNextOf, IsOwnOf}
use Rattle.flat_role.specs.Replacing.{IsRoomWhen}
use Rattle.process_steps.specs.Steps.{Given, is_offered, offers, telling}
use Rattle.std.specs.Prelude.{IfSome, if◌then◌else◌}
use Rattle.flat_role.specs.declared.marks.State.{State}
use Rattle.flat_role.specs.Running.{Running}
use Rattle.flat_role.specs.Updates.{IsSound, process_in, seen}

pub process_seen : (me : Role) {x y : State} {v : Running} → seen me x ≡ v → x ≡ y
    → process_in me y ≡ v.process
process_seen me {x} {y} seen_is is = ap (process_in me) (sym is) ∙ ap (λ v. v.process) seen_is

pub sound_in : (me : Role) {x y : State} → x ≡ y → IsSound me x → IsSound me y
sound_in me is sound = subst (IsSound me) is sound

-- The role of an update is the one that runs it.
module _ (me r : Role) (x : State) {v : Running} (is : seen r x ≡ v) (mine : v.role ≡ me) where
  pub role_is : r ≡ me
  role_is = ap (λ w. w.role) is ∙ mine

  pub sound_by : IsSound r x → IsSound me x
  sound_by sound = subst (λ q. IsSound q x) role_is sound

  pub sound_again : (y : State) → IsSound me y → IsSound r y
  sound_again y sound = subst (λ q. IsSound q y) (sym role_is) sound

  pub process_by : process_in me x ≡ v.process
  process_by = ap (λ q. process_in q x) (sym role_is) ∙ ap (λ w. w.process) is

  pub process_again : (y : State) → process_in r y ≡ process_in me y
  process_again y = ap (λ q. process_in q y) role_is

-- a search finds something exactly where there is anything
pub found_says : {X : Type 0} (r : Option X) (b : Bool) → ((x : X) → r ≡ Some x → b ≡ true)
    → (r ≡ None → b ≡ false) → is_some r ≡ b
found_says None b some none = sym (none refl)
found_says (Some x) b some none = sym (some x refl)

some_map : {X Y : Type 0} (f : X → Y) (o : Option X) → is_some (option_map f o) ≡ is_some o
some_map f None = refl
some_map f (Some x) = refl

pub maps_some : {X Y : Type 0} (f : X → Y) (o : Option X) (p : Option Y) → option_map f o ≡ p
    → is_some o ≡ is_some p
maps_some f o p is = sym (some_map f o) ∙ ap is_some is

-- of a state by another name
pub process_at : (me r : Role) {x y : State} {v : Running} → seen r x ≡ v → v.role ≡ me → x ≡ y
    → process_in me y ≡ v.process
process_at me r {x} is mine same = ap (process_in me) (sym same) ∙ process_by me r x is mine

pub sound_at : (me r : Role) {x y : State} {v : Running} → seen r x ≡ v → v.role ≡ me → x ≡ y
    → IsSound r x → IsSound me y
sound_at me r {x} is mine same sound = subst (IsSound me) same (sound_by me r x is mine sound)

-- so far and here it fails, so it does one further
pub more_fail : (p : ℕ → Bool) (n : ℕ) → ((k : ℕ) → k < n → p k ≡ false) → p n ≡ false
    → (k : ℕ) → k < n + 1 → p k ≡ false
more_fail p n before here k below = ⊎_elim (λ less. before k less)
    (λ past. let same : n ≡ k = omega (arith, past, below) in
    subst (λ i. p i ≡ false) same here)
    (cases_lt k n)

pub room_mine : (b : Bool) (me : Role) (R : Process) (o : Option (Box Room)) → IsRoomWhen b me R o
    → IfSome o (λ room. room.value.me.value ≡ me)
room_mine b me R None is = tt
room_mine true me R (Some room) is = is.role
room_mine false me R (Some room) is = cc

if_some : (b : Bool) (P R : Process) → (if b then Some P else None) ≡ Some R → P ≡ R
if_some true P R is = cc
if_some false P R is = cc

-- what is left of a tell is what its step leaves
pub told_steps : (me : Role) (s t : Store) (a : Act) (h : Handed) (ms new : Letters) (own : Own)
    → IsOwnOf me s a (telling ms) false own → IsEnabled (local me (telling ms) s) a h
    → telling new ≡ rest_of (telling ms)
    → t ≡ with_written (write_of own.write) None s
    → (given : Given) → Brings (local me (telling ms) s) a h given
    → IsStep (local me (telling ms) s) a given (local me (telling new) t)
told_steps me s t a h Nothing new own ready can left stored given brings =
    let none : None ≡ Some ready.part = ready.acts in cc
told_steps me s t a h (More k l ms) new own ready can left stored given brings =
    let P : Process = Tell (More k l ms) in
    let part_is : P ≡ ready.part = if_some (is_offered a (offers me P)) P ready.part ready.acts in
    let acts : acting me a P ≡ Some P = ready.acts ∙ ap Some (sym part_is) in
    let write : write_of own.write ≡ writes.Nothing =
    ready.made.write ∙ ap (λ R. write_at (value_at s R) R) (sym part_is) in
    let kept_store : with_written (write_of own.write) (handed_value h) s ≡ t =
    ap (λ w. with_written w (handed_value h) s) write
    ∙ sym (stored ∙ ap (λ w. with_written w None s) write) in
    subst (λ (Q : Process). IsStep (local me P s) a given (local me Q t)) (sym left)
    (subst (λ (u : Store). IsStep (local me P s) a given (local me (telling ms) u)) kept_store
    (state-steps me s a P acts h (growth me (value_at s P) P) (write_of own.write) can refl write
    given brings))

told_acts : (me : Role) (a : Act) (k : Key) (l : Load) (ms : Letters)
    → is_some (acting me a (Tell (More k l ms))) ≡ true
    → acting me a (Tell (More k l ms)) ≡ Some (Tell (More k l ms))
told_acts me a k l ms some = by_case (is_offered a (offers me (Tell (More k l ms)))) some
  where
    by_case : (b : Bool)
        → is_some (if b then Some (Tell (More k l ms)) else None) ≡ true
        → (if b then Some (Tell (More k l ms)) else None) ≡ Some (Tell (More k l ms))
    by_case true s = refl
    by_case false s = cc

-- its next message is what is next
pub told_next : (me : Role) (a : Act) (ms : Letters) (n : Next) → IsNext me n (Tell ms)
    → is_first n ≡ false → is_some (acting me a (telling ms)) ≡ true
    → IsNextOf me a (telling ms) false n
told_next me a Nothing n stands first some = cc
told_next me a (More k l ms) n stands first some = record {
  part = Tell (More k l ms);
  acts = told_acts me a k l ms some;
  stands = stands;
  first = first;
}

-- Of a net that has not ended and has room, each move has no fault, and there is one.
use Rattle.std.proofs.Common.{◌≡◌, ◌<◌, ℕ, zero, suc, List, [], ◌∷◌, ◌++◌, length, Bool, true, false, ◌&&◌, not, Option, Some, None, Contains, slice_get, filter, map, refl, sym, ap, ◌∙◌, subst, arith}
use Rattle.std.specs.Prelude.{flat_map, if◌then◌else◌, nat_le}
use Rattle.std.specs.Option.{option_map_or}
use Rattle.std.proofs.lemmas.Bool.{and_parts, cond-true, cond-false, le-ltb, leb-true, lt-leb, or_left, or_right}
use Rattle.dioc_terms.specs.declared.bundles.Timed.{Timed}
use Rattle.dioc_terms.specs.declared.entries.Act.{Act}
use Rattle.dioc_terms.specs.declared.names.Role.{Role}
use Rattle.dioc_terms.specs.Equality.{act_eq, member, role_eq}
use Rattle.dioc_terms.specs.Plain.{setting}
use Rattle.process_steps.specs.Steps.{is_offered, offers}
use Rattle.marked_laws.specs.Laws.{Progress}
use Rattle.marked_laws.proofs.Equality.{act_itself, role_itself}
use Rattle.marked_laws.proofs.Premise.{Known}
use Rattle.marked_laws.proofs.Shapes.{none_some, some_same}
use Rattle.network_steps.specs.declared.moves.Move.{Move}
use Rattle.network_steps.specs.declared.moves.Move.TheVariants as move
use Rattle.net_laws.specs.Net.{first_fault}
use Rattle.network_steps.specs.Schedule.{change_due, is_ready, moves, role_moves}
use Rattle.net_laws.proofs.MoveLemmas.{has_move, reached}
use Rattle.net_core.specs.declared.faults.ChangeFault.TheVariants.{Full, NotYet}
use Rattle.net_core.specs.Changes.{change_fault, script_fault}
use Rattle.net_core.specs.Nets.{IsSoundRun, NetState, network_of}
use Rattle.net_core.specs.Steps.{fault_of}
use Rattle.schedule.specs.Turns.{CanMake, has_ended}

-- a fact of each move
abbrev Each : (Move → Type 0) → List Move → Type 0
Each P [] = Unit {0}
Each P (m ∷ ms) = P m × Each P ms

each_append : (P : Move → Type 0) (xs ys : List Move) → Each P xs → Each P ys → Each P (xs ++ ys)
each_append P [] ys h k = k
each_append P (x ∷ xs) ys h k = (h.0, each_append P xs ys h.1 k)

each_at : (P : Move → Type 0) (ms : List Move) (place : ℕ) (m : Move) → Each P ms → slice_get ms place ≡ Some m → P m
each_at P [] place m h is = absurd (none_some is)
each_at P (x ∷ xs) zero m h is = subst P (some_same is) h.0
each_at P (x ∷ xs) (suc i) m h is = each_at P xs i m h.1 is

some_length : (ms : List Move) (m : Move) → Contains ms m → 0 < length ms
some_length ms m h = omega (arith, h.1)

module _ (net : NetState) (goes : has_ended net ≡ false) (room : length net.history < net.limit) where
  open_end : nat_le net.limit (length net.history) ≡ false
  open_end = lt-leb net.limit (length net.history) room

  act_good : (q : Role) (a : Act) → member q net.bundle.cast ≡ true → is_offered a (offers q ((network_of net).processes q)) ≡ true
      → is_ready (network_of net) a ≡ true → fault_of net q a ≡ None
  act_good q a in_cast offered ready = λ j. first_fault (goes j) (open_end j) (in_cast j && offered j) (ready j)

  acts_good : (q : Role) (acts : List Act) → member q net.bundle.cast ≡ true
      → ((a : Act) → is_offered a acts ≡ true → is_offered a (offers q ((network_of net).processes q)) ≡ true)
      → Each (CanMake net) (map (move.Act q) (filter (is_ready (network_of net)) acts))
  acts_good q [] in_cast offered = tt
  acts_good q (a ∷ acts) in_cast offered =
      by_test (is_ready (network_of net) a) refl (acts_good q acts in_cast (λ c h. offered c (or_right (act_eq c a) (is_offered c acts) h)))
    where
      by_test : (t : Bool) → is_ready (network_of net) a ≡ t → Each (CanMake net) (map (move.Act q) (filter (is_ready (network_of net)) acts))
          → Each (CanMake net) (map (move.Act q) (filter (is_ready (network_of net)) (a ∷ acts)))
      by_test true ready rest =
          subst (λ l. Each (CanMake net) (map (move.Act q) l))
          (sym (cond-true (is_ready (network_of net) a) (a ∷ filter (is_ready (network_of net)) acts) (filter (is_ready (network_of net)) acts) ready))
          (act_good q a in_cast (offered a (or_left (act_eq a a) (is_offered a acts) (act_itself a))) ready, rest)
      by_test false waits rest =
          subst (λ l. Each (CanMake net) (map (move.Act q) l))
          (sym (cond-false (is_ready (network_of net) a) (a ∷ filter (is_ready (network_of net)) acts) (filter (is_ready (network_of net)) acts) waits)) rest

  roles_good : (roles : List Role) → ((q : Role) → member q roles ≡ true → member q net.bundle.cast ≡ true)
      → Each (CanMake net) (flat_map (role_moves (network_of net)) roles)
  roles_good [] among = tt
  roles_good (q ∷ qs) among =
      each_append (CanMake net) (role_moves (network_of net) q) (flat_map (role_moves (network_of net)) qs)
      (acts_good q (offers q ((network_of net).processes q)) (among q (or_left (role_eq q q) (member q qs) (role_itself q))) (λ a h. h))
      (roles_good qs (λ r h. among r (or_right (role_eq r q) (member r qs) h)))

  change_good : change_due net.bundle.script (network_of net).changes (network_of net).visible ≡ true → change_fault net ≡ None
  change_good due =
      ap (λ t. if t then Some Full else script_fault (slice_get net.bundle.script (network_of net).changes) (network_of net).visible) open_end
      ∙ by_timed (slice_get net.bundle.script (network_of net).changes) due
    where
      by_timed : (o : Option Timed) → option_map_or (λ (timed : Timed). nat_le timed.after (network_of net).visible) o false ≡ true
          → script_fault o (network_of net).visible ≡ None
      by_timed None h = cc
      by_timed (Some timed) h =
          ap (λ t. if t then Some NotYet else None) (le-ltb (network_of net).visible timed.after (leb-true timed.after (network_of net).visible h))

  moves_good : Each (CanMake net) (moves (setting net.bundle) (network_of net))
  moves_good =
      each_append (CanMake net)
      (if change_due net.bundle.script (network_of net).changes (network_of net).visible && not (has_ended net) then move.Change ∷ [] else [])
      (flat_map (role_moves (network_of net)) net.bundle.cast)
      (by_test (change_due net.bundle.script (network_of net).changes (network_of net).visible && not (has_ended net)) refl)
      (roles_good net.bundle.cast (λ q h. h))
    where
      by_test : (t : Bool) → (change_due net.bundle.script (network_of net).changes (network_of net).visible && not (has_ended net)) ≡ t
          → Each (CanMake net) (if t then move.Change ∷ [] else [])
      by_test true is = (change_good (and_parts (change_due net.bundle.script (network_of net).changes (network_of net).visible) (not (has_ended net)) is).0, tt)
      by_test false is = tt

  -- a move has no fault
  pub can_make : (place : ℕ) (m : Move) → slice_get (moves (setting net.bundle) (network_of net)) place ≡ Some m → CanMake net m
  can_make place m = each_at (CanMake net) (moves (setting net.bundle) (network_of net)) place m moves_good

-- there is a move
pub some_move : Known → Progress → (net : NetState) → IsSoundRun net → has_ended net ≡ false → 0 < length (moves (setting net.bundle) (network_of net))
some_move known progress net run goes =
    let at = reached known net.bundle run.sound net.history (network_of net) run.runs in
    let next = progress net.bundle net.history (network_of net) run.sound run.runs goes in
    some_length (moves (setting net.bundle) (network_of net)) (move.Act next.role next.act)
    (has_move known net.bundle run.sound (network_of net) at.0 at.1 next)

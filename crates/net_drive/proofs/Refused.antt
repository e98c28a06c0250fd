-- Where a step of a role has a fault, the network has no such step.
use Rattle.std.proofs.Common.{◌≡◌, ◌≢◌, ◌<◌, Result, Ok, Err, IfOk, List, [], ◌∷◌, length, Bool, true, false, ◌&&◌, not, true≢false, Option, Some, None, refl, sym, ap, ◌∙◌, subst, ⊎_elim, if◌then◌else◌}
use Rattle.std.specs.Prelude.{is_some, nat_le, option_and_then}
use Rattle.std.proofs.lemmas.Bool.{and_parts, both_ways, cond-false, false_from_ne_true, lt-leb}
use Rattle.dioc_terms.specs.declared.names.Role.{Role}
use Rattle.dioc_terms.specs.declared.processes.Key.{Key}
use Rattle.dioc_terms.specs.declared.entries.Act.{Act}
use Rattle.dioc_terms.specs.declared.entries.Act.TheVariants as act
use Rattle.dioc_terms.specs.declared.entries.Entry.{Entry}
use Rattle.dioc_terms.specs.Attempts.{Attempt, Stuck, Does, under, when}
use Rattle.dioc_terms.specs.Equality.{member, role_eq}
use Rattle.dioc_terms.specs.Plain.{PlainBundle, Setting, setting}
use Rattle.dioc_terms.specs.Processes.{Process, Skip, Send, Recv, Assign, Read, Seq, Par, IfLead, IfFollow, WhileLead, WhileFollow, ScopeLead, ScopeFollow, Tell, Gather, Nothing, More, Load}
use Rattle.dioc_terms.specs.Stores.{Store}
use Rattle.dioc_terms.specs.TermLaws.{CastsAreRoles}
use Rattle.process_steps.specs.Laws.{OffersAreSteps, is_done}
use Rattle.process_steps.specs.Steps.{Deed, Given, Alone, Got, after, ended, is_offered, offers, step}
use Rattle.projection.specs.Laws.{OutsidersHaveEnded}
use Rattle.global_steps.specs.Follow.{updated}
use Rattle.marked_laws.specs.Laws.{IsSound}
use Rattle.network_steps.specs.Network.{Network, NextNetwork, act_step, given_at, network_ended, network_start, network_step, no_message, pending_at, run_from}
use Rattle.marked_laws.proofs.Equality.{role_same}
use Rattle.marked_laws.proofs.Networks.{ChangeStep, RoleStep, deed_outcome, network_cases}
use Rattle.marked_laws.proofs.Premise.{all_member}
use Rattle.marked_laws.proofs.Shapes.{none_some, some_same}
use Rattle.network_steps.specs.declared.moves.StepFault.{StepFault}
use Rattle.network_steps.specs.declared.moves.StepFault.TheVariants as why
use Rattle.dioc_terms.specs.declared.faults.Memory.{Memory}
use Rattle.net_drive.specs.Making.{Makes, MakesListed}
use Rattle.net_laws.specs.Net.{first_fault, is_offered_by}
use Rattle.network_steps.specs.declared.moves.Move.{Move}
use Rattle.network_steps.specs.Schedule.{is_ready, move_step}
use Rattle.schedule.specs.declared.roles.Listed.{Listed}
use Rattle.schedule.specs.Agendas.{Shown, move_at}
use Rattle.net_core.specs.Nets.{IsSoundRun, NetState, network_of}
use Rattle.net_core.specs.Steps.{fault_of}

-- ---- a take whose message isn't there

when_stuck : (t : Bool) (m : Attempt Deed Process) → is_done m ≡ false → is_done (when t m) ≡ false
when_stuck true m h = h
when_stuck false m h = refl

under_done : (f : Process → Process) (m : Attempt Deed Process) → is_done m ≡ false → is_done (under f m) ≡ false
under_done f Stuck h = refl
under_done f (Does d P) h = h

if_done : (t : Bool) (m n : Attempt Deed Process) → is_done m ≡ false → is_done n ≡ false → is_done (if t then m else n) ≡ false
if_done true m n h k = h
if_done false m n h k = k

take_alone : (me : Role) (s : Store) (P : Process) (k : Key) → is_done (step me s P (act.Take k) Alone) ≡ false
take_alone me s Skip k = refl
take_alone me s (Send i o b e) k = refl
take_alone me s (Recv i o from x) k = when_stuck _ Stuck refl
take_alone me s (Assign i x e) k = refl
take_alone me s (Read i x) k = refl
take_alone me s (Seq P Q) k =
    if_done (ended P) (step me s Q (act.Take k) Alone) (under (λ p. after p Q) (step me s P (act.Take k) Alone))
    (take_alone me s Q k) (under_done (λ p. after p Q) (step me s P (act.Take k) Alone) (take_alone me s P k))
take_alone me s (Par P Q) k =
    if_done (is_offered (act.Take k) (offers me P)) (under (λ p. Par p Q) (step me s P (act.Take k) Alone)) (under (Par P) (step me s Q (act.Take k) Alone))
    (under_done (λ p. Par p Q) (step me s P (act.Take k) Alone) (take_alone me s P k))
    (under_done (Par P) (step me s Q (act.Take k) Alone) (take_alone me s Q k))
take_alone me s (IfLead i g others P Q) k = refl
take_alone me s (IfFollow i leader P Q) k = when_stuck _ Stuck refl
take_alone me s (WhileLead i g others P) k = refl
take_alone me s (WhileFollow i leader P) k = when_stuck _ Stuck refl
take_alone me s (ScopeLead head others P) k = refl
take_alone me s (ScopeFollow i leader P) k = when_stuck _ Stuck refl
take_alone me s (Tell Nothing) k = refl
take_alone me s (Tell (More j l ms)) k = refl
take_alone me s (Gather []) k = refl
take_alone me s (Gather (j ∷ js)) k = when_stuck _ Stuck refl

-- ---- steps that aren't done

not_done : (N : Network) (q : Role) (m : Attempt Deed Process) → is_done m ≡ false → deed_outcome N q m ≡ None
not_done N q Stuck h = refl
not_done N q (Does d P) h = absurd (true≢false h)

stuck_step : (b : Setting) (N : Network) (q : Role) (a : Act) → is_done (step q (N.stores q) (N.processes q) a (given_at b N q a)) ≡ false → act_step b N q a ≡ None
stuck_step b N q a h = not_done N q (step q (N.stores q) (N.processes q) a (given_at b N q a)) h

abbrev message_given : Option Load → Given
message_given None = Alone
message_given (Some l) = Got l

none_there : (o : Option Load) → is_some o ≡ false → o ≡ None
none_there None h = refl
none_there (Some l) h = absurd (true≢false h)

waits_step : (b : Setting) (N : Network) (q : Role) (a : Act) → is_ready N a ≡ false → act_step b N q a ≡ None
waits_step b N q (act.Take k) h =
    stuck_step b N q (act.Take k)
    (ap (λ o. is_done (step q (N.stores q) (N.processes q) (act.Take k) (message_given o))) (none_there (pending_at k N.pending) h)
    ∙ take_alone q (N.stores q) (N.processes q) k)
waits_step b N q _ h = absurd (true≢false h)

module _ (offered_steps : OffersAreSteps) (b : Setting) (N : Network) (q : Role) (a : Act) where
  ended_step : ended (N.processes q) ≡ true → act_step b N q a ≡ None
  ended_step h = stuck_step b N q a (offered_steps.ended q (N.stores q) (N.processes q) a (given_at b N q a) h)

  not_offered_step : is_offered a (offers q (N.processes q)) ≡ false → act_step b N q a ≡ None
  not_offered_step h =
      stuck_step b N q a
      (false_from_ne_true (is_done (step q (N.stores q) (N.processes q) a (given_at b N q a)))
      (λ done. both_ways (is_offered a (offers q (N.processes q))) h (offered_steps.only q (N.stores q) (N.processes q) a (given_at b N q a) done)))

-- ---- a role that isn't in the cast does nothing

module _ (casts : CastsAreRoles) (offered_steps : OffersAreSteps) (outsiders : OutsidersHaveEnded) where
  outside_start : (b : PlainBundle) → IsSound b → (q : Role) → member q b.cast ≡ false → ended ((network_start b).processes q) ≡ true
  outside_start b sound q h =
      outsiders b.cast b.choreo q
      ∙ ap not (sym (casts.same q b.choreo) ∙ ap (member q) (sym sound.formed.cast) ∙ h)

  ended_after : (N : Network) (r q : Role) (P : Process) → (ended (N.processes r) ≡ true → ⊥) → ended (N.processes q) ≡ true
      → ended (updated r P N.processes q) ≡ true
  ended_after N r q P acts h = by_test (role_eq q r) refl
    where
      by_test : (t : Bool) → role_eq q r ≡ t → ended (updated r P N.processes q) ≡ true
      by_test true is = absurd (acts (subst (λ s. ended (N.processes s) ≡ true) (role_same q r is) h))
      by_test false is = ap ended (cond-false (role_eq q r) P (N.processes q) is) ∙ h

  outside_step : (b : Setting) (N M : Network) (e : Entry) (q : Role) → ended (N.processes q) ≡ true → network_step b N e ≡ Some M
      → ended (M.processes q) ≡ true
  outside_step b N M e q ends h = ⊎_elim by_role by_change (network_cases b N e M h)
    where
      by_role : RoleStep b N e M → ended (M.processes q) ≡ true
      by_role did =
          ap (λ (L : Network). ended (L.processes q)) did.gives
          ∙ ended_after N did.role q did.next
          (λ over. true≢false (sym (ap is_done did.steps)
          ∙ offered_steps.ended did.role (N.stores did.role) (N.processes did.role) did.act (given_at b N did.role did.act) over))
          ends

      by_change : ChangeStep b N e M → ended (M.processes q) ≡ true
      by_change did = ap (λ (L : Network). ended (L.processes q)) did.gives ∙ ends

  outside_run : (b : Setting) (N M : Network) (H : List Entry) (q : Role) → ended (N.processes q) ≡ true → run_from b N H ≡ Some M
      → ended (M.processes q) ≡ true
  outside_run b N M [] q ends h = ap (λ (L : Network). ended (L.processes q)) (sym (some_same h)) ∙ ends
  outside_run b N M (e ∷ H) q ends h = by_step (network_step b N e) refl h (λ L over k. outside_run b L M H q over k)
    where
      by_step : (o : Option Network) → network_step b N e ≡ o → option_and_then (λ L. run_from b L H) o ≡ Some M
          → ((L : Network) → ended (L.processes q) ≡ true → run_from b L H ≡ Some M → ended (M.processes q) ≡ true) → ended (M.processes q) ≡ true
      by_step None is k rest = absurd (none_some k)
      by_step (Some L) is k rest = rest L (outside_step b N L e q ends is) k

  module _ (net : NetState) (run : IsSoundRun net) (q : Role) where
    outside : member q net.bundle.cast ≡ false → ended ((network_of net).processes q) ≡ true
    outside h =
        outside_run (setting net.bundle) (network_start net.bundle) (network_of net) net.history q
        (outside_start net.bundle run.sound q h) run.runs

    over : network_ended net.bundle.cast (network_of net) ≡ true → ended ((network_of net).processes q) ≡ true
    over h = by_test (member q net.bundle.cast) refl
      where
        by_test : (t : Bool) → member q net.bundle.cast ≡ t → ended ((network_of net).processes q) ≡ true
        by_test true is = all_member (λ r. ended ((network_of net).processes r)) net.bundle.cast q (and_parts _ (no_message (network_of net).pending) h).0 is
        by_test false is = outside is

    not_offered : (a : Act) → is_offered_by net.bundle (network_of net) q a ≡ false → act_step (setting net.bundle) (network_of net) q a ≡ None
    not_offered a h = by_test (member q net.bundle.cast) refl
      where
        by_test : (t : Bool) → member q net.bundle.cast ≡ t → act_step (setting net.bundle) (network_of net) q a ≡ None
        by_test true is =
            not_offered_step offered_steps (setting net.bundle) (network_of net) q a
            (ap (λ t. t && is_offered a (offers q ((network_of net).processes q))) (sym is) ∙ h)
        by_test false is = ended_step offered_steps (setting net.bundle) (network_of net) q a (outside is)

    -- a step that has a fault, but for want of room, is none of the network
    pub refused_step : (a : Act) (fault : StepFault) → length net.history < net.limit → fault_of net q a ≡ Some fault
        → act_step (setting net.bundle) (network_of net) q a ≡ None
    refused_step a fault room h =
        by_tests (network_ended net.bundle.cast (network_of net)) (nat_le net.limit (length net.history))
        (is_offered_by net.bundle (network_of net) q a) (is_ready (network_of net) a) refl refl refl refl h
      where
        by_tests : (ends full offered ready : Bool) → network_ended net.bundle.cast (network_of net) ≡ ends
            → nat_le net.limit (length net.history) ≡ full → is_offered_by net.bundle (network_of net) q a ≡ offered
            → is_ready (network_of net) a ≡ ready → first_fault ends full offered ready ≡ Some fault
            → act_step (setting net.bundle) (network_of net) q a ≡ None
        by_tests true full offered ready is is_full is_there is_ready_now k = ended_step offered_steps (setting net.bundle) (network_of net) q a (over is)
        by_tests false true offered ready is is_full is_there is_ready_now k = absurd (both_ways _ (lt-leb net.limit (length net.history) room) is_full)
        by_tests false false false ready is is_full is_there is_ready_now k = not_offered a is_there
        by_tests false false true false is is_full is_there is_ready_now k = waits_step (setting net.bundle) (network_of net) q a is_ready_now
        by_tests false false true true is is_full is_there is_ready_now k = absurd (none_some k)

-- what was refused, but for want of memory, makes no step
pub none_made : (old new : NetState) (step : Option NextNetwork) (fault : StepFault) (r : Result Bool Memory)
    → IfOk r (λ is_made. (is_made ≡ false) × (fault ≢ why.Memory)) → (fault ≢ why.Memory → step ≡ None) → new ≡ old → IfOk r (Makes step old new)
none_made old new step fault (Ok is_made) h none same = subst (Makes step old new) (sym h.0) (none h.1, same)
none_made old new step fault (Err refusal) h none same = tt

-- and no listed one
pub none_listed : (old new : NetState) (agenda : List Shown) (made : Listed) (fault : StepFault) (r : Result Bool Memory)
    → IfOk r (λ is_made. (is_made ≡ false) × (fault ≢ why.Memory))
    → (fault ≢ why.Memory → (m : Move) → move_at agenda made ≡ Some m → move_step (setting old.bundle) (network_of old) m ≡ None)
    → new ≡ old → IfOk r (MakesListed old agenda made new)
none_listed old new agenda made fault (Ok is_made) h none same =
    λ m there. subst (Makes (move_step (setting old.bundle) (network_of old) m) old new) (sym h.0) (none h.1 m there, same)
none_listed old new agenda made fault (Err refusal) h none same = tt

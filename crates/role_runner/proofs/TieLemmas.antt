-- How the tie of a role's state to its seat is kept.
use Rattle.std.proofs.Common.{◌≡◌, ◌≤◌, ℕ, List, [], length, Bool, true, false, ◌&&◌, Option, Some, None, refl, sym, ap, ◌∙◌, subst, arith}
use Rattle.std.proofs.lemmas.Bool.{both_ways}
use Rattle.std.proofs.lemmas.Bool.Decides.{nat_tests}
use Rattle.std.specs.List.{list_all}
use Rattle.std.specs.Option.{option_or}
use Rattle.std.specs.Prelude.{Err, IfErr, IfOk, Ok, Result, is_none, nat_le}
use Rattle.dioc_terms.specs.declared.entries.Act.{Act}
use Rattle.dioc_terms.specs.declared.entries.Act.TheVariants as act
use Rattle.dioc_terms.specs.declared.entries.Entry.{Entry}
use Rattle.dioc_terms.specs.declared.names.Role.{Role}
use Rattle.dioc_terms.specs.declared.processes.Key.{Key}
use Rattle.dioc_terms.specs.Attempts.{Does}
use Rattle.dioc_terms.specs.Equality.{member}
use Rattle.dioc_terms.specs.Plain.{PlainBundle}
use Rattle.dpoc_process.specs.LocalStates.{LocalState}
use Rattle.dpoc_process.specs.RoleSteps.{IsStep}
use Rattle.marked_laws.proofs.Premise.{all_member}
use Rattle.marked_laws.proofs.Shapes.{some_same}
use Rattle.network_steps.specs.Network.{Network, network_ended, network_run, network_start, no_message, pending_at}
use Rattle.network_steps.specs.Schedule.{change_is_due}
use Rattle.process_steps.specs.Steps.{Deed, Given, ended, entry_of, step, store_after}
use Rattle.net_core.specs.Nets.{network_at}
use Rattle.role_runner.proofs.StepLemmas.{deed_same, left_same}
use Rattle.role_runner.specs.declared.acting.Tried.{Tried}
use Rattle.role_runner.specs.declared.acting.Tried.TheVariants as tried
use Rattle.role_runner.specs.Acts.{is_alone}
use Rattle.role_runner.specs.Ties.{IfRefused, IsRefusedTry, IsSeated, IsTied, IsUncommitted, Leaves, WentOn, is_not_yet}
use Rattle.stage.specs.declared.faults.CommitFault.{CommitFault}
use Rattle.stage.specs.declared.faults.CommitFault.TheVariants as fault
use Rattle.stage.specs.declared.faults.Why.{Why}
use Rattle.stage.specs.Faults.{act_fault, fault_if, full_fault, role_fault, stop_fault, take_fault}
use Rattle.net_core.specs.Standing.{local_in}
use Rattle.stage.specs.Holds.{HasFinished}
use Rattle.stage.specs.Homes.{HasEnded, HomeState, IsCut}
use Rattle.stage.specs.Owners.{cast_place}
use Rattle.stage.specs.Roles.{RoleStandsAt}
use Rattle.stage.proofs.MetLemmas.{added_met, looked_met}
use Rattle.stage.specs.Seats.{Added, Base, Committed, HasMet, LookedOn, RefusedFor}
use Rattle.turn_lock.specs.declared.views.View.{View}
use Rattle.turn_lock.specs.Views.{number}

-- what is said of an answer, where it is known
pub if_err_at : {T E : Type 0} (P : E → Type 0) (r : Result T E) (e : E) → IfErr r P → r ≡ Err e → P e
if_err_at P r e holds is = subst (λ x. IfErr x P) is holds

pub if_ok_at : {T E : Type 0} (P : T → Type 0) (r : Result T E) (t : T) → IfOk r P → r ≡ Ok t → P t
if_ok_at P r t holds is = subst (λ x. IfOk x P) is holds

-- what is said of whatever comes
pub ok_each : {T E : Type 0} (P : T → Type 0) (r : Result T E) → ((t : T) → r ≡ Ok t → P t) → IfOk r P
ok_each P (Ok t) each = each t refl
ok_each P (Err e) each = tt

pub err_each : {T E : Type 0} (P : E → Type 0) (r : Result T E) → ((e : E) → r ≡ Err e → P e) → IfErr r P
err_each P (Ok t) each = tt
err_each P (Err e) each = each e refl

-- a seat that looked on went on
pub looked_went : (v w : View Entry Base) → LookedOn v w → WentOn v w
looked_went v w looked = record {
  base = looked.same_base;
  number_is = looked.same_number;
  made = looked.same_made;
  met = looked_met v w looked;
}

pub went_through : (u v w : View Entry Base) → WentOn u v → WentOn v w → WentOn u w
went_through u v w first then = record {
  base = then.base ∙ first.base;
  number_is = then.number_is ∙ first.number_is;
  made = then.made ∙ first.made;
  met = then.met;
}

-- a seat that went on, and then looked on
pub went_looked : (u v w : View Entry Base) → WentOn u v → LookedOn v w → WentOn u w
went_looked u v w went looked = went_through u v w went (looked_went v w looked)

pub went_nowhere : (v : View Entry Base) → HasMet v → WentOn v v
went_nowhere v met = record { base = refl; number_is = refl; made = refl; met = met }

-- and its role's state is tied to it still
pub looked_tied : (bundle : PlainBundle) (q : Role) (v w : View Entry Base) (local : LocalState) → LookedOn v w → IsTied bundle q v local → IsTied bundle q w local
looked_tied bundle q v w local looked tied = record {
  limit = tied.limit;
  base = looked.same_base ∙ tied.base;
  in_cast = tied.in_cast;
  number_is = looked.same_number ∙ tied.number_is;
  met = looked_met v w looked;
  role = tied.role;
  stands = looked.still.stands (bundle, tied.limit) q local.process local.store (tied.base, tied.number_is) tied.stands;
}

module _ (fault_of : HomeState → Option CommitFault) (v w : View Entry Base) (e : Entry) (added : Added fault_of v w e) where
  -- so did one that added an entry
  pub added_went : WentOn v w
  added_went = record { base = added.same_base; number_is = added.same_number; made = added.same_made; met = added_met fault_of v w e added }

full_le : (n m : ℕ) → nat_le n m ≡ true → n ≤ m
full_le n m h = grind (arith, nat_tests)

module _ (bundle : PlainBundle) (q : Role) (v : View Entry Base) (local : LocalState) (tied : IsTied bundle q v local) where
  -- a role that made the step that was committed is tied to its seat again
  pub moved_tied : (fault_of : HomeState → Option CommitFault) (w : View Entry Base) (r : Role) (a : Act) (given : Given) (d : Deed) → r ≡ q → Committed fault_of v w r a given d
      → (local' : LocalState) → IsStep local a given local' → IsTied bundle q w local'
  moved_tied fault_of w r a given d same done local' stepped =
      let moved = done.moved (bundle, tied.limit) local.process local.store (tied.base, tied.number_is ∙ ap (cast_place bundle.cast) (sym same))
      (subst (λ p. RoleStandsAt bundle v.seen p local.process local.store) (sym same) tied.stands) in
      let role : r ≡ local.role = same ∙ sym tied.role in
      let both : Does d moved.0 ≡ Does stepped.deed stepped.left = sym moved.1 ∙ ap (λ p. step p local.store local.process a given) role ∙ stepped.does in
      let deed : d ≡ stepped.deed = deed_same both in
      let left : moved.0 ≡ stepped.left = left_same both in
      record {
        limit = tied.limit;
        base = done.added.same_base ∙ tied.base;
        in_cast = tied.in_cast;
        number_is = done.added.same_number ∙ tied.number_is;
        met = added_met fault_of v w (entry_of d) done.added;
        role = ap (λ (l : LocalState). l.role) stepped.becomes ∙ tied.role;
        stands = subst (λ (l : LocalState). RoleStandsAt bundle w.seen q l.process l.store) (sym stepped.becomes)
            (subst (λ p. RoleStandsAt bundle w.seen p stepped.left (store_after stepped.deed local.store)) same
            (subst (λ P. RoleStandsAt bundle w.seen r P (store_after stepped.deed local.store)) left
            (subst (λ e. RoleStandsAt bundle w.seen r moved.0 (store_after e local.store)) deed moved.2)));
      }

  -- what a done act leaves
  pub moved_leaves : (fault_of : HomeState → Option CommitFault) (w : View Entry Base) (r : Role) (a : Act) (given : Given) (d : Deed) → r ≡ q → Committed fault_of v w r a given d
      → (local' : LocalState) → IsStep local a given local' → Leaves bundle q v w tried.Done local'
  moved_leaves fault_of w r a given d same done local' stepped = record {
    went = added_went fault_of v w (entry_of d) done.added;
    tied = λ here. moved_tied fault_of w r a given d same done local' stepped;
    full = λ never. absurd (done_not_refused never);
  }
    where
      done_not_refused : {f : CommitFault} → tried.Done ≡ tried.Refused f → ⊥
      done_not_refused e = cc

  -- a role whose process goes on keeps its network from its end
  network_goes : (H : List Entry) (N : Network) → network_ended bundle.cast N ≡ true → N.processes q ≡ local.process → ended local.process ≡ false → ⊥
  network_goes H N over here goes =
      let parts = both_parts (list_all (λ r. ended (N.processes r)) bundle.cast) (no_message N.pending) over in
      let mine = all_member (λ r. ended (N.processes r)) bundle.cast q parts tied.in_cast in
      both_ways (ended local.process) goes (ap ended (sym here) ∙ mine)
    where
      both_parts : (s t : Bool) → (s && t) ≡ true → s ≡ true
      both_parts true t h = refl
      both_parts false t h = h

  not_true : (t : Bool) → (t ≡ true → ⊥) → t ≡ false
  not_true true h = absurd (h refl)
  not_true false h = refl

  -- what a refused act leaves
  pub refused_leaves : (fault_of : HomeState → Option CommitFault) (w : View Entry Base) (f : CommitFault) → ended local.process ≡ false
      → ((home : HomeState) → fault_of home ≡ Some fault.Full → nat_le home.limit (length home.history) ≡ true)
      → RefusedFor fault_of v w f → Leaves bundle q v w (tried.Refused f) local
  refused_leaves fault_of w f goes fulls refused = record {
    went = looked_went v w refused.looked;
    tied = λ here. still;
    full = λ is base at.
        let home = refused.home in
        let found = refused.found in
        let same : (home.bundle, home.limit) ≡ base = some_same (sym found.base ∙ sym refused.looked.same_base ∙ at) in
        let bundles : home.bundle ≡ bundle = ap (λ (b : Base). b.0) (some_same (sym found.base ∙ tied.base)) in
        let f_is : f ≡ fault.Full = refused_same is in
        let full = fulls home (refused.first (λ memory. not_memory (sym f_is ∙ memory)) ∙ ap (λ g. Some g) f_is) in
        let le : home.limit ≤ length home.history = full_le home.limit (length home.history) full in
        let within = found.sound.within in
        let N = found.sound.network in
        subst (λ (b : Base). IsCut b.0 b.1 w.seen) same (subst (λ H. IsCut home.bundle home.limit H) found.history (record {
          network = N;
          runs = found.sound.runs;
          full = omega (arith, le, within);
          goes = not_true (network_ended home.bundle.cast N) (λ over.
              let stands = still.stands in
              let nets : stands.network ≡ N =
              some_same (sym stands.runs ∙ ap (λ (b : PlainBundle). network_of b w.seen) (sym bundles) ∙ ap (network_of home.bundle) (sym found.history) ∙ found.sound.runs) in
              network_goes w.seen N (subst (λ (b : PlainBundle). network_ended b.cast N ≡ true) bundles over)
              (ap (λ (M : Network). M.processes q) (sym nets) ∙ stands.process) goes);
        }));
  }
    where
      still : IsTied bundle q w local
      still = looked_tied bundle q v w local refused.looked tied

      network_of : PlainBundle → List Entry → Option Network
      network_of b H = network_run b H

      refused_same : {f g : CommitFault} → tried.Refused f ≡ tried.Refused g → f ≡ g
      refused_same e = cc

      not_memory : fault.Full ≡ fault.Memory → ⊥
      not_memory e = cc

-- the fault of a full history is there for a full history alone
full_or : (o : Option CommitFault) (p : Option CommitFault) → option_or o p ≡ Some fault.Full → (o ≡ Some fault.Full → ⊥) → p ≡ Some fault.Full
full_or None p h isnt = h
full_or (Some f) p h isnt = absurd (isnt h)

stop_not_full : (o : Option Why) → stop_fault o ≡ Some fault.Full → ⊥
stop_not_full None h = cc
stop_not_full (Some why) h = cc

wait_not_full : (t : Bool) → fault_if t fault.NotYet ≡ Some fault.Full → ⊥
wait_not_full true h = cc
wait_not_full false h = cc

fulls : (t u : Bool) → option_or (fault_if t fault.Full) (fault_if u fault.NotYet) ≡ Some fault.Full → t ≡ true
fulls true u h = refl
fulls false u h = absurd (wait_not_full u h)

pub role_full : (home : HomeState) → role_fault home ≡ Some fault.Full → nat_le home.limit (length home.history) ≡ true
role_full home h =
    fulls (nat_le home.limit (length home.history)) (change_is_due home.bundle home.history)
    (full_or (stop_fault home.stopped) (option_or (full_fault home) (fault_if (change_is_due home.bundle home.history) fault.NotYet)) h (stop_not_full home.stopped))

role_or : (o : Option CommitFault) (t : Bool) → option_or o (fault_if t fault.NotYet) ≡ Some fault.Full → o ≡ Some fault.Full
role_or None t h = absurd (wait_not_full t h)
role_or (Some f) t h = h

pub take_full : (k : Key) (home : HomeState) → take_fault k home ≡ Some fault.Full → nat_le home.limit (length home.history) ≡ true
take_full k home h =
    role_full home (role_or (role_fault home) (is_none (pending_at k (network_at home.bundle home.history).pending)) h)

-- before its first act a role is tied to a seat that has seen nothing
pub opening_tied : (bundle : PlainBundle) (q : Role) (v : View Entry Base) (local : LocalState) → member q bundle.cast ≡ true → IsSeated bundle (cast_place bundle.cast q) v → v.seen ≡ []
    → local ≡ local_in (network_start bundle) q → IsTied bundle q v local
opening_tied bundle q v local in_cast seated nothing is = record {
  limit = seated.limit;
  base = seated.base;
  in_cast = in_cast;
  number_is = seated.number_is;
  met = seated.met;
  role = ap (λ (l : LocalState). l.role) is;
  stands = subst (λ H. RoleStandsAt bundle H q local.process local.store) (sym nothing)
      (subst (λ (l : LocalState). RoleStandsAt bundle [] q l.process l.store) (sym is)
      (record { network = network_start bundle; runs = refl; process = refl; store = refl }));
}

-- a role that is tied and has ended may be marked as finished
pub tied_finished : (bundle : PlainBundle) (q : Role) (v : View Entry Base) (local : LocalState) → IsTied bundle q v local → ended local.process ≡ true → HasFinished v q
tied_finished bundle q v local tied over base is =
    subst (λ (b : Base). (number v ≡ cast_place b.0.cast q) × HasEnded b.0 v.seen q) (some_same (sym tied.base ∙ is)) (
      tied.number_is,
      record { process = local.process; store = local.store; stands = tied.stands; done = over },
    )

-- a try that came to nothing leaves all as it was
pub stays_leaves : (bundle : PlainBundle) (q : Role) (v : View Entry Base) (local : LocalState) (f : CommitFault) → (f ≡ fault.Full → ⊥) → IsTied bundle q v local
    → Leaves bundle q v v (tried.Refused f) local
stays_leaves bundle q v local f isnt tied = record {
  went = went_nowhere v tied.met;
  tied = λ here. tied;
  full = λ is. absurd (isnt (refused_same is));
}
  where
    refused_same : {f g : CommitFault} → tried.Refused f ≡ tried.Refused g → f ≡ g
    refused_same e = cc

-- what a try leaves of a seat that had gone on before
pub leaves_through : (bundle : PlainBundle) (q : Role) (u v w : View Entry Base) (t : Tried) (local : LocalState) → WentOn u v → Leaves bundle q v w t local → Leaves bundle q u w t local
leaves_through bundle q u v w t local went leaves = record {
  went = went_through u v w went leaves.went;
  tied = leaves.tied;
  full = leaves.full;
}

pub refused_not_behind : {t : Tried} {f : CommitFault} → t ≡ tried.Refused f → t ≡ tried.Behind → ⊥
refused_not_behind is behind = apart (sym is ∙ behind)
  where
    apart : {f : CommitFault} → tried.Refused f ≡ tried.Behind → ⊥
    apart e = cc

pub done_not_behind : {t : Tried} → t ≡ tried.Done → t ≡ tried.Behind → ⊥
done_not_behind is behind = apart (sym is ∙ behind)
  where
    apart : tried.Done ≡ tried.Behind → ⊥
    apart e = cc

-- which answers say that an act may come later
pub not_yet_is : (t : Tried) → is_not_yet t ≡ true → t ≡ tried.Refused fault.NotYet
not_yet_is tried.Done h = cc
not_yet_is tried.Behind h = cc
not_yet_is (tried.Refused (fault.Stopped why)) h = cc
not_yet_is (tried.Refused fault.Ended) h = cc
not_yet_is (tried.Refused fault.NoMore) h = cc
not_yet_is (tried.Refused fault.Full) h = cc
not_yet_is (tried.Refused fault.NotYet) h = refl
not_yet_is (tried.Refused fault.Memory) h = cc

-- what holds of the fault of a refused try
pub if_refused_at : (P : CommitFault → Type 0) (t : Tried) (f : CommitFault) → IfRefused t P → t ≡ tried.Refused f → P f
if_refused_at P t f holds is = subst (λ u. IfRefused u P) is holds

-- what an act keeps from its commit where a role does it alone
pub alone_fault : (a : Act) → is_alone a ≡ true → act_fault a ≡ role_fault
alone_fault (act.Set i) h = refl
alone_fault (act.Input i) h = refl
alone_fault (act.Pick i) h = refl
alone_fault (act.Put k) h = refl
alone_fault (act.Take k) h = cc
alone_fault (act.Scope i) h = refl

-- a try that a commit refused
pub refused_try : (a : Act) (fault_of : HomeState → Option CommitFault) (v w : View Entry Base) (s : LocalState) (f : CommitFault) → act_fault a ≡ fault_of → RefusedFor fault_of v w f
    → IsRefusedTry a v w s s f
refused_try a fault_of v w s f is refused = record {
  same = refl;
  held = λ enough. subst (λ g. RefusedFor g v w f) (sym is) refused;
}

-- one for which there was no memory
pub scarce_try : (a : Act) (v : View Entry Base) (s t : LocalState) → t ≡ s → IsRefusedTry a v v s t fault.Memory
scarce_try a v s t same = record { same = same; held = λ enough. absurd (enough refl) }

-- a commit that was refused in a hold leaves the role as it was
pub uncommitted : (bundle : PlainBundle) (q : Role) (v w : View Entry Base) (s : LocalState) (a : Act) (f : CommitFault) (fault_of : HomeState → Option CommitFault) → IsTied bundle q v s
    → ended s.process ≡ false → ((home : HomeState) → fault_of home ≡ Some fault.Full → nat_le home.limit (length home.history) ≡ true) → act_fault a ≡ fault_of
    → RefusedFor fault_of v w f → IsUncommitted bundle q v w s a f
uncommitted bundle q v w s a f fault_of tied goes full is refused = record {
  leaves = refused_leaves bundle q v s tied fault_of w f goes full refused;
  tried = refused_try a fault_of v w s f is refused;
}

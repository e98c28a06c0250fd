-- How the roles of a stage came to their end, by what their jobs were left with.
use Rattle.std.proofs.Common.{◌≡◌, ◌≢◌, ◌↔◌, ◌<◌, ◌≤◌, ℕ, zero, suc, List, [], ◌∷◌, All, take, length, Bool, true, false, Option, Some, None, IfSome, slice_get, refl, sym, ap, ◌∙◌, subst, ⊎_elim, arith, eqb-true}
use Rattle.std.proofs.lemmas.Bool.{and_parts, or_cases, both_ways, not-true}
use Rattle.std.proofs.lemmas.List.Elements.{All-nil, All-cons}
use Rattle.std.proofs.lemmas.Option.{slice_get_within}
use Rattle.std.specs.List.{list_all, list_any}
use Rattle.std.specs.Prelude.{if◌then◌else◌}
use Rattle.dioc_terms.specs.declared.entries.Entry.{Entry}
use Rattle.dioc_terms.specs.Plain.{PlainBundle}
use Rattle.flat_role.specs.declared.states.FlatRole.{FlatRole}
use Rattle.flat_role.specs.FlatStates.{local_of}
use Rattle.marked_laws.proofs.Shapes.{none_some, some_same}
use Rattle.network_steps.specs.Network.{Network}
use Rattle.process_steps.specs.Steps.{ended}
use Rattle.role_runner.specs.declared.threads.Ending.{Ending}
use Rattle.role_runner.specs.declared.threads.Ending.TheVariants as ending
use Rattle.role_runner.specs.declared.threads.Job.{Job}
use Rattle.role_runner.specs.Endings.{AllEnded, AllWent, SomeCut}
use Rattle.role_runner.specs.Jobs.{EndsJob, HomeSeat, IsOfRole, ending_in, has_seen, is_cut, has_done_state, is_done_state, is_going}
use Rattle.role_runner.specs.Ties.{WentOn}
use Rattle.stage.specs.declared.stage.Stage.{Stage}
use Rattle.stage.specs.Homes.{HasEnded}
use Rattle.stage.specs.Roles.{RoleStandsAt}
use Rattle.stage.specs.Seats.{Base}
use Rattle.turn_lock.specs.declared.views.View.{View}
use Rattle.turn_lock.specs.Words.{view}

module _ {A : Type 0} where
  -- what holds of the element at each place holds of all
  pub all_by_place : (P : A → Type 0) (xs : List A) → ((i : ℕ) (x : A) → slice_get xs i ≡ Some x → P x) → All P xs
  all_by_place P [] each = All-nil P
  all_by_place P (x ∷ xs) each = All-cons P x xs (each 0 x refl) (all_by_place P xs (λ i. each (suc i)))

  pub test_at : (p : A → Bool) (xs : List A) (i : ℕ) (x : A) → list_all p xs ≡ true → slice_get xs i ≡ Some x → p x ≡ true
  test_at p [] i x all at = absurd (none_some at)
  test_at p (y ∷ ys) zero x all at = subst (λ z. p z ≡ true) (some_same at) (and_parts (p y) (list_all p ys) all).0
  test_at p (y ∷ ys) (suc i) x all at = test_at p ys i x (and_parts (p y) (list_all p ys) all).1 at

  pub found_at : (p : A → Bool) (xs : List A) → list_any p xs ≡ true → (i : ℕ) × (x : A) × (slice_get xs i ≡ Some x) × (p x ≡ true)
  found_at p [] any = absurd (both_ways false refl any)
  found_at p (y ∷ ys) any = ⊎_elim
      (λ here. (0, y, refl, here))
      (λ later. let more = found_at p ys later in (suc more.0, more.1, more.2, more.3))
      (or_cases (p y) (list_any p ys) any)

  pub taken_at : (n : ℕ) (xs : List A) (i : ℕ) (x : A) → i < n → slice_get xs i ≡ Some x → slice_get (take n xs) i ≡ Some x
  taken_at zero xs i x below at = absurd (omega (arith, below))
  taken_at (suc n) [] i x below at = at
  taken_at (suc n) (y ∷ ys) zero x below at = at
  taken_at (suc n) (y ∷ ys) (suc i) x below at = taken_at n ys i x (omega (arith, below)) at

  pub taken_from : (n : ℕ) (xs : List A) (i : ℕ) (x : A) → slice_get (take n xs) i ≡ Some x → (i < n) × (slice_get xs i ≡ Some x)
  taken_from zero xs i x at = absurd (none_some at)
  taken_from (suc n) [] i x at = absurd (none_some at)
  taken_from (suc n) (y ∷ ys) zero x at = (omega arith, at)
  taken_from (suc n) (y ∷ ys) (suc i) x at = let more = taken_from n ys i x at in (let l = more.0 in omega (arith, l), more.1)

  pub at_within : (xs : List A) (i : ℕ) → i < length xs → (x : A) × (slice_get xs i ≡ Some x)
  at_within [] i below = absurd (omega (arith, below))
  at_within (x ∷ xs) zero below = (x, refl)
  at_within (x ∷ xs) (suc i) below = at_within xs i (omega (arith, below))

-- each went on where it stands
pub all_went : (vs ws : List (View Entry Base)) → length ws ≡ length vs → ((i : ℕ) (v w : View Entry Base) → slice_get vs i ≡ Some v → slice_get ws i ≡ Some w → WentOn v w) → AllWent vs ws
all_went [] [] same each = tt
all_went [] (w ∷ ws) same each = absurd (omega (arith, same))
all_went (v ∷ vs) [] same each = absurd (omega (arith, same))
all_went (v ∷ vs) (w ∷ ws) same each = (each 0 v w refl refl, all_went vs ws (omega (arith, same)) (λ i. each (suc i)))

pub went_at : (vs ws : List (View Entry Base)) (i : ℕ) (w : View Entry Base) → AllWent vs ws → slice_get ws i ≡ Some w → (v : View Entry Base) × (slice_get vs i ≡ Some v) × WentOn v w
went_at [] [] i w went at = absurd (none_some at)
went_at [] (x ∷ ws) i w went at = absurd went
went_at (v ∷ vs) [] i w went at = absurd went
went_at (v ∷ vs) (x ∷ ws) zero w went at = (v, refl, subst (WentOn v) (some_same at) went.0)
went_at (v ∷ vs) (x ∷ ws) (suc i) w went at = went_at vs ws i w went.1 at

pub went_lengths : (vs ws : List (View Entry Base)) → AllWent vs ws → length ws ≡ length vs
went_lengths [] [] went = refl
went_lengths [] (w ∷ ws) went = absurd went
went_lengths (v ∷ vs) [] went = absurd went
went_lengths (v ∷ vs) (w ∷ ws) went = ap suc (went_lengths vs ws went.1)

pub if_some_at : {A : Type 0} (P : A → Type 0) (o : Option A) (x : A) → IfSome o P → o ≡ Some x → P x
if_some_at {A = A} P o x holds is = subst (λ (p : Option A). IfSome p P) is holds

-- the ending tells how all jobs were left
ended_all : (limit : ℕ) (jobs : List Job) → ending_in limit jobs ≡ ending.Ended → list_all has_done_state jobs ≡ true
ended_all limit jobs h = by_tests (list_all has_done_state jobs) (list_any (is_cut limit) jobs) h
  where
    by_tests : (t u : Bool) → (if t then ending.Ended else if u then ending.Limit else ending.Memory) ≡ ending.Ended → t ≡ true
    by_tests true u h = refl
    by_tests false true h = cc
    by_tests false false h = cc

limit_some : (limit : ℕ) (jobs : List Job) → ending_in limit jobs ≡ ending.Limit → list_any (is_cut limit) jobs ≡ true
limit_some limit jobs h = by_tests (list_all has_done_state jobs) (list_any (is_cut limit) jobs) h
  where
    by_tests : (t u : Bool) → (if t then ending.Ended else if u then ending.Limit else ending.Memory) ≡ ending.Limit → u ≡ true
    by_tests true u h = cc
    by_tests false true h = refl
    by_tests false false h = cc

-- and two tests over the jobs tell the ending
pub told_ended : (limit : ℕ) (jobs : List Job) → list_all has_done_state jobs ≡ true → ending.Ended ≡ ending_in limit jobs
told_ended limit jobs all = by_tests (list_all has_done_state jobs) (list_any (is_cut limit) jobs) all
  where
    by_tests : (t u : Bool) → t ≡ true → ending.Ended ≡ (if t then ending.Ended else if u then ending.Limit else ending.Memory)
    by_tests true u h = refl
    by_tests false u h = absurd (both_ways false refl h)

pub told_memory : (limit : ℕ) (jobs : List Job) → list_all has_done_state jobs ≡ false → list_any (is_cut limit) jobs ≡ false → ending.Memory ≡ ending_in limit jobs
told_memory limit jobs all any = by_tests (list_all has_done_state jobs) (list_any (is_cut limit) jobs) all any
  where
    by_tests : (t u : Bool) → t ≡ false → u ≡ false → ending.Memory ≡ (if t then ending.Ended else if u then ending.Limit else ending.Memory)
    by_tests true u h k = absurd (both_ways true h refl)
    by_tests false true h k = absurd (both_ways true k refl)
    by_tests false false h k = refl

done_state : (o : Option FlatRole) → is_done_state o ≡ true → (st : FlatRole) × (o ≡ Some st) × (ended (local_of st).process ≡ true)
done_state None h = absurd (both_ways false refl h)
done_state (Some st) h = (st, refl, h)

going_state : (o : Option FlatRole) → is_going o ≡ true → (st : FlatRole) × (o ≡ Some st) × (ended (local_of st).process ≡ false)
going_state None h = absurd (both_ways false refl h)
going_state (Some st) h = (st, refl, not-true (ended (local_of st).process) h)

-- a role's state at its end, by its job
role_end : (stage : Stage) (bundle : PlainBundle) (i : ℕ) (seat : HomeSeat) (job : Job) → EndsJob stage bundle i seat job → (st : FlatRole) → job.state ≡ Some st → IsOfRole bundle i (view job.seat) st
role_end stage bundle i seat job ends st state = if_some_at (IsOfRole bundle i (view job.seat)) job.state st ends.tied state

-- no role was cut where each has ended
pub never_both : (b : PlainBundle) (limit : ℕ) (views : List (View Entry Base)) → AllEnded b views → SomeCut b limit views → ⊥
never_both b limit views all cut =
    let end = all cut.place cut.role cut.view cut.at cut.here in
    let same : cut.process ≡ end.process =
    sym cut.stands.process ∙ ap (λ (N : Network). N.processes cut.role) (some_same (sym cut.stands.runs ∙ end.stands.runs)) ∙ end.stands.process in
    both_ways (ended cut.process) cut.goes (ap ended same ∙ end.done)

ended_rest : (e : Ending) → (e ≡ ending.Limit → ⊥) → e ≢ ending.Memory → e ≡ ending.Ended
ended_rest ending.Ended cut memory = refl
ended_rest ending.Limit cut memory = absurd (cut refl)
ended_rest ending.Memory cut memory = absurd (memory refl)

limit_rest : (e : Ending) → (e ≡ ending.Ended → ⊥) → e ≢ ending.Memory → e ≡ ending.Limit
limit_rest ending.Ended all memory = absurd (all refl)
limit_rest ending.Limit all memory = refl
limit_rest ending.Memory all memory = absurd (memory refl)

-- The jobs as they were left: the seat of each is the one that comes back.
pub record WereLeft (stage : Stage) (bundle : PlainBundle) (jobs : List Job) (views : List (View Entry Base)) : Type 0 where
  pub ends : (i : ℕ) (job : Job) → slice_get jobs i ≡ Some job → (seat : HomeSeat) × EndsJob stage bundle i seat job
  pub seats : (i : ℕ) (job : Job) (v : View Entry Base) → slice_get jobs i ≡ Some job → slice_get views i ≡ Some v → view job.seat ≡ v
  pub all : length views ≡ length jobs
  pub roles : length bundle.cast ≤ length jobs

module _ (stage : Stage) (bundle : PlainBundle) (limit : ℕ) (jobs : List Job) (views : List (View Entry Base)) (left : WereLeft stage bundle jobs views) where
  abbrev roles : List Job
  roles = take (length bundle.cast) jobs

  pub all_ended : ending_in limit roles ≡ ending.Ended → AllEnded bundle views
  all_ended h i q v at here =
      let below = slice_get_within bundle.cast i q at in
      let job = at_within jobs i (let enough = left.roles in omega (arith, below, enough)) in
      let done = done_state (job.0).state (test_at has_done_state roles i job.0 (ended_all limit roles h) (taken_at (length bundle.cast) jobs i job.0 below job.1)) in
      let same_view : view (job.0).seat ≡ v = left.seats i job.0 v job.1 here in
      let end = role_end stage bundle i (left.ends i job.0 job.1).0 job.0 (left.ends i job.0 job.1).1 done.0 done.1 in
      let same : end.role ≡ q = some_same (sym end.at ∙ at) in
      subst (λ (u : View Entry Base). HasEnded bundle u.seen q) same_view (record {
        process = (local_of done.0).process;
        store = (local_of done.0).store;
        stands = subst (λ r. RoleStandsAt bundle (view (job.0).seat).seen r (local_of done.0).process (local_of done.0).store) same end.tied.stands;
        done = done.2;
      })

  pub some_cut : ending_in limit roles ≡ ending.Limit → SomeCut bundle limit views
  some_cut h =
      let found = found_at (is_cut limit) roles (limit_some limit roles h) in
      let from = taken_from (length bundle.cast) jobs found.0 found.1 found.2 in
      let parts = and_parts (is_going (found.1).state) (has_seen limit found.1) found.3 in
      let going = going_state (found.1).state parts.0 in
      let v = at_within views found.0 (let below = from.0 in let enough = left.roles in let same = left.all in omega (arith, below, enough, same)) in
      let same_view : view (found.1).seat ≡ v.0 = left.seats found.0 found.1 v.0 from.1 v.1 in
      let end = role_end stage bundle found.0 (left.ends found.0 found.1 from.1).0 found.1 (left.ends found.0 found.1 from.1).1 going.0 going.1 in
      record {
        place = found.0;
        role = end.role;
        view = v.0;
        at = end.at;
        here = v.1;
        full = subst (λ (u : View Entry Base). length u.seen ≡ limit) same_view (eqb-true (length (view (found.1).seat).seen) limit parts.1);
        process = (local_of going.0).process;
        store = (local_of going.0).store;
        stands = subst (λ (u : View Entry Base). RoleStandsAt bundle u.seen end.role (local_of going.0).process (local_of going.0).store) same_view end.tied.stands;
        goes = going.2;
      }

  -- but where memory ran out each of the two comes exactly so
  module _ (e : Ending) (is : e ≡ ending_in limit roles) (enough : e ≢ ending.Memory) where
    pub ended_exactly : (e ≡ ending.Ended) ↔ AllEnded bundle views
    ended_exactly =
        (λ h. all_ended (sym is ∙ h), λ all. ended_rest e (λ h. never_both bundle limit views all (some_cut (sym is ∙ h))) enough)

    pub limit_exactly : (e ≡ ending.Limit) ↔ SomeCut bundle limit views
    limit_exactly =
        (λ h. some_cut (sym is ∙ h), λ cut. limit_rest e (λ h. never_both bundle limit views (all_ended (sym is ∙ h)) cut) enough)

-- what holds of the ending, where one is told
pub told_if : (P : Ending → Type 0) (are_whole : Bool) (o : Option Ending) (e : Ending) → o ≡ (if are_whole then Some e else None) → P e → IfSome o P
told_if P true o e is holds = subst (λ x. IfSome x P) (sym is) holds
told_if P false o e is holds = subst (λ x. IfSome x P) (sym is) tt

-- The jobs of the threads, and the seats that go into them and come back.
use Rattle.std.proofs.Common.{◌≡◌, ◌+◌, ◌≤◌, ℕ, zero, suc, List, [], ◌∷◌, ◌++◌, All, map, length, true, Option, Some, None, IfSome, slice_get, refl, sym, ap, ◌∙◌, subst, arith}
use Rattle.std.proofs.lemmas.List.{length-map}
use Rattle.std.proofs.lemmas.Option.{slice_get-map, slice_get_within}
use Rattle.std.specs.Prelude.{option_map}
use Rattle.dioc_terms.specs.Plain.{PlainBundle}
use Rattle.dioc_terms.specs.declared.entries.Entry.{Entry}
use Rattle.dioc_terms.specs.declared.names.Role.{Role}
use Rattle.dioc_terms.specs.Terms.{distinct_roles}
use Rattle.flat_role.specs.declared.states.FlatRole.{FlatRole}
use Rattle.flat_role.specs.FlatStates.{local_of}
use Rattle.marked_laws.proofs.Choices.{all_at}
use Rattle.marked_laws.proofs.Shapes.{none_some, some_same}
use Rattle.role_runner.proofs.EndLemmas.{WereLeft, all_by_place, all_went, at_within, if_some_at}
use Rattle.role_runner.proofs.RunLemmas.{opening_at, opening_length, place_at}
use Rattle.role_runner.proofs.TieLemmas.{went_nowhere}
use Rattle.role_runner.specs.declared.threads.Job.{Job}
use Rattle.role_runner.specs.Endings.{AllWent}
use Rattle.role_runner.specs.declared.starting.Started.{Started}
use Rattle.role_runner.specs.Jobs.{EachAt, EndsJob, HomeSeat, IsOfRole, OpensJob}
use Rattle.role_runner.specs.Starts.{Gives, IsStarted}
use Rattle.role_runner.specs.Ties.{IsSeated, IsTied, WentOn}
use Rattle.stage.specs.declared.stage.Stage.{Stage}
use Rattle.stage.specs.Holds.{IsFeeder}
use Rattle.stage.specs.Owners.{cast_place, owner_in}
use Rattle.stage.specs.Seats.{Base, opening_views}
use Rattle.stage.specs.Stages.{IsSeatIn}
use Rattle.turn_lock.specs.declared.views.View.{View}
use Rattle.turn_lock.specs.Items.{items_of}
use Rattle.turn_lock.specs.Views.{number}
use Rattle.turn_lock.specs.Words.{view}

-- an element at a place of a mapped list
pub mapped_at : {A B : Type 0} (f : A → B) (xs : List A) (i : ℕ) (y : B) → slice_get (map f xs) i ≡ Some y → (x : A) × (slice_get xs i ≡ Some x) × (f x ≡ y)
mapped_at f [] i y at = absurd (none_some at)
mapped_at f (x ∷ xs) zero y at = (x, refl, some_same at)
mapped_at f (x ∷ xs) (suc i) y at = mapped_at f xs i y at

-- what is so wherever something is there
pub some_each : {A : Type 0} (P : A → Type 0) (o : Option A) → ((x : A) → o ≡ Some x → P x) → IfSome o P
some_each P None each = tt
some_each P (Some x) each = each x refl

-- two lists to which fitting elements are added
pub each_push : {A B : Type 0} (P : ℕ → A → B → Type 0) (xs : List A) (ys : List B) (x : A) (y : B) → length ys ≡ length xs → EachAt P xs ys → P (length xs) x y
    → EachAt P (xs ++ x ∷ []) (ys ++ y ∷ [])
each_push P [] [] x y same each one zero a b at there = subst (P 0 a) (some_same there) (subst (λ c. P 0 c y) (some_same at) one)
each_push P [] [] x y same each one (suc i) a b at there = absurd (none_some at)
each_push P [] (z ∷ ys) x y same each one i a b at there = absurd (omega (arith, same))
each_push P (w ∷ xs) [] x y same each one i a b at there = absurd (omega (arith, same))
each_push P (w ∷ xs) (z ∷ ys) x y same each one zero a b at there = each 0 a b at there
each_push P (w ∷ xs) (z ∷ ys) x y same each one (suc i) a b at there = each_push (λ n. P (suc n)) xs ys x y (omega (arith, same)) (λ j. each (suc j)) one i a b at there

-- where one seat was taken, those that are left open the places behind it
pub opens_next : (P : ℕ → HomeSeat → Type 0) (s : HomeSeat) (rest : List HomeSeat) (n : ℕ) → ((j : ℕ) → IfSome (slice_get (s ∷ rest) j) (P (n + j)))
    → (j : ℕ) → IfSome (slice_get rest j) (P (n + 1 + j))
opens_next P s rest n opens j =
    let same : n + suc j ≡ n + 1 + j = omega arith in
    subst (λ m. IfSome (slice_get rest j) (P m)) same (opens (suc j))

-- what comes of threads that were started leaves the seats so
pub all_end : (stage : Stage) (bundle : PlainBundle) (seats : List HomeSeat) (started : List Started) (jobs : List Job) → length started ≡ length seats
    → EachAt (IsStarted stage bundle) seats started → EachAt (λ i. Gives) started jobs → EachAt (EndsJob stage bundle) seats jobs
all_end stage bundle seats started jobs same starts gives i seat job at there =
    let below = slice_get_within seats i seat at in
    let one = at_within started i (omega (arith, below, same)) in
    starts i seat one.0 at one.1 job (gives i one.0 job one.1 there)

abbrev seat_of : Job → HomeSeat
seat_of job = job.seat

module _ (stage : Stage) (bundle : PlainBundle) (limit : ℕ) (seats : List HomeSeat) (of : All (λ s. IsSeatIn stage s) seats) (fresh : map view seats ≡ opening_views (bundle, limit) (length bundle.cast)) where
  -- there is one for each role and one more
  pub seats_many : length seats ≡ suc (length bundle.cast)
  seats_many = sym (length-map seats view) ∙ ap length fresh ∙ opening_length (bundle, limit) (length bundle.cast)

  -- each thread begins with the seat of its place
  pub jobs_open : (i : ℕ) → IfSome (slice_get seats i) (OpensJob stage bundle i)
  jobs_open i = some_each (OpensJob stage bundle i) (slice_get seats i) (λ s at.
      let there : slice_get (opening_views (bundle, limit) (length bundle.cast)) i ≡ Some (view s) =
      ap (λ l. slice_get l i) (sym fresh) ∙ slice_get-map view seats i ∙ ap (option_map view) at in
      let opening = opening_at (bundle, limit) (length bundle.cast) i (view s) there in
      record {
        of = all_at (λ u. IsSeatIn stage u) seats i s of at;
        seated = record {
          limit = limit;
          base = opening.based;
          number_is = opening.number_is;
          met = λ base is. ap (items_of (owner_in base.0.cast) (number (view s))) opening.nothing ∙ sym opening.none;
        };
        fresh = opening.nothing;
        within = let below = slice_get_within seats i s at in let many = seats_many in omega (arith, below, many);
      })

  module _ (jobs : List Job) (all : length jobs ≡ length seats) (ends : EachAt (EndsJob stage bundle) seats jobs) where
    -- how the job at a place was left
    pub ends_at : (i : ℕ) (job : Job) → slice_get jobs i ≡ Some job → (seat : HomeSeat) × EndsJob stage bundle i seat job
    ends_at i job at =
        let below = slice_get_within jobs i job at in
        let seat = at_within seats i (omega (arith, below, all)) in
        (seat.0, ends i seat.0 job seat.1 at)

    module _ (back : List HomeSeat) (closed : back ≡ map seat_of jobs) where
      abbrev from : (i : ℕ) (t : HomeSeat) → slice_get back i ≡ Some t → (job : Job) × (slice_get jobs i ≡ Some job) × (job.seat ≡ t)
      from i t at = mapped_at seat_of jobs i t (ap (λ l. slice_get l i) (sym closed) ∙ at)

      back_all : length back ≡ length jobs
      back_all = ap length closed ∙ length-map jobs seat_of

      pub back_of : All (λ s. IsSeatIn stage s) back
      back_of = all_by_place (λ s. IsSeatIn stage s) back (λ i t at.
          let job = from i t at in
          subst (λ u. IsSeatIn stage u) job.2 (ends_at i job.0 job.1).1.of)

      pub back_went : AllWent (map view seats) (map view back)
      back_went = all_went (map view seats) (map view back) (length-map back view ∙ back_all ∙ all ∙ sym (length-map seats view)) (λ i v w at there.
          let s = mapped_at view seats i v at in
          let t = mapped_at view back i w there in
          let job = from i t.0 t.1 in
          let end = ends i s.0 job.0 s.1 job.1 in
          subst (λ x. WentOn x w) s.2 (subst (λ x. WentOn (view s.0) x) (ap view job.2 ∙ t.2) end.went))

      pub were_left : WereLeft stage bundle jobs (map view back)
      were_left = record {
        ends = ends_at;
        seats = λ i job v at there.
            let t = mapped_at view back i v there in
            let other = from i t.0 t.1 in
            let same : other.0 ≡ job = some_same (sym other.1 ∙ at) in
            ap (λ (j : Job). view j.seat) (sym same) ∙ ap view other.2 ∙ t.2;
        all = length-map back view ∙ back_all;
        roles = let many = seats_many in omega (arith, many, all);
      }

module _ (bundle : PlainBundle) (place : ℕ) (v : View Entry Base) (seated : IsSeated bundle place v) where
  -- the seat of a role's thread is the role's
  pub role_seated : distinct_roles bundle.cast ≡ true → (q : Role) → slice_get bundle.cast place ≡ Some q → IsSeated bundle (cast_place bundle.cast q) v
  role_seated distinct q at = record {
    limit = seated.limit;
    base = seated.base;
    number_is = seated.number_is ∙ sym (place_at bundle.cast place q distinct at);
    met = seated.met;
  }

  -- and behind the roles it is the feeder's
  pub feeder_seated : place ≤ length bundle.cast → slice_get bundle.cast place ≡ None → IsFeeder v
  feeder_seated within none base is =
      let past = past_all bundle.cast place none in
      subst (λ (b : Base). number v ≡ length b.0.cast) (some_same (sym seated.base ∙ is)) (seated.number_is ∙ (let same : place ≡ length bundle.cast = omega (arith, within, past) in same))
    where
      past_all : (cast : List Role) (i : ℕ) → slice_get cast i ≡ None → length cast ≤ i
      past_all [] i none = omega arith
      past_all (r ∷ rs) zero none = cc
      past_all (r ∷ rs) (suc i) none = let more = past_all rs i none in omega (arith, more)

-- a state that is tied to the seat of a role is of the role's place
pub of_role : (bundle : PlainBundle) (place : ℕ) (v : View Entry Base) (q : Role) → slice_get bundle.cast place ≡ Some q → (o : Option FlatRole) → IfSome o (λ st. IsTied bundle q v (local_of st))
    → IfSome o (IsOfRole bundle place v)
of_role bundle place v q at o tied =
    some_each (IsOfRole bundle place v) o (λ st is. record { role = q; at = at; tied = if_some_at (λ x. IsTied bundle q v (local_of x)) o st tied is })

-- the seats of a new stage have gone on from themselves
pub opening_went : (base : Base) (count : ℕ) → AllWent (opening_views base count) (opening_views base count)
opening_went base count = all_went (opening_views base count) (opening_views base count) refl (λ i v w at there.
    let opening = opening_at base count i v at in
    subst (WentOn v) (some_same (sym at ∙ there)) (went_nowhere v (λ other is. ap (items_of (owner_in other.0.cast) (number v)) opening.nothing ∙ sym opening.none)))

pub fresh_went : (base : Base) (count : ℕ) (seats : List HomeSeat) → map view seats ≡ opening_views base count → AllWent (map view seats) (map view seats)
fresh_went base count seats fresh = subst (λ vs. AllWent vs vs) (sym fresh) (opening_went base count)

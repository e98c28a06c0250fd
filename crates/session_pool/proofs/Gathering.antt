-- What was gathered of the workers: their claims, and what they made at its places.
use Rattle.std.proofs.Common.{◌≡◌, ℕ, zero, suc, get_or, ◌+◌, ◌<◌, ◌≤◌, List, [], ◌∷◌, ◌++◌, length, map, Option, Some, true, refl, sym, ap, ◌∙◌, subst, arith, lt_of_not-le}
use Rattle.std.specs.Prelude.{All, slice_get}
use Rattle.std.specs.List.{AllByRecursion}
use Rattle.std.proofs.lemmas.List.Elements.{recursion_from_All}
use Rattle.std.proofs.lemmas.List.{length-map, map-append}
use Rattle.dioc_terms.specs.declared.bundles.Bundle.{Bundle}
use Rattle.dioc_terms.specs.Plain.{plain}
use Rattle.std.specs.Option.{is_some}
use Rattle.ticket_table.specs.declared.tickets.Tickets.{Tickets}
use Rattle.ticket_table.specs.declared.tickets.Drawer.{Drawer}
use Rattle.ticket_table.specs.Counts.{times}
use Rattle.ticket_table.specs.Views.{holding, joined}
use Rattle.ticket_table.specs.Words.{IsDrawerOf, drawn_by, parts_of, view}
use Rattle.ticket_table.proofs.Totals.{one_if_same, times_append, times_with}
use Rattle.session_pool.specs.declared.jobs.Numbered.{Numbered}
use Rattle.session_pool.specs.declared.jobs.Job.{Job}
use Rattle.session_pool.specs.declared.jobs.Order.{Order}
use Rattle.session_pool.specs.Answers.{PlainAnswer, answer_of, answers_of, numbered}
use Rattle.session_pool.specs.Jobs.{IsWorkDone, IsRight, HasWorked, expected, numbers_of}
use Rattle.session_pool.specs.Places.{placed}
use Rattle.session_pool.proofs.Lists.{each_some, get_within, mapped, both, all_more, get_mapped, get_numbered, length_numbered}
use Rattle.session_pool.proofs.Placing.{FitPlaces, worker_placed}

module _ {T V : Type 0} (seen : T → V) where
  -- of so many workers: the first drawer has their claims, some of which were past the last session
  pub record Gathered (tickets : Tickets) (wanted : List V) (workers : ℕ) (first : Drawer) (places : List (Option T)) : Type 0 where
    pub of : IsDrawerOf tickets first
    pub parts : parts_of first ≡ 1 + workers
    pub fits : FitPlaces seen wanted (drawn_by first) places
    pub past : 0 < workers → (last : ℕ) × (length wanted ≤ last) × (0 < times last (drawn_by first))

  pub none_gathered : (tickets : Tickets) (wanted : List V) (first : Drawer) (places : List (Option T)) → IsDrawerOf tickets first → view first ≡ holding 1 [] → FitPlaces seen wanted [] places → Gathered tickets wanted 0 first places
  none_gathered tickets wanted first places of is fits = record {
    of = of;
    parts = ap (λ v. v.parts) is;
    fits = subst (λ l. FitPlaces seen wanted l places) (sym (ap (λ v. v.drawn) is)) fits;
    past = λ (some : 0 < 0). absurd (omega arith);
  }

  pub one_gathered : (tickets : Tickets) (wanted : List V) (workers : ℕ) (old new : Drawer) (job : Job T) (places : List (Option T)) → Gathered tickets wanted workers old places → IsWorkDone seen tickets wanted job
      → IsDrawerOf tickets new → view new ≡ joined (view old) (view job.drawer) → Gathered tickets wanted (workers + 1) new (placed places job.made.items)
  one_gathered tickets wanted workers old new job places so_far done of is = record {
    of = of;
    parts = let a : parts_of new ≡ parts_of old + parts_of job.drawer = ap (λ v. v.parts) is in let p = so_far.parts in let o = done.one in omega arith;
    fits = subst (λ l. FitPlaces seen wanted l (placed places job.made.items)) (sym drawn) (worker_placed seen wanted (drawn_by old) (drawn_by job.drawer) job.made.items places so_far.fits worked);
    past = λ some. (worked.last, worked.past, here);
  }
    where
      worked : HasWorked seen wanted (drawn_by job.drawer) job.made.items
      worked = done.worked

      drawn : drawn_by new ≡ drawn_by old ++ drawn_by job.drawer
      drawn = ap (λ v. v.drawn) is

      here : 0 < times worked.last (drawn_by new)
      here =
          let a : times worked.last (drawn_by new) ≡ times worked.last (drawn_by old ++ drawn_by job.drawer) = ap (times worked.last) drawn in
          let b = times_append worked.last (drawn_by old) (drawn_by job.drawer) in
          let c : times worked.last (drawn_by job.drawer) ≡ times worked.last (numbers_of job.made.items ++ worked.last ∷ []) = ap (times worked.last) worked.drawn in
          let d = times_with worked.last worked.last (numbers_of job.made.items) in
          let o = one_if_same worked.last in
          omega arith

  -- where each ticket below a count was drawn and no other, each place has an answer
  pub all_answered : (tickets : Tickets) (wanted : List V) (workers count : ℕ) (first : Drawer) (places : List (Option T)) → 0 < workers → Gathered tickets wanted workers first places
      → ((n : ℕ) → n < count → times n (drawn_by first) ≡ 1) → ((n : ℕ) → count ≤ n → times n (drawn_by first) ≡ 0) → AllByRecursion (λ place. is_some place ≡ true) places
  all_answered tickets wanted workers count first places some so_far once none =
      each_some places
      (λ i lt.
      let many = so_far.fits.as_many in
      let small = below in
      let far = past in
      let is = once i (omega arith) in
      so_far.fits.full i (omega arith) (omega arith))
    where
      last : (last : ℕ) × (length wanted ≤ last) × (0 < times last (drawn_by first))
      last = so_far.past some

      below : last.0 < count
      below = lt_of_not-le (λ (le : count ≤ last.0). let z = none last.0 le in let p = last.2 in omega arith)

      past : length wanted ≤ last.0
      past = last.1

  -- the numbers of right wanted are below the count of the sessions
  pub right_within : (wanted : List V) (count : ℕ) (kept : List (Numbered T)) → length wanted ≡ count → AllByRecursion (IsRight seen wanted) kept → AllByRecursion (λ one. one.number < count) kept
  right_within wanted count kept same right =
      mapped (IsRight seen wanted) (λ one. one.number < count) (λ one is. let within = get_within wanted one.number _ is in omega arith) kept right

  -- each worker is done, where each has come past the last session
  pub all_are_done : (tickets : Tickets) (wanted : List V) (jobs : List (Job T)) → All (λ (job : Job T). job.done ≡ true → IsWorkDone seen tickets wanted job) jobs → AllByRecursion (λ (job : Job T). job.done ≡ true) jobs → AllByRecursion (IsWorkDone seen tickets wanted) jobs
  all_are_done tickets wanted jobs done all =
      both (λ (job : Job T). job.done ≡ true) (λ (job : Job T). job.done ≡ true → IsWorkDone seen tickets wanted job) (IsWorkDone seen tickets wanted) (λ job is worked. worked is) jobs all
      (recursion_from_All (λ (job : Job T). job.done ≡ true → IsWorkDone seen tickets wanted job) jobs done)

  -- a session more was claimed and answered
  pub claims_more : (kept new : List (Numbered T)) (one : Numbered T) (claims after : List ℕ) (ticket : ℕ) → claims ≡ numbers_of kept → after ≡ claims ++ ticket ∷ [] → one.number ≡ ticket → new ≡ kept ++ one ∷ [] → after ≡ numbers_of new
  claims_more kept new one claims after ticket so_far drawn same are =
      drawn ∙ (ap (λ l. l ++ ticket ∷ []) so_far ∙ (ap (λ n. numbers_of kept ++ n ∷ []) (sym same) ∙ (sym (map-append (λ (x : Numbered T). x.number) kept (one ∷ [])) ∙ ap numbers_of (sym are))))

  pub right_more : (wanted : List V) (kept new : List (Numbered T)) (one : Numbered T) → AllByRecursion (IsRight seen wanted) kept → IsRight seen wanted one → new ≡ kept ++ one ∷ [] → AllByRecursion (IsRight seen wanted) new
  right_more wanted kept new one right is are = subst (AllByRecursion (IsRight seen wanted)) (sym are) (all_more (IsRight seen wanted) kept one right is)

-- as much is wanted as there are sessions
pub expected_length : {V : Type 0} (made_of : ℕ → PlainAnswer → V) (order : Order) → length (expected made_of order) ≡ length order.bundles.now
expected_length made_of order =
    length_numbered made_of 0 (answers_of order.seed order.limit (map plain order.bundles.now))
    ∙ (length-map (map plain order.bundles.now) (λ b. answer_of b order.seed order.limit) ∙ length-map order.bundles.now plain)

-- what is made of the answer of a session that was run is what is wanted of it
pub session_right : {V : Type 0} (made_of : ℕ → PlainAnswer → V) (seed : Option ℕ) (limit : ℕ) (bundles : List Bundle) (n : ℕ) (d : Bundle) (answer : PlainAnswer) (made : V) → n < length bundles
    → answer ≡ answer_of (plain (get_or bundles n d)) seed limit → made ≡ made_of n answer → slice_get (numbered made_of 0 (answers_of seed limit (map plain bundles))) n ≡ Some made
session_right made_of seed limit bundles n d answer made inside is makes =
    get_numbered made_of 0 (answers_of seed limit (map plain bundles)) n answer
    (get_mapped (λ b. answer_of b seed limit) (map plain bundles) n (plain d) (let same = length-map bundles plain in omega arith)
    ∙ ap Some (ap (λ b. answer_of b seed limit) (get_plain bundles n) ∙ sym is))
    ∙ ap (λ m. Some (made_of m answer)) first
    ∙ ap Some (sym makes)
  where
    first : 0 + n ≡ n
    first = omega arith

    get_plain : (xs : List Bundle) (i : ℕ) → get_or (map plain xs) i (plain d) ≡ plain (get_or xs i d)
    get_plain [] i = refl
    get_plain (x ∷ xs) zero = refl
    get_plain (x ∷ xs) (suc i) = get_plain xs i

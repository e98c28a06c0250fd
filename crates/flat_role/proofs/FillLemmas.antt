-- Where no update runs, each place that can act offers just one act, so the lengths say what a list
-- of acts lacks.
use Rattle.std.proofs.Common.{◌≡◌, ◌+◌, ◌<◌, ◌≤◌, ℕ, zero, suc, List, [], ◌∷◌, ◌++◌, Bool, true, false, ◌||◌, ◌&&◌, Some, slice_get, length, map, take, drop, get_or, refl, ap, ap₂, ◌∙◌, sym, subst, arith, ⊎_elim}
use Rattle.std.specs.List.{between, list_all}
use Rattle.std.proofs.lemmas.Bool.{cases_Bool, cases_lt, cond-true, cond-false}
use Rattle.std.proofs.lemmas.List.{append_assoc, drop_at, get_or-take, length-append, length-drop, length-take-le, map-append, take-append-drop, take_at}
use Rattle.std.proofs.lemmas.List.Edits.{get_or-between, length-between}
use Rattle.std.proofs.lemmas.List.Elements.{All-get_or}
use Rattle.std.proofs.lemmas.List.Folds.{list_all-append, list_all-map}
use Rattle.std.proofs.lemmas.List.Sums.{AllPass-from_list_all}
use Rattle.dioc_terms.specs.declared.names.Role.{Role}
use Rattle.dioc_terms.specs.declared.entries.Act.{Act}
use Rattle.dioc_terms.specs.EqualityLemmas.{act_eq-decides}
use Rattle.dioc_terms.specs.Processes.{Process, Skip, Seq, Par, IfLead, IfFollow, WhileLead, WhileFollow, ScopeLead, ScopeFollow, Tell, Gather, Nothing}
use Rattle.dpoc_process.specs.LocalStates.{IsNumbered, LacksAt}
use Rattle.flat_code.specs.Codes.{process_of}
use Rattle.flat_code.specs.declared.plan.Plan.{Plan}
use Rattle.flat_role.specs.declared.marks.Mark.{Mark as KeptMark}
use Rattle.flat_role.specs.declared.marks.Mark.TheVariants as kept_mark
use Rattle.flat_role.specs.declared.progress.Progress.{Progress}
use Rattle.flat_role.specs.KeptMarks.{end_keys, first_letters, last_keys, last_letters, letters_from, meant}
use Rattle.flat_role.specs.Leaves.{front, is_became, is_leaf}
use Rattle.flat_role.specs.PlanMarks.{plan_layout, plan_len, static_at}
use Rattle.flat_role.specs.Progress.{IsFound, IsProgress, acts_at, marks_by, offers_there, runs_by}
use Rattle.flat_role.proofs.LeafActs.{leaf_offers}
use Rattle.flat_role.proofs.NextLemmas.{awaited_own, gathered_own, left_own, told_own}
use Rattle.flat_role.proofs.ProgressLemmas.{acts-more, found-at, is-code, offers-acts, offers-places, place-acts}
use Rattle.flat_role.proofs.RelistLemmas.{acts_split}
use Rattle.flat_role.proofs.SingleActs.{leaf_offers_just}
use Rattle.process_steps.specs.Steps.{ended, is_offered, offers}
use Rattle.role_statuses.specs.Flat.{Marks, inner, size}
use Rattle.role_statuses.specs.Kept.{kept, marked}
use Rattle.role_statuses.specs.ListLaws.{spot_at}
use Rattle.role_statuses.specs.Marks.{Mark}
use Rattle.role_statuses.specs.Spots.{Spot, acts_of, spot_of, spots, still}
use Rattle.role_statuses.specs.Statuses.{Status, Untouched, Finished, First, Second, Both, Branch, Body, Became, Telling, Gathering, Ending, Left, Waiting, is_over, leaves}
use Rattle.role_statuses.proofs.ListLemmas.{places-are_listed}
use Rattle.role_statuses.proofs.SpotLemmas.{acts-append}

-- Of lists.

-- what holds of those before this number, and of this one
pub with_this : (Q : ℕ → Type 0) (n : ℕ) → ((i : ℕ) → i < n → Q i) → Q n → (i : ℕ) → i < n + 1 → Q i
with_this Q n before this i h = ⊎_elim
    (λ low. before i low)
    (λ past. let is : n ≡ i = omega (arith, h, past) in subst Q is this)
    (cases_lt i n)

same_split : {X : Type 0} (us vs xs ys : List X) → length us ≡ length vs → us ++ xs ≡ vs ++ ys
    → (us ≡ vs) × (xs ≡ ys)
same_split us vs xs ys long same = (
  sym (take_at us xs (length vs) long) ∙ ap (take (length vs)) same
      ∙ take_at vs ys (length vs) refl,
  sym (drop_at us xs (length vs) long) ∙ ap (drop (length vs)) same
      ∙ drop_at vs ys (length vs) refl,
)

-- a list that lacks some is shorter by so many
pub lacks_many : {X : Type 0} (all old news : List X) (at : ℕ) → at ≤ length old
    → all ≡ take at old ++ (news ++ drop at old) → length old + length news ≡ length all
lacks_many all old news at inside lacks =
    omega (
      arith,
      ap length lacks,
      length-append (take at old) (news ++ drop at old),
      length-append news (drop at old),
      length-take-le at old inside,
      length-drop at old,
    )

-- as many as it lacks, between as many at the front and at the back, are those that it lacks
pub filled : {X : Type 0} (all old news front mid back : List X) (at : ℕ) → at ≤ length old
    → all ≡ take at old ++ (news ++ drop at old) → front ++ (mid ++ back) ≡ all
    → length front ≡ at → length old + length mid ≡ length all
    → take at old ++ (mid ++ drop at old) ≡ all
filled all old news front mid back at inside lacks split long count =
    let outer =
    same_split front (take at old) (mid ++ back) (news ++ drop at old)
    (long ∙ sym (length-take-le at old inside)) (split ∙ lacks) in
    let inner =
    same_split mid news back (drop at old)
    (omega (arith, count, lacks_many all old news at inside lacks)) outer.1 in
    ap₂ (λ xs ys. xs ++ (mid ++ ys)) (sym outer.0) (sym inner.1) ∙ split

-- the one behind so many at the front
behind_front : {X : Type 0} (front back : List X) (y x : X) → slice_get (front ++ y ∷ back) (length front) ≡ Some x → y ≡ x
behind_front [] back y x there = cc
behind_front (z ∷ front) back y x there = behind_front front back y x there

-- a list of one
one_in : {X : Type 0} (xs : List X) → length xs ≡ 1 → (x : X) × (xs ≡ x ∷ [])
one_in [] long = cc
one_in (x ∷ []) long = (x, refl)
one_in (x ∷ y ∷ xs) long = absurd (omega (arith, long))

-- Of acts.

abbrev has_acts : List Act → Bool
has_acts [] = false
has_acts (a ∷ acts) = true

has_left : (xs ys : List Act) → has_acts xs ≡ true → has_acts (xs ++ ys) ≡ true
has_left [] ys h = cc
has_left (x ∷ xs) ys h = refl

has_right : (xs ys : List Act) → has_acts ys ≡ true → has_acts (xs ++ ys) ≡ true
has_right [] ys h = h
has_right (x ∷ xs) ys h = refl

-- where there are some, and each is all that there is, there is one
one_of : (acts : List Act) → has_acts acts ≡ true
    → ((a : Act) → is_offered a acts ≡ true → acts ≡ a ∷ []) → length acts ≡ 1
one_of [] some just = cc
one_of (a ∷ acts) some just =
    ap length (just a (ap (λ t. t || is_offered a acts) ((act_eq-decides a a).1 refl)))

module _ (me : Role) where
  -- a process that hasn't ended offers an act
  offers_some : (P : Process) → ended P ≡ false → has_acts (offers me P) ≡ true
  offers_some (Seq P Q) h = ⊎_elim
      (λ over. ap has_acts (cond-true (ended P) (offers me Q) (offers me P) over)
      ∙ offers_some Q (sym (ap (λ t. t && ended Q) over) ∙ h))
      (λ goes. ap has_acts (cond-false (ended P) (offers me Q) (offers me P) goes)
      ∙ offers_some P goes)
      (cases_Bool (ended P))
  offers_some (Par P Q) h = ⊎_elim
      (λ over. has_right (offers me P) (offers me Q)
      (offers_some Q (sym (ap (λ t. t && ended Q) over) ∙ h)))
      (λ goes. has_left (offers me P) (offers me Q) (offers_some P goes))
      (cases_Bool (ended P))
  offers_some Skip h = cc
  offers_some (Tell Nothing) h = cc
  offers_some (Gather []) h = cc
  offers_some P h = refl

  -- and so does each place that can act

  abbrev all_some : List Spot → Bool
  all_some ss = list_all (λ s. has_acts s.acts) ss

  both_some : (xs ys : List Spot) → all_some xs ≡ true → all_some ys ≡ true
      → all_some (xs ++ ys) ≡ true
  both_some xs ys h k = list_all-append (λ s. has_acts s.acts) xs ys ∙ ap₂ (λ t u. t && u) h k

  lone_some : (b : ℕ) (x : Status) (P : Process)
      → (is_over me x P ≡ false → has_acts (leaves me x P) ≡ true)
      → all_some (spot_of me b x P) ≡ true
  lone_some b x P some = ⊎_elim
      (λ over. ap all_some
      (cond-true (is_over me x P) []
      (record { place = b + inner P; acts = leaves me x P } ∷ []) over))
      (λ goes. ap all_some
      (cond-false (is_over me x P) []
      (record { place = b + inner P; acts = leaves me x P } ∷ []) goes)
      ∙ ap (λ t. t && true) (some goes))
      (cases_Bool (is_over me x P))

  still_some : (b : ℕ) (P : Process) → all_some (still me b P) ≡ true
  still_some b (Seq P Q) = ⊎_elim
      (λ over. ap all_some (cond-true (ended P) (still me (b + size P) Q) (still me b P) over)
      ∙ still_some (b + size P) Q)
      (λ goes. ap all_some (cond-false (ended P) (still me (b + size P) Q) (still me b P) goes)
      ∙ still_some b P)
      (cases_Bool (ended P))
  still_some b (Par P Q) =
      both_some (still me b P) (still me (b + size P) Q) (still_some b P)
      (still_some (b + size P) Q)
  still_some b P = lone_some b Untouched P (offers_some P)

  spots_some : (b : ℕ) (x : Status) (P : Process) → all_some (spots me b x P) ≡ true
  spots_some b Untouched P = still_some b P
  spots_some b (Became R) P = lone_some b (Became R) P (offers_some R)
  spots_some b (First x) (Seq P Q) = spots_some b x P
  spots_some b (Second x) (Seq P Q) = spots_some (b + size P) x Q
  spots_some b (Both x y) (Par P Q) =
      both_some (spots me b x P) (spots me (b + size P) y Q) (spots_some b x P)
      (spots_some (b + size P) y Q)
  spots_some b (Branch true x) (IfLead i g others P Q) = spots_some b x P
  spots_some b (Branch false x) (IfLead i g others P Q) = spots_some (b + size P) x Q
  spots_some b (Branch true x) (IfFollow i leader P Q) = spots_some b x P
  spots_some b (Branch false x) (IfFollow i leader P Q) = spots_some (b + size P) x Q
  spots_some b (Body x) (WhileLead i g others P) = spots_some b x P
  spots_some b (Body x) (WhileFollow i leader P) = spots_some b x P
  spots_some b (Body x) (ScopeLead head others P) = spots_some b x P
  spots_some b (Body x) (ScopeFollow i leader P) = spots_some b x P
  spots_some b (Telling t n l ms) (IfLead i g others P Q) = refl
  spots_some b (Gathering n ns) (WhileLead i g others P) = refl
  spots_some b Ending (WhileFollow i leader P) = refl
  spots_some b (Left n l ms) (WhileLead i g others P) = refl
  spots_some b (Waiting n ns) (ScopeFollow i leader P) = refl
  spots_some b x P = refl

  -- where no other process runs, it offers just one
  leaf_one : (m : Mark) (P : Process) → is_leaf m P ≡ true → is_became m ≡ false
      → has_acts (leaves me (marked m Finished Finished) P) ≡ true
      → length (leaves me (marked m Finished Finished) P) ≡ 1
  leaf_one m P leaf own some = one_of (leaves me (marked m Finished Finished) P) some
      (λ a h. leaf_offers_just me a m P leaf own
      (ap (is_offered a) (sym (leaf_offers me m P leaf)) ∙ h))

-- what no update is stands for none
pub not_became : (me : Role) (P : Process) (m : KeptMark)
    → ((update : _) → m ≡ kept_mark.Became update → ⊥) → is_became (meant me P m) ≡ false
not_became me P (kept_mark.Became update) other = absurd (other update refl)
not_became me P (kept_mark.Telling b n) other = told_own b (letters_from n (first_letters me P b))
not_became me P (kept_mark.Gathering n) other = gathered_own (drop n (end_keys me P))
not_became me P (kept_mark.Left n) other = left_own (letters_from n (last_letters me P))
not_became me P (kept_mark.Waiting n) other = awaited_own (drop n (last_keys me P))
not_became me P m other = refl

-- Of places with one act each.

module _ (here : ℕ → Spot) where
  many_acts : (ps : List ℕ) → ((i : ℕ) → i < length ps → length (here (get_or ps i 0)).acts ≡ 1)
      → length (acts_of (map here ps)) ≡ length ps
  many_acts [] ones = refl
  many_acts (p ∷ ps) ones =
      let one : length (here p).acts ≡ 1 = ones zero (omega arith) in
      let rest = many_acts ps (λ i h. ones (suc i) (omega (arith, h))) in
      length-append (here p).acts (acts_of (map here ps)) ∙ omega (arith, one, rest)

-- Of a role over code.

module _ (me : Role) (plan : Plan) (progress : Progress) (k : IsProgress me plan progress) where
  abbrev ms : Marks
  ms = marks_by me plan progress

  abbrev W : Process
  W = process_of plan.code

  abbrev here : ℕ → Spot
  here = spot_at me (plan_layout plan) ms

  abbrev ps : List ℕ
  ps = progress.active.items

  some_acts : (i : ℕ) → i < length ps → has_acts (here (get_or ps i 0)).acts ≡ true
  some_acts i h = All-get_or (λ p. has_acts (here p).acts ≡ true) ps i 0 h
      (AllPass-from_list_all (λ p. has_acts (here p).acts) ps
      (sym (list_all-map (λ s. has_acts s.acts) here ps)
      ∙ ap (list_all (λ s. has_acts s.acts))
      (ap (map here) k.listed
      ∙ sym (places-are_listed.listed me (plan_layout plan) (plan_len plan) ms W
      (is-code plan) k.kept))
      ∙ spots_some me 0 (kept ms 0 W) W))

  -- no update runs at a place that can act
  abbrev pub NoUpdate : Type 0
  NoUpdate = (i : ℕ) → i < length ps → is_became (ms (get_or ps i 0)) ≡ false

  one_act : NoUpdate → (i : ℕ) → i < length ps → length (here (get_or ps i 0)).acts ≡ 1
  one_act own i h =
      leaf_one me (ms (get_or ps i 0)) (static_at plan (get_or ps i 0))
      (place-acts me plan progress k i h) (own i h) (some_acts i h)

  abbrev all_acts : List Act
  all_acts = offers me (runs_by me plan progress)

  -- where no update runs at it or before it, the place of this number offers the act of this number
  module _ (number : ℕ) (inside : number < length ps)
      (own : (i : ℕ) → i < number + 1 → is_became (ms (get_or ps i 0)) ≡ false) where
    abbrev acts_before : List Act
    acts_before = acts_of (map here (take number ps))

    abbrev acts_behind : List Act
    acts_behind = acts_of (map here (drop (number + 1) ps))

    abbrev at_place : List Act
    at_place = (here (get_or ps number 0)).acts

    single : (i : ℕ) → i < number + 1 → length (here (get_or ps i 0)).acts ≡ 1
    single i h = let low : i < length ps = omega (arith, h, inside) in
        leaf_one me (ms (get_or ps i 0)) (static_at plan (get_or ps i 0)) (place-acts me plan progress k i low) (own i h) (some_acts i low)

    before_long : length acts_before ≡ number
    before_long = let long : length (take number ps) ≡ number = length-take-le number ps (omega (arith, inside)) in
        many_acts here (take number ps)
        (λ i h. let low : i < number = omega (arith, h, long) in
        ap (λ p. length (here p).acts) (get_or-take number ps i 0 low) ∙ single i (omega (arith, low)))
        ∙ long

    split_acts : all_acts ≡ acts_before ++ (at_place ++ acts_behind)
    split_acts = sym (offers-acts me plan progress k)
        ∙ ap (λ qs. acts_of (map here qs)) (sym (take-append-drop (number + 1) ps))
        ∙ ap acts_of (map-append here (take (number + 1) ps) (drop (number + 1) ps))
        ∙ acts-append (map here (take (number + 1) ps)) (map here (drop (number + 1) ps))
        ∙ ap (λ acts. acts ++ acts_behind) (acts-more me (plan_layout plan) ms ps number 0 inside)
        ∙ append_assoc acts_before at_place acts_behind

    pub numbered-found : (a : Act) → IsNumbered number a all_acts
        → IsFound me plan progress a number (get_or ps number 0)
    numbered-found a numbered =
        let one = one_in at_place (single number (omega arith)) in
        let split : all_acts ≡ acts_before ++ one.0 ∷ acts_behind = split_acts ∙ ap (λ acts. acts_before ++ (acts ++ acts_behind)) one.1 in
        let is : one.0 ≡ a = behind_front acts_before acts_behind one.0 a
        (ap₂ slice_get (sym split) before_long ∙ numbered.stands) in
        let before : take number all_acts ≡ acts_before = ap (take number) split ∙ take_at acts_before (one.0 ∷ acts_behind) number before_long in
        found-at me plan progress k a number inside
        (sym (offers-places me (plan_layout plan) ms a (take number ps)) ∙ ap (is_offered a) (sym before) ∙ numbered.first)
        (ap (is_offered a) one.1 ∙ ap (λ t. t || false) ((act_eq-decides a one.0).1 (sym is)))

  as_many : NoUpdate → length all_acts ≡ length ps
  as_many own = ap length (sym (offers-acts me plan progress k)) ∙ many_acts here ps (one_act own)

  -- it lacks no more than the places offer
  pub lacks-few : NoUpdate → (old : List Act) (at : ℕ) → at ≤ length old → LacksAt at old all_acts
      → length old ≤ length ps
  lacks-few own old at inside lacks =
      omega (arith, as_many own, lacks_many all_acts old lacks.0 at inside lacks.1)

  -- so many places from there on offer as many acts
  pub news-many : NoUpdate → (at missing : ℕ) → at + missing ≤ length ps
      → length (acts_at me plan progress (between at (at + missing) ps)) ≡ missing
  news-many own at missing inside =
      let some : length (between at (at + missing) ps) ≡ missing =
      omega (arith, length-between ps at (at + missing) inside) in
      many_acts here (between at (at + missing) ps)
      (λ i h. let low : i < missing = omega (arith, h, some) in
      ap (λ p. length (here p).acts) (get_or-between ps at (at + missing) i 0 (omega (arith, low)))
      ∙ one_act own (at + i) (omega (arith, low, inside)))
      ∙ some

  -- with the acts of those it has all
  pub fills : NoUpdate → (old : List Act) (at missing : ℕ) → at ≤ length old
      → LacksAt at old all_acts → length old + missing ≡ length ps
      → take at old ++ (acts_at me plan progress (between at (at + missing) ps) ++ drop at old)
      ≡ all_acts
  fills own old at missing inside lacks count =
      let room : at ≤ length ps = omega (arith, inside, count) in
      let front : length (acts_at me plan progress (take at ps)) ≡ at =
      many_acts here (take at ps)
      (λ i h. let low : i < at = omega (arith, h, length-take-le at ps room) in
      ap (λ p. length (here p).acts) (get_or-take at ps i 0 low)
      ∙ one_act own i (omega (arith, low, room)))
      ∙ length-take-le at ps room in
      let mid = news-many own at missing (omega (arith, inside, count)) in
      filled all_acts old lacks.0 (acts_at me plan progress (take at ps))
      (acts_at me plan progress (between at (at + missing) ps))
      (acts_at me plan progress (drop (at + missing) ps)) at inside lacks.1
      (acts_split here ps at (at + missing) (omega arith) ∙ offers-acts me plan progress k) front
      (omega (arith, mid, count, as_many own))

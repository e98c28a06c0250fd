-- The places that can act, by the marks.
use Rattle.std.proofs.Common.{◌≡◌, ◌<◌, ◌≤◌, ◌+◌, ℕ, zero, suc, List, [], ◌∷◌, ◌++◌, Bool, true, false, if◌then◌else◌, get_or, length, map, drop, refl, sym, ap, ap₂, ◌∙◌, subst, arith, ⊎_elim}
use Rattle.std.proofs.Math.Dec.{leb, leb-suc-suc}
use Rattle.std.proofs.lemmas.Bool.{cases_lt, cond-true, cond-false, le-leb, lt-leb}
use Rattle.std.proofs.lemmas.List.{append_assoc, drop_all, get_or_default, length-append, length-drop, map-append}
use Rattle.dioc_terms.specs.declared.names.Index.{Index}
use Rattle.dioc_terms.specs.declared.names.Role.{Role}
use Rattle.dioc_terms.specs.declared.processes.Key.{Key}
use Rattle.dioc_terms.specs.declared.processes.Tag.{Tag}
use Rattle.dioc_terms.specs.Processes.{Process, Seq, Par, IfLead, IfFollow, WhileLead, WhileFollow, ScopeLead, ScopeFollow, Letters, Nothing, More, Load}
use Rattle.flat_code.specs.declared.ops.Op.{Op}
use Rattle.flat_code.specs.declared.ops.Op.TheVariants as op
use Rattle.flat_code.specs.declared.plan.Plan.{Plan}
use Rattle.flat_code.specs.Levels.{IsLevel, PartsHang}
use Rattle.flat_code.specs.Places.{AreBelow, at, op_process, part_places, processes}
use Rattle.flat_code.proofs.HangLemmas.{places_hang}
use Rattle.flat_role.specs.declared.marks.Mark.{Mark as KeptMark}
use Rattle.flat_role.specs.declared.marks.Mark.TheVariants as kept
use Rattle.flat_role.specs.Entering.{RunsAlone, how_many, is_new, is_other, is_nothing, running_parts, still_places}
use Rattle.flat_role.specs.KeptMarks.{awaited, end_keys, first_letters, gathered, last_keys, last_letters, left, letters_from, meant, told}
use Rattle.dpoc_process.specs.Acting.{is_single}
use Rattle.flat_role.specs.Leaves.{is_leaf}
use Rattle.flat_role.specs.PlanMarks.{low_at, places_at, plan_len, plan_marks, static_at}
use Rattle.process_steps.specs.Steps.{ended, letters_to}
use Rattle.role_statuses.specs.Flat.{Marks, inner, size}
use Rattle.role_statuses.specs.Kept.{kept as status_of, marked}
use Rattle.role_statuses.specs.Marks.{Mark}
use Rattle.role_statuses.specs.Spots.{Spot, spot_of, spots, still}
use Rattle.role_statuses.specs.Statuses.{Status, Untouched, Finished, Telling, Gathering, Ending, Left, Waiting, Became, is_over, leaves}

-- How many messages.

pub how_many_to : (me : Role) (others : List Role) (i : Index) (tag : Tag) (carries : Role → Load)
    → how_many (letters_to me others i tag carries) ≡ length others
how_many_to me [] i tag carries = refl
how_many_to me (q ∷ qs) i tag carries = omega (arith, how_many_to me qs i tag carries)

pub all_told : (n : ℕ) (ms : Letters) → is_nothing (letters_from n ms) ≡ leb (how_many ms) n
all_told zero Nothing = refl
all_told zero (More k l ms) = sym (lt-leb (suc (how_many ms)) 0 (omega arith))
all_told (suc n) Nothing = sym (le-leb 0 (suc n) (omega arith))
all_told (suc n) (More k l ms) = all_told n ms ∙ sym (leb-suc-suc (how_many ms) n)

abbrev is_none : List Key → Bool
is_none [] = true
is_none (k ∷ ks) = false

all_taken : (n : ℕ) (ks : List Key) → is_none (drop n ks) ≡ leb (length ks) n
all_taken n ks = ⊎_elim
    (λ left. some (drop n ks) (omega (arith, left, length-drop n ks)) ∙ sym (lt-leb (length ks) n left))
    (λ all. ap is_none (drop_all n ks all) ∙ sym (le-leb (length ks) n all))
    (cases_lt n (length ks))
  where
    some : (ls : List Key) → 0 < length ls → is_none ls ≡ false
    some [] h = absurd (omega (arith, h))
    some (k ∷ ls) h = refl

nothing_left : (n : ℕ) → letters_from n Nothing ≡ Nothing
nothing_left zero = refl
nothing_left (suc n) = refl

-- Whether nothing is left to do at a place at which no part runs.

module _ (me : Role) (done : List Process) where
  abbrev pub is_over_by : KeptMark → Op → Bool
  is_over_by k o = is_over me (marked (meant me (op_process done o) k) Finished Finished) (op_process done o)

  none_told : (t : Bool) (n : ℕ) (S : Process) → is_over me (marked (told t (letters_from n Nothing)) Finished Finished) S ≡ leb 0 n
  none_told t n S = ap (λ ms. is_over me (marked (told t ms) Finished Finished) S) (nothing_left n) ∙ sym (le-leb 0 n (omega arith))

  pub telling_over : (t : Bool) (n : ℕ) (o : Op) → is_over_by (kept.Telling t n) o ≡ leb (how_many (first_letters me (op_process done o) t)) n
  telling_over t n (op.IfLead i g others p q) = led _ ∙ all_told n _
    where
      led : (ms : Letters) → is_over me (marked (told t ms) Finished Finished) (op_process done (op.IfLead i g others p q)) ≡ is_nothing ms
      led Nothing = refl
      led (More k l ms) = refl
  telling_over t n (op.WhileLead i g others p) = led _ ∙ all_told n _
    where
      led : (ms : Letters) → is_over me (marked (told t ms) Finished Finished) (op_process done (op.WhileLead i g others p)) ≡ is_nothing ms
      led Nothing = refl
      led (More k l ms) = refl
  telling_over t n (op.ScopeLead head others p) = led _ ∙ all_told n _
    where
      led : (ms : Letters) → is_over me (marked (told t ms) Finished Finished) (op_process done (op.ScopeLead head others p)) ≡ is_nothing ms
      led Nothing = refl
      led (More k l ms) = refl
  telling_over t n o = none_told t n (op_process done o)

  none_gathered : (n : ℕ) (S : Process) → is_over me (marked (gathered (drop n [])) Finished Finished) S ≡ leb 0 n
  none_gathered n S = ap (λ ks. is_over me (marked (gathered ks) Finished Finished) S) (drop_all n [] (omega arith)) ∙ sym (le-leb 0 n (omega arith))

  pub gathering_over : (n : ℕ) (o : Op) → is_over_by (kept.Gathering n) o ≡ leb (length (end_keys me (op_process done o))) n
  gathering_over n (op.WhileLead i g others p) = led _ ∙ all_taken n _
    where
      led : (ks : List Key) → is_over me (marked (gathered ks) Finished Finished) (op_process done (op.WhileLead i g others p)) ≡ is_none ks
      led [] = refl
      led (k ∷ ks) = refl
  gathering_over n (op.ScopeLead head others p) = led _ ∙ all_taken n _
    where
      led : (ks : List Key) → is_over me (marked (gathered ks) Finished Finished) (op_process done (op.ScopeLead head others p)) ≡ is_none ks
      led [] = refl
      led (k ∷ ks) = refl
  gathering_over n o = none_gathered n (op_process done o)

  none_left : (n : ℕ) (S : Process) → is_over me (marked (left (letters_from n Nothing)) Finished Finished) S ≡ is_nothing (letters_from n Nothing)
  none_left n S = ap (λ ms. is_over me (marked (left ms) Finished Finished) S) (nothing_left n) ∙ sym (ap is_nothing (nothing_left n))

  pub left_over : (n : ℕ) (o : Op) → is_over_by (kept.Left n) o ≡ is_nothing (letters_from n (last_letters me (op_process done o)))
  left_over n (op.WhileLead i g others p) = led _
    where
      led : (ms : Letters) → is_over me (marked (left ms) Finished Finished) (op_process done (op.WhileLead i g others p)) ≡ is_nothing ms
      led Nothing = refl
      led (More k l ms) = refl
  left_over n (op.ScopeLead head others p) = led _
    where
      led : (ms : Letters) → is_over me (marked (left ms) Finished Finished) (op_process done (op.ScopeLead head others p)) ≡ is_nothing ms
      led Nothing = refl
      led (More k l ms) = refl
  left_over n o = none_left n (op_process done o)

  none_awaited : (n : ℕ) (S : Process) → is_over me (marked (awaited (drop n [])) Finished Finished) S ≡ leb 0 n
  none_awaited n S = ap (λ ks. is_over me (marked (awaited ks) Finished Finished) S) (drop_all n [] (omega arith)) ∙ sym (le-leb 0 n (omega arith))

  pub waiting_over : (n : ℕ) (o : Op) → is_over_by (kept.Waiting n) o ≡ leb (length (last_keys me (op_process done o))) n
  waiting_over n (op.ScopeFollow i leader p) = led _ ∙ all_taken n _
    where
      led : (ks : List Key) → is_over me (marked (awaited ks) Finished Finished) (op_process done (op.ScopeFollow i leader p)) ≡ is_none ks
      led [] = refl
      led (k ∷ ks) = refl
  waiting_over n (op.Gather keys) = led _ ∙ all_taken n _
    where
      led : (ks : List Key) → is_over me (marked (awaited ks) Finished Finished) (op_process done (op.Gather keys)) ≡ is_none ks
      led [] = refl
      led (k ∷ ks) = refl
  waiting_over n o = none_awaited n (op_process done o)

  -- with a mark of a part that does not fit the op nothing is left
  pub unfit_over : (k : KeptMark) (o : Op) → running_parts k o ≡ [] → is_other k ≡ true → is_over_by k o ≡ true
  unfit_over kept.Finished o e h = refl
  unfit_over kept.First (op.Seq p q) e h = cc
  unfit_over kept.First o e h = refl
  unfit_over kept.Second (op.Seq p q) e h = cc
  unfit_over kept.Second o e h = refl
  unfit_over (kept.Both l r) (op.Par p q) e h = cc
  unfit_over (kept.Both l r) o e h = refl
  unfit_over (kept.Branch true) (op.IfLead i g others p q) e h = cc
  unfit_over (kept.Branch true) (op.IfFollow i leader p q) e h = cc
  unfit_over (kept.Branch true) o e h = refl
  unfit_over (kept.Branch false) (op.IfLead i g others p q) e h = cc
  unfit_over (kept.Branch false) (op.IfFollow i leader p q) e h = cc
  unfit_over (kept.Branch false) o e h = refl
  unfit_over kept.Body (op.WhileLead i g others p) e h = cc
  unfit_over kept.Body (op.WhileFollow i leader p) e h = cc
  unfit_over kept.Body (op.ScopeLead head others p) e h = cc
  unfit_over kept.Body (op.ScopeFollow i leader p) e h = cc
  unfit_over kept.Body o e h = refl
  unfit_over k o e h = cc

  -- where the place itself acts no part runs
  pub leaf_runs_alone : (k : KeptMark) (o : Op) → is_leaf (meant me (op_process done o) k) (op_process done o) ≡ true → running_parts k o ≡ []
  leaf_runs_alone kept.First o h = cc
  leaf_runs_alone kept.Second o h = cc
  leaf_runs_alone (kept.Both l r) o h = cc
  leaf_runs_alone (kept.Branch b) o h = cc
  leaf_runs_alone kept.Body o h = cc
  leaf_runs_alone k o h = refl

-- The places of a status.

module _ (me : Role) where
  abbrev places : ℕ → Status → Process → List ℕ
  places b x P = map (λ s. s.place) (spots me b x P)

  abbrev alone : ℕ → Mark → Process → List ℕ
  alone b m P = if is_over me (marked m Finished Finished) P then [] else (b + inner P) ∷ []

  map_spot : (t : Bool) (s : Spot) → map (λ s. s.place) (if t then [] else (s ∷ [])) ≡ (if t then [] else (s.place ∷ []))
  map_spot true s = refl
  map_spot false s = refl

  map_if : (t : Bool) (xs ys : List Spot) → map (λ s. s.place) (if t then xs else ys) ≡ (if t then map (λ s. s.place) xs else map (λ s. s.place) ys)
  map_if true xs ys = refl
  map_if false xs ys = refl

  abbrev own_spot : ℕ → Status → Process → Spot
  own_spot b x P = record { place = b + inner P; acts = leaves me x P }

  pub still_is : (b : ℕ) (P : Process) → map (λ s. s.place) (still me b P) ≡ still_places b P
  still_is b (Seq P Q) = map_if (ended P) (still me (b + size P) Q) (still me b P)
      ∙ ap₂ (λ xs ys. if ended P then xs else ys) (still_is (b + size P) Q) (still_is b P)
  still_is b (Par P Q) = map-append (λ s. s.place) (still me b P) (still me (b + size P) Q)
      ∙ ap₂ (λ xs ys. xs ++ ys) (still_is b P) (still_is (b + size P) Q)
  still_is b P = map_spot (ended P) (own_spot b Untouched P)

  lone : (b : ℕ) (x : Status) (S : Process) → spots me b x S ≡ spot_of me b x S → places b x S ≡ (if is_over me x S then [] else ((b + inner S) ∷ []))
  lone b x S e = ap (map (λ s. s.place)) e ∙ map_spot (is_over me x S) (own_spot b x S)

  told_alone : (b : ℕ) (t : Bool) (ms : Letters) (x y : Status) (S : Process) → places b (marked (told t ms) x y) S ≡ alone b (told t ms) S
  told_alone b t Nothing x y S = lone b Finished S refl
  told_alone b t (More k l ms) x y S = lone b (Telling t k l ms) S refl

  gathered_alone : (b : ℕ) (ks : List Key) (x y : Status) (S : Process) → places b (marked (gathered ks) x y) S ≡ alone b (gathered ks) S
  gathered_alone b [] x y S = lone b Finished S refl
  gathered_alone b (k ∷ ks) x y S = lone b (Gathering k ks) S refl

  left_alone : (b : ℕ) (ms : Letters) (x y : Status) (S : Process) → places b (marked (left ms) x y) S ≡ alone b (left ms) S
  left_alone b Nothing x y S = lone b Finished S refl
  left_alone b (More k l ms) x y S = lone b (Left k l ms) S refl

  awaited_alone : (b : ℕ) (ks : List Key) (x y : Status) (S : Process) → places b (marked (awaited ks) x y) S ≡ alone b (awaited ks) S
  awaited_alone b [] x y S = lone b Finished S refl
  awaited_alone b (k ∷ ks) x y S = lone b (Waiting k ks) S refl

  -- no part runs
  alone_shown : (done : List Process) (b : ℕ) (k : KeptMark) (o : Op) (x y : Status) → running_parts k o ≡ [] → is_new k ≡ false
      → places b (marked (meant me (op_process done o) k) x y) (op_process done o) ≡ alone b (meant me (op_process done o) k) (op_process done o)
  alone_shown done b kept.Untouched o x y e h = cc
  alone_shown done b kept.Finished o x y e h = lone b Finished (op_process done o) refl
  alone_shown done b kept.First (op.Seq p q) x y e h = cc
  alone_shown done b kept.First o x y e h = refl
  alone_shown done b kept.Second (op.Seq p q) x y e h = cc
  alone_shown done b kept.Second o x y e h = refl
  alone_shown done b (kept.Both l r) (op.Par p q) x y e h = cc
  alone_shown done b (kept.Both l r) o x y e h = refl
  alone_shown done b (kept.Branch true) (op.IfLead i g others p q) x y e h = cc
  alone_shown done b (kept.Branch true) (op.IfFollow i leader p q) x y e h = cc
  alone_shown done b (kept.Branch true) o x y e h = refl
  alone_shown done b (kept.Branch false) (op.IfLead i g others p q) x y e h = cc
  alone_shown done b (kept.Branch false) (op.IfFollow i leader p q) x y e h = cc
  alone_shown done b (kept.Branch false) o x y e h = refl
  alone_shown done b kept.Body (op.WhileLead i g others p) x y e h = cc
  alone_shown done b kept.Body (op.WhileFollow i leader p) x y e h = cc
  alone_shown done b kept.Body (op.ScopeLead head others p) x y e h = cc
  alone_shown done b kept.Body (op.ScopeFollow i leader p) x y e h = cc
  alone_shown done b kept.Body o x y e h = refl
  alone_shown done b (kept.Telling t n) o x y e h = told_alone b t (letters_from n (first_letters me (op_process done o) t)) x y (op_process done o)
  alone_shown done b (kept.Gathering n) o x y e h = gathered_alone b (drop n (end_keys me (op_process done o))) x y (op_process done o)
  alone_shown done b kept.Ending o x y e h = lone b Ending (op_process done o) refl
  alone_shown done b (kept.Left n) o x y e h = left_alone b (letters_from n (last_letters me (op_process done o))) x y (op_process done o)
  alone_shown done b (kept.Waiting n) o x y e h = awaited_alone b (drop n (last_keys me (op_process done o))) x y (op_process done o)
  alone_shown done b (kept.Became update) o x y e h = lone b (Became update.value.process) (op_process done o) refl

-- The statuses of the parts.

abbrev first_status : Marks → ℕ → Process → Status
first_status marks b (Seq P Q) = status_of marks b P
first_status marks b (Par P Q) = status_of marks b P
first_status marks b (IfLead i g others P Q) = status_of marks b P
first_status marks b (IfFollow i leader P Q) = status_of marks b P
first_status marks b (WhileLead i g others P) = status_of marks b P
first_status marks b (WhileFollow i leader P) = status_of marks b P
first_status marks b (ScopeLead head others P) = status_of marks b P
first_status marks b (ScopeFollow i leader P) = status_of marks b P
first_status marks b P = Finished

abbrev second_status : Marks → ℕ → Process → Status
second_status marks b (Seq P Q) = status_of marks (b + size P) Q
second_status marks b (Par P Q) = status_of marks (b + size P) Q
second_status marks b (IfLead i g others P Q) = status_of marks (b + size P) Q
second_status marks b (IfFollow i leader P Q) = status_of marks (b + size P) Q
second_status marks b P = Finished

pub own_status : (marks : Marks) (b : ℕ) (P : Process) → status_of marks b P ≡ marked (marks (b + inner P)) (first_status marks b P) (second_status marks b P)
own_status marks b (Seq P Q) = refl
own_status marks b (Par P Q) = refl
own_status marks b (IfLead i g others P Q) = refl
own_status marks b (IfFollow i leader P Q) = refl
own_status marks b (WhileLead i g others P) = refl
own_status marks b (WhileFollow i leader P) = refl
own_status marks b (ScopeLead head others P) = refl
own_status marks b (ScopeFollow i leader P) = refl
own_status marks b P = refl

-- Where the parts of a place of a plan begin.

pub hangs : (plan : Plan) (place : ℕ) → place < plan_len plan → IsLevel plan.levels.items plan.code.ops.items place
hangs plan place inside = places_hang plan.code.ops.items plan.code.start plan.levels.items plan.code.placed plan.code.laid plan.longer plan.says place inside

abbrev LowsAre : Plan → ℕ → List ℕ → Type 0
LowsAre plan b [] = Unit {0}
LowsAre plan b (p ∷ []) = low_at plan p ≡ b
LowsAre plan b (p ∷ q ∷ more) = (low_at plan p ≡ b) × (low_at plan q ≡ b + size (static_at plan p))

lows_from : (plan : Plan) (place : ℕ) (ps : List ℕ) → place < plan_len plan → PartsHang plan.levels.items place ps → LowsAre plan (low_at plan place) ps
lows_from plan place [] inside h = tt
lows_from plan place (p ∷ []) inside h = h.low
lows_from plan place (p ∷ q ∷ more) inside h =
    let first = hangs plan p (omega (arith, inside, h.first_not_last)) in
    (h.first_low, h.second_low ∙ omega (arith, first.low_is, h.first_low))

pub lows_are : (plan : Plan) (place : ℕ) → place < plan_len plan → LowsAre plan (low_at plan place) (part_places (get_or plan.code.ops.items place op.Skip))
lows_are plan place inside = lows_from plan place _ inside (hangs plan place inside).parts

first_is : {x y : ℕ} {xs ys : List ℕ} → x ∷ xs ≡ y ∷ ys → y ≡ x
first_is h = cc

second_is : {x y u v : ℕ} {xs ys : List ℕ} → x ∷ u ∷ xs ≡ y ∷ v ∷ ys → v ≡ u
second_is h = cc

one_not_two : {x y z : ℕ} → x ∷ [] ≡ y ∷ z ∷ [] → ⊥
one_not_two h = cc

two_not_one : {x y z : ℕ} → x ∷ y ∷ [] ≡ z ∷ [] → ⊥
two_not_one h = cc

some_not_none : {x : ℕ} {xs : List ℕ} → x ∷ xs ≡ [] → ⊥
some_not_none h = cc

-- this mark and this op are those at the place
pub record IsHere (plan : Plan) (marks : List KeptMark) (place : ℕ) (k : KeptMark) (o : Op) : Type 0 where
  pub inside : place < plan_len plan
  pub mark : k ≡ get_or marks place kept.Untouched
  pub op : o ≡ get_or plan.code.ops.items place op.Skip
  pub stands : static_at plan place ≡ op_process (processes plan.code.ops.items) o

module _ (me : Role) (plan : Plan) (marks : List KeptMark) where
  abbrev done : List Process
  done = processes plan.code.ops.items

  abbrev all : Marks
  all = plan_marks me plan marks

  -- the places of a process with this mark
  abbrev shown : ℕ → KeptMark → Process → List ℕ
  shown b k S = places me b (marked (meant me S k) (first_status all b S) (second_status all b S)) S

  part_shown : (p b : ℕ) → low_at plan p ≡ b → places me b (status_of all b (static_at plan p)) (static_at plan p) ≡ places_at me plan marks p
  part_shown p b e = ap (λ c. places me c (status_of all c (static_at plan p)) (static_at plan p)) (sym e)

  one_shown : (b : ℕ) (k : KeptMark) (o : Op) (p : ℕ) → p ∷ [] ≡ running_parts k o → LowsAre plan b (part_places o)
      → shown b k (op_process done o) ≡ places_at me plan marks p
  one_shown b kept.First (op.Seq p q) r e lows = part_shown p b lows.0 ∙ ap (places_at me plan marks) (first_is e)
  one_shown b kept.Second (op.Seq p q) r e lows = part_shown q (b + size (at done p)) lows.1 ∙ ap (places_at me plan marks) (first_is e)
  one_shown b (kept.Branch true) (op.IfLead i g others p q) r e lows = part_shown p b lows.0 ∙ ap (places_at me plan marks) (first_is e)
  one_shown b (kept.Branch false) (op.IfLead i g others p q) r e lows = part_shown q (b + size (at done p)) lows.1 ∙ ap (places_at me plan marks) (first_is e)
  one_shown b (kept.Branch true) (op.IfFollow i leader p q) r e lows = part_shown p b lows.0 ∙ ap (places_at me plan marks) (first_is e)
  one_shown b (kept.Branch false) (op.IfFollow i leader p q) r e lows = part_shown q (b + size (at done p)) lows.1 ∙ ap (places_at me plan marks) (first_is e)
  one_shown b kept.Body (op.WhileLead i g others p) r e lows = part_shown p b lows ∙ ap (places_at me plan marks) (first_is e)
  one_shown b kept.Body (op.WhileFollow i leader p) r e lows = part_shown p b lows ∙ ap (places_at me plan marks) (first_is e)
  one_shown b kept.Body (op.ScopeLead head others p) r e lows = part_shown p b lows ∙ ap (places_at me plan marks) (first_is e)
  one_shown b kept.Body (op.ScopeFollow i leader p) r e lows = part_shown p b lows ∙ ap (places_at me plan marks) (first_is e)
  one_shown b (kept.Both l r) (op.Par p q) s e lows = absurd (one_not_two e)
  one_shown b k o r e lows = absurd (some_not_none e)

  two_shown : (b : ℕ) (k : KeptMark) (o : Op) (p q : ℕ) → p ∷ q ∷ [] ≡ running_parts k o → LowsAre plan b (part_places o)
      → shown b k (op_process done o) ≡ places_at me plan marks p ++ places_at me plan marks q
  two_shown b (kept.Both l r) (op.Par p q) s t e lows =
      map-append (λ s. s.place) (spots me b (status_of all b (at done p)) (at done p)) (spots me (b + size (at done p)) (status_of all (b + size (at done p)) (at done q)) (at done q))
      ∙ ap₂ (λ xs ys. xs ++ ys) (part_shown p b lows.0 ∙ ap (places_at me plan marks) (first_is e)) (part_shown q (b + size (at done p)) lows.1 ∙ ap (places_at me plan marks) (second_is e))
  two_shown b kept.First (op.Seq p q) s t e lows = absurd (two_not_one e)
  two_shown b kept.Second (op.Seq p q) s t e lows = absurd (two_not_one e)
  two_shown b (kept.Branch f) (op.IfLead i g others p q) s t e lows = absurd (two_not_one e)
  two_shown b (kept.Branch f) (op.IfFollow i leader p q) s t e lows = absurd (two_not_one e)
  two_shown b kept.Body (op.WhileLead i g others p) s t e lows = absurd (two_not_one e)
  two_shown b kept.Body (op.WhileFollow i leader p) s t e lows = absurd (two_not_one e)
  two_shown b kept.Body (op.ScopeLead head others p) s t e lows = absurd (two_not_one e)
  two_shown b kept.Body (op.ScopeFollow i leader p) s t e lows = absurd (two_not_one e)
  two_shown b k o s t e lows = absurd (some_not_none e)

  module _ (place : ℕ) (k : KeptMark) (o : Op) (h : IsHere plan marks place k o) where
    abbrev low : ℕ
    low = low_at plan place

    abbrev S : Process
    S = static_at plan place

    mark_is : all place ≡ meant me S k
    mark_is = ap (meant me S) (sym h.mark)

    whole_shown : places_at me plan marks place ≡ shown low k S
    whole_shown = ap (λ x. places me low x S) (own_status all low S)
        ∙ ap (λ m. places me low (marked m (first_status all low S) (second_status all low S)) S)
        (ap all (hangs plan place h.inside).low_is ∙ mark_is)

    here_shown : places_at me plan marks place ≡ shown low k (op_process done o)
    here_shown = whole_shown ∙ ap (shown low k) h.stands

    lows_here : LowsAre plan low (part_places o)
    lows_here = subst (λ r. LowsAre plan low (part_places r)) (sym h.op) (lows_are plan place h.inside)

    pub enters_one : (p : ℕ) → p ∷ [] ≡ running_parts k o → places_at me plan marks place ≡ places_at me plan marks p
    enters_one p e = here_shown ∙ one_shown low k o p e lows_here

    pub enters_two : (p q : ℕ) → p ∷ q ∷ [] ≡ running_parts k o → places_at me plan marks place ≡ places_at me plan marks p ++ places_at me plan marks q
    enters_two p q e = here_shown ∙ two_shown low k o p q e lows_here

    pub over_here : is_over me (marked (all place) Finished Finished) S ≡ is_over_by me done k o
    over_here = ap (λ m. is_over me (marked m Finished Finished) S) mark_is
        ∙ ap (λ R. is_over me (marked (meant me R k) Finished Finished) R) h.stands

    pub enters_none : [] ≡ running_parts k o → is_new k ≡ false
        → places_at me plan marks place ≡ (if is_over me (marked (all place) Finished Finished) S then [] else (place ∷ []))
    enters_none e new =
        here_shown ∙ alone_shown me done low k o _ _ (sym e) new
        ∙ ap (λ R. alone me low (meant me R k) R) (sym h.stands)
        ∙ ap (λ m. alone me low m S) (sym mark_is)
        ∙ ap (λ n. if is_over me (marked (all place) Finished Finished) S then [] else (n ∷ [])) (hangs plan place h.inside).low_is

    pub enters_still : k ≡ kept.Untouched → places_at me plan marks place ≡ still_places low S
    enters_still new = whole_shown ∙ ap (λ m. shown low m S) new ∙ still_is me low S

-- A process of which nothing was done.

-- this op is that at the place
pub record IsOpAt (plan : Plan) (place : ℕ) (o : Op) : Type 0 where
  pub inside : place < plan_len plan
  pub op : o ≡ get_or plan.code.ops.items place op.Skip
  pub stands : static_at plan place ≡ op_process (processes plan.code.ops.items) o
  pub earlier : AreBelow place (part_places o)

module _ (plan : Plan) where
  abbrev pub still_at : ℕ → List ℕ
  still_at place = still_places (low_at plan place) (static_at plan place)

  at_lows : (place : ℕ) (o : Op) → IsOpAt plan place o → LowsAre plan (low_at plan place) (part_places o)
  at_lows place o h = subst (λ r. LowsAre plan (low_at plan place) (part_places r)) (sym h.op) (lows_are plan place h.inside)

  part_still : (p b : ℕ) → low_at plan p ≡ b → still_places b (static_at plan p) ≡ still_at p
  part_still p b e = ap (λ c. still_places c (static_at plan p)) (sym e)

  pub still_second : (place p q : ℕ) → IsOpAt plan place (op.Seq p q) → ended (static_at plan p) ≡ true → still_at place ≡ still_at q
  still_second place p q h over = ap (still_places (low_at plan place)) h.stands ∙ cond-true (ended (static_at plan p)) _ _ over
      ∙ part_still q (low_at plan place + size (static_at plan p)) (at_lows place (op.Seq p q) h).1

  pub still_first : (place p q : ℕ) → IsOpAt plan place (op.Seq p q) → ended (static_at plan p) ≡ false → still_at place ≡ still_at p
  still_first place p q h goes = ap (still_places (low_at plan place)) h.stands ∙ cond-false (ended (static_at plan p)) _ _ goes
      ∙ part_still p (low_at plan place) (at_lows place (op.Seq p q) h).0

  pub still_both : (place p q : ℕ) → IsOpAt plan place (op.Par p q) → still_at place ≡ still_at p ++ still_at q
  still_both place p q h = ap (still_places (low_at plan place)) h.stands
      ∙ ap₂ (λ xs ys. xs ++ ys) (part_still p (low_at plan place) (at_lows place (op.Par p q) h).0)
      (part_still q (low_at plan place + size (static_at plan p)) (at_lows place (op.Par p q) h).1)

  pub still_one : (place : ℕ) (o : Op) → IsOpAt plan place o → is_single (op_process (processes plan.code.ops.items) o) ≡ true
      → still_at place ≡ (if ended (static_at plan place) then [] else (place ∷ []))
  still_one place o h one = by_process (low_at plan place) (static_at plan place) (ap is_single h.stands ∙ one)
      ∙ ap (λ n. if ended (static_at plan place) then [] else (n ∷ [])) (hangs plan place h.inside).low_is
    where
      by_process : (b : ℕ) (P : Process) → is_single P ≡ true → still_places b P ≡ (if ended P then [] else ((b + inner P) ∷ []))
      by_process b (Seq P Q) h = cc
      by_process b (Par P Q) h = cc
      by_process b P h = refl

-- Room for two lists, one after the other.

pub room_first : (old xs ys all : List ℕ) (cap : ℕ) → length old + length all ≤ cap → all ≡ xs ++ ys → length old + length xs ≤ cap
room_first old xs ys all cap room e = omega (arith, room, ap length e, length-append xs ys)

pub room_second : (old mid xs ys all : List ℕ) (cap after : ℕ) → length old + length all ≤ cap → all ≡ xs ++ ys → mid ≡ old ++ xs → after ≡ cap
    → length mid + length ys ≤ after
room_second old mid xs ys all cap after room e m same = omega (arith, room, ap length e, ap length m, length-append xs ys, length-append old xs, same)

pub both_added : (old mid new xs ys whole : List ℕ) → whole ≡ xs ++ ys → mid ≡ old ++ xs → new ≡ mid ++ ys → new ≡ old ++ whole
both_added old mid new xs ys whole e m n = n ∙ ap (λ zs. zs ++ ys) m ∙ append_assoc old xs ys ∙ ap (λ zs. old ++ zs) (sym e)

-- What the calls answer.

pub is_here : (plan : Plan) (marks : List KeptMark) (place : ℕ) (k : KeptMark) (o : Op) → place < plan_len plan → length marks ≡ plan_len plan
    → k ≡ get_or marks place k → o ≡ get_or plan.code.ops.items place op.Skip → static_at plan place ≡ op_process (processes plan.code.ops.items) o
    → IsHere plan marks place k o
is_here plan marks place k o inside longer mark is stands = record {
  inside = inside;
  mark = mark ∙ get_or_default marks place k kept.Untouched (omega (arith, inside, longer));
  op = is;
  stands = stands;
}

pub over_as : (me : Role) (plan : Plan) (marks : List KeptMark) (place : ℕ) (k : KeptMark) (o : Op) → IsHere plan marks place k o → (l : KeptMark) → k ≡ l
    → is_over_by me (processes plan.code.ops.items) l o ≡ is_over me (marked (plan_marks me plan marks place) Finished Finished) (static_at plan place)
over_as me plan marks place k o h l e = sym (over_here me plan marks place k o h ∙ ap (λ m. is_over_by me (processes plan.code.ops.items) m o) e)

pub runs_alone : (plan : Plan) (marks : List KeptMark) (place : ℕ) (k : KeptMark) (o : Op) → IsHere plan marks place k o → [] ≡ running_parts k o → RunsAlone plan marks place
runs_alone plan marks place k o h e = sym (e ∙ ap₂ running_parts h.mark h.op)

-- at a place at which no part runs
module _ (me : Role) (plan : Plan) (marks : List KeptMark) (place : ℕ) (k : KeptMark) (o : Op) (h : IsHere plan marks place k o) (run : [] ≡ running_parts k o) (new : is_new k ≡ false) where
  pub enters_itself : (over : Bool) → over ≡ false → over ≡ is_over me (marked (plan_marks me plan marks place) Finished Finished) (static_at plan place)
      → places_at me plan marks place ≡ place ∷ []
  enters_itself over not_over is = enters_none me plan marks place k o h run new ∙ cond-false _ _ _ (sym is ∙ not_over)

  pub enters_nothing : (over : Bool) → over ≡ true → over ≡ is_over me (marked (plan_marks me plan marks place) Finished Finished) (static_at plan place)
      → places_at me plan marks place ≡ []
  enters_nothing over is_over is = enters_none me plan marks place k o h run new ∙ cond-true _ _ _ (sym is ∙ is_over)

pub not_new : (k : KeptMark) → (k ≡ kept.Untouched → ⊥) → is_new k ≡ false
not_new kept.Untouched h = absurd (h refl)
not_new k h = refl

-- by these all messages are told last
pub ruleset telling_rules = (how_many_to, all_told)

-- What a place comes to, by the kind of its mark.
use Rattle.std.proofs.Common.{◌≡◌, ◌+◌, ◌∷◌, [], ℕ, List, Bool, true, false, if◌then◌else◌, nat_lt, drop, length, Some, None, refl, sym, ap, ◌∙◌, subst, add-one}
use Rattle.dioc_terms.specs.declared.names.Role.{Role}
use Rattle.dioc_terms.specs.declared.processes.Key.{Key}
use Rattle.dioc_terms.specs.declared.entries.Act.{Act}
use Rattle.dioc_terms.specs.declared.entries.Act.TheVariants as act
use Rattle.dioc_terms.specs.Equality.{act_eq}
use Rattle.dioc_terms.specs.Attempts.{Attempt, Stuck, Does, when}
use Rattle.dioc_terms.specs.Processes.{Process, IfLead, WhileLead, WhileFollow, ScopeLead, ScopeFollow, Gather, Letters, Nothing, More, Load}
use Rattle.dioc_terms.specs.Stores.{Store}
use Rattle.dpoc_process.specs.Handed.{Handed}
use Rattle.flat_role.specs.declared.marks.Mark.{Mark as KeptMark}
use Rattle.flat_role.specs.declared.marks.Mark.TheVariants as kept
use Rattle.flat_role.specs.KeptMarks.{awaited, end_keys, first_letters, gathered, last_keys, last_letters, left, letters_from, meant, told}
use Rattle.flat_role.specs.Leaves.{is_leaf}
use Rattle.flat_role.specs.MovedMarks.{IsMovedTo, IsMoving, Moves, awaited_or, body_or, count_from, gathered_or, left_or, runs_update, told_or}
use Rattle.flat_role.proofs.CountLemmas.{from_none, from_nothing, is_more, is_some_key, letters_len, more_keys, more_letters, next_keys, next_letters}
use Rattle.process_steps.specs.Steps.{Deed, Puts, Given, Got, ended}
use Rattle.role_statuses.specs.Kept.{marked}
use Rattle.role_statuses.specs.Moves.{bodied, gathering_then, leaving, move, put_one, take_one, telling_then, took_any, waiting}
use Rattle.role_statuses.specs.Statuses.{Status, Untouched, Finished, Telling, Body, Gathering, Ending, Left, Waiting, is_over}

pub never : {D A X : Type 0} {d : D} {y : A} → Stuck ≡ Does d y → X
never h = cc

pub same_left : {D A : Type 0} {d e : D} {x y : A} → Does d x ≡ Does e y → x ≡ y
same_left h = cc

pub does_when : {D A : Type 0} (t : Bool) (d : D) (x : A) {e : D} {y : A} → when t (Does d x) ≡ Does e y
    → x ≡ y
does_when true d x h = cc
does_when false d x h = cc

pub under_when : {D A : Type 0} (t : Bool) (m : Attempt D A) {e : D} {y : A} → when t m ≡ Does e y
    → m ≡ Does e y
under_when true m h = h
under_when false m h = cc

pub put : {A : Type 0} (k : Key) (l : Load) (x : A) (a : Act) {e : Deed} {y : A} → put_one k l x a ≡ Does e y
    → x ≡ y
put k l x a h = does_when (act_eq a (act.Put k)) (Puts k l) x h

took : {A : Type 0} (k : Key) (x : A) (given : Given) {e : Deed} {y : A} → took_any k x given ≡ Does e y
    → x ≡ y
took k x (Got l) h = same_left h
took k x given h = never h

pub taken : {A : Type 0} (k : Key) (x : A) (a : Act) (given : Given) {e : Deed} {y : A}
    → take_one k x a given ≡ Does e y → x ≡ y
taken k x a given h = took k x given (under_when (act_eq a (act.Take k)) (took_any k x given) h)

-- another name of the mark, and of what it comes to
pub moves_as : (P : Process) (pick : Bool) (h : Handed) {m n : KeptMark} {r q : KeptMark × Bool} → m ≡ n
    → r ≡ q → Moves P n pick h q → Moves P m pick h r
moves_as P pick h m_is r_is moves = λ me s a given d y moving. subst (IsMovedTo me P y) (sym r_is)
    (moves me s a given d y (subst (λ m. IsMoving me s a given P m pick h d y) m_is moving))

module _ (me : Role) (P : Process) where
  pub finished_is : IsMovedTo me P Finished (kept.Finished, true)
  finished_is = record { mark_is = refl; over_is = refl }

  -- Where so many of what is told or taken are done.

  pub told_is : (b : Bool) (n : ℕ) (next : Status) (r : KeptMark × Bool) (all : ℕ)
      → letters_len (first_letters me P b) ≡ all
      → ((k : Key) (l : Load) (ms : Letters) → is_over me (Telling b k l ms) P ≡ false)
      → IsMovedTo me P next r
      → IsMovedTo me P (telling_then next b (letters_from n (first_letters me P b)))
      (told_or (count_from n all) b r)
  told_is b n next r all len runs h = subst
      (λ t. IsMovedTo me P (telling_then next b (letters_from n (first_letters me P b)))
      (told_or (if t then Some n else None) b r))
      (sym (ap (nat_lt n) (sym len) ∙ more_letters n (first_letters me P b)))
      (rest (letters_from n (first_letters me P b)) refl)
    where
      rest : (ms : Letters) → letters_from n (first_letters me P b) ≡ ms
          → IsMovedTo me P (telling_then next b ms) (told_or (if is_more ms then Some n else None) b r)
      rest Nothing e = h
      rest (More k l ms) e = record { mark_is = sym (ap (told b) e); over_is = runs k l ms }

  pub gathered_is : (n : ℕ) (next : Status) (r : KeptMark × Bool) (all : ℕ)
      → length (end_keys me P) ≡ all
      → ((k : Key) (ks : List Key) → is_over me (Gathering k ks) P ≡ false)
      → IsMovedTo me P next r
      → IsMovedTo me P (gathering_then next (drop n (end_keys me P))) (gathered_or (count_from n all) r)
  gathered_is n next r all len runs h = subst
      (λ t. IsMovedTo me P (gathering_then next (drop n (end_keys me P)))
      (gathered_or (if t then Some n else None) r))
      (sym (ap (nat_lt n) (sym len) ∙ more_keys n (end_keys me P)))
      (rest (drop n (end_keys me P)) refl)
    where
      rest : (ks : List Key) → drop n (end_keys me P) ≡ ks
          → IsMovedTo me P (gathering_then next ks) (gathered_or (if is_some_key ks then Some n else None) r)
      rest [] e = h
      rest (k ∷ ks) e = record { mark_is = sym (ap gathered e); over_is = runs k ks }

  pub left_is : (n all : ℕ) → letters_len (last_letters me P) ≡ all
      → ((k : Key) (l : Load) (ms : Letters) → is_over me (Left k l ms) P ≡ false)
      → IsMovedTo me P (leaving (letters_from n (last_letters me P))) (left_or (count_from n all))
  left_is n all len runs = subst
      (λ t. IsMovedTo me P (leaving (letters_from n (last_letters me P)))
      (left_or (if t then Some n else None)))
      (sym (ap (nat_lt n) (sym len) ∙ more_letters n (last_letters me P)))
      (rest (letters_from n (last_letters me P)) refl)
    where
      rest : (ms : Letters) → letters_from n (last_letters me P) ≡ ms
          → IsMovedTo me P (leaving ms) (left_or (if is_more ms then Some n else None))
      rest Nothing e = finished_is
      rest (More k l ms) e = record { mark_is = sym (ap left e); over_is = runs k l ms }

  pub awaited_is : (n all : ℕ) → length (last_keys me P) ≡ all
      → ((k : Key) (ks : List Key) → is_over me (Waiting k ks) P ≡ false)
      → IsMovedTo me P (waiting (drop n (last_keys me P))) (awaited_or (count_from n all))
  awaited_is n all len runs = subst
      (λ t. IsMovedTo me P (waiting (drop n (last_keys me P)))
      (awaited_or (if t then Some n else None)))
      (sym (ap (nat_lt n) (sym len) ∙ more_keys n (last_keys me P)))
      (rest (drop n (last_keys me P)) refl)
    where
      rest : (ks : List Key) → drop n (last_keys me P) ≡ ks
          → IsMovedTo me P (waiting ks) (awaited_or (if is_some_key ks then Some n else None))
      rest [] e = finished_is
      rest (k ∷ ks) e = record { mark_is = sym (ap awaited e); over_is = runs k ks }

  -- in the body, or what is next where nothing is to be done in it
  pub body_is : (Q : Process) (next : Status) (r : KeptMark × Bool) (over : Bool) → ended Q ≡ over
      → (ended Q ≡ false → is_over me (Body Untouched) P ≡ false) → IsMovedTo me P next r
      → IsMovedTo me P (bodied me next Q Untouched) (body_or over r)
  body_is Q next r over e runs h = goes over e
    where
      goes : (t : Bool) → ended Q ≡ t → IsMovedTo me P (bodied me next Q Untouched) (body_or t r)
      goes true e = subst (λ t. IsMovedTo me P (if t then next else Body Untouched) r) (sym e) h
      goes false e = subst
          (λ t. IsMovedTo me P (if t then next else Body Untouched) (kept.Body, false)) (sym e)
          (record { mark_is = refl; over_is = runs e })

module _ (me : Role) (s : Store) (a : Act) (given : Given) (P : Process) where
  -- One more is done.

  pub told_on : (b c : Bool) (n : ℕ) (next : Status) (r : KeptMark × Bool) (all : ℕ) {d : Deed} {y : Status}
      → first_letters me P b ≡ first_letters me P c
      → letters_len (first_letters me P c) ≡ all
      → ((k : Key) (l : Load) (ms : Letters) → move me s (Telling b k l ms) P a given
      ≡ put_one k l (telling_then next c ms) a)
      → ((k : Key) (l : Load) (ms : Letters) → is_over me (Telling c k l ms) P ≡ false)
      → IsMovedTo me P next r
      → move me s (marked (meant me P (kept.Telling b n)) Finished Finished) P a given ≡ Does d y
      → IsMovedTo me P y (told_or (count_from (n + 1) all) c r)
  told_on b c n next r all {d} {y} same len moves runs h = rest (letters_from n (first_letters me P b)) refl
    where
      rest : (ms : Letters) → letters_from n (first_letters me P b) ≡ ms
          → move me s (marked (told b ms) Finished Finished) P a given ≡ Does d y
          → IsMovedTo me P y (told_or (count_from (n + 1) all) c r)
      rest Nothing e does = never does
      rest (More k l ms) e does =
          let after : letters_from (n + 1) (first_letters me P c) ≡ ms =
          ap (letters_from (n + 1)) (sym same)
          ∙ ap (λ i. letters_from i (first_letters me P b)) (add-one n)
          ∙ next_letters n (first_letters me P b) e in
          subst (λ z. IsMovedTo me P z (told_or (count_from (n + 1) all) c r))
          (ap (telling_then next c) after ∙ put k l (telling_then next c ms) a (sym (moves k l ms) ∙ does))
          (told_is me P c (n + 1) next r all len runs h)

  pub gathered_on : (n : ℕ) (next : Status) (r : KeptMark × Bool) (all : ℕ) {d : Deed} {y : Status}
      → length (end_keys me P) ≡ all
      → ((k : Key) (ks : List Key) → move me s (Gathering k ks) P a given
      ≡ take_one k (gathering_then next ks) a given)
      → ((k : Key) (ks : List Key) → is_over me (Gathering k ks) P ≡ false)
      → IsMovedTo me P next r
      → move me s (marked (meant me P (kept.Gathering n)) Finished Finished) P a given ≡ Does d y
      → IsMovedTo me P y (gathered_or (count_from (n + 1) all) r)
  gathered_on n next r all {d} {y} len moves runs h = rest (drop n (end_keys me P)) refl
    where
      rest : (ks : List Key) → drop n (end_keys me P) ≡ ks
          → move me s (marked (gathered ks) Finished Finished) P a given ≡ Does d y
          → IsMovedTo me P y (gathered_or (count_from (n + 1) all) r)
      rest [] e does = never does
      rest (k ∷ ks) e does =
          let after : drop (n + 1) (end_keys me P) ≡ ks =
          ap (λ i. drop i (end_keys me P)) (add-one n) ∙ next_keys n (end_keys me P) e in
          subst (λ z. IsMovedTo me P z (gathered_or (count_from (n + 1) all) r))
          (ap (gathering_then next) after
          ∙ taken k (gathering_then next ks) a given (sym (moves k ks) ∙ does))
          (gathered_is me P (n + 1) next r all len runs h)

  pub left_on : (n all : ℕ) {d : Deed} {y : Status} → letters_len (last_letters me P) ≡ all
      → ((k : Key) (l : Load) (ms : Letters) → move me s (Left k l ms) P a given
      ≡ put_one k l (leaving ms) a)
      → ((k : Key) (l : Load) (ms : Letters) → is_over me (Left k l ms) P ≡ false)
      → move me s (marked (meant me P (kept.Left n)) Finished Finished) P a given ≡ Does d y
      → IsMovedTo me P y (left_or (count_from (n + 1) all))
  left_on n all {d} {y} len moves runs = rest (letters_from n (last_letters me P)) refl
    where
      rest : (ms : Letters) → letters_from n (last_letters me P) ≡ ms
          → move me s (marked (left ms) Finished Finished) P a given ≡ Does d y
          → IsMovedTo me P y (left_or (count_from (n + 1) all))
      rest Nothing e does = never does
      rest (More k l ms) e does =
          let after : letters_from (n + 1) (last_letters me P) ≡ ms =
          ap (λ i. letters_from i (last_letters me P)) (add-one n) ∙ next_letters n (last_letters me P) e in
          subst (λ z. IsMovedTo me P z (left_or (count_from (n + 1) all)))
          (ap leaving after ∙ put k l (leaving ms) a (sym (moves k l ms) ∙ does))
          (left_is me P (n + 1) all len runs)

  pub awaited_on : (n all : ℕ) {d : Deed} {y : Status} → length (last_keys me P) ≡ all
      → ((k : Key) (ks : List Key) → move me s (Waiting k ks) P a given
      ≡ take_one k (waiting ks) a given)
      → ((k : Key) (ks : List Key) → is_over me (Waiting k ks) P ≡ false)
      → move me s (marked (meant me P (kept.Waiting n)) Finished Finished) P a given ≡ Does d y
      → IsMovedTo me P y (awaited_or (count_from (n + 1) all))
  awaited_on n all {d} {y} len moves runs = rest (drop n (last_keys me P)) refl
    where
      rest : (ks : List Key) → drop n (last_keys me P) ≡ ks
          → move me s (marked (awaited ks) Finished Finished) P a given ≡ Does d y
          → IsMovedTo me P y (awaited_or (count_from (n + 1) all))
      rest [] e does = never does
      rest (k ∷ ks) e does =
          let after : drop (n + 1) (last_keys me P) ≡ ks =
          ap (λ i. drop i (last_keys me P)) (add-one n) ∙ next_keys n (last_keys me P) e in
          subst (λ z. IsMovedTo me P z (awaited_or (count_from (n + 1) all)))
          (ap waiting after ∙ taken k (waiting ks) a given (sym (moves k ks) ∙ does))
          (awaited_is me P (n + 1) all len runs)

-- With other marks nothing acts there.

abbrev pub can_act : Process → KeptMark → Bool
can_act P kept.Untouched = true
can_act (IfLead i g others P Q) (kept.Telling b n) = true
can_act (WhileLead i g others P) (kept.Telling b n) = true
can_act (ScopeLead head others P) (kept.Telling b n) = true
can_act (WhileLead i g others P) (kept.Gathering n) = true
can_act (ScopeLead head others P) (kept.Gathering n) = true
can_act (WhileFollow i leader P) kept.Ending = true
can_act (ScopeFollow i leader P) kept.Ending = true
can_act (WhileLead i g others P) (kept.Left n) = true
can_act (ScopeLead head others P) (kept.Left n) = true
can_act (ScopeFollow i leader P) (kept.Waiting n) = true
can_act (Gather ks) (kept.Waiting n) = true
can_act P m = false

module _ (me : Role) (s : Store) (a : Act) (given : Given) where
  told_stuck : (P : Process) (b : Bool) (n : ℕ) → can_act P (kept.Telling b n) ≡ false
      → move me s (marked (meant me P (kept.Telling b n)) Finished Finished) P a given ≡ Stuck
  told_stuck (IfLead i g others P Q) b n h = cc
  told_stuck (WhileLead i g others P) b n h = cc
  told_stuck (ScopeLead head others P) b n h = cc
  told_stuck P b n h = ap (λ ms. move me s (marked (told b ms) Finished Finished) P a given) (from_nothing n)

  gathered_stuck : (P : Process) (n : ℕ) → can_act P (kept.Gathering n) ≡ false
      → move me s (marked (meant me P (kept.Gathering n)) Finished Finished) P a given ≡ Stuck
  gathered_stuck (WhileLead i g others P) n h = cc
  gathered_stuck (ScopeLead head others P) n h = cc
  gathered_stuck P n h = ap (λ ks. move me s (marked (gathered ks) Finished Finished) P a given) (from_none n [] refl)

  left_stuck : (P : Process) (n : ℕ) → can_act P (kept.Left n) ≡ false
      → move me s (marked (meant me P (kept.Left n)) Finished Finished) P a given ≡ Stuck
  left_stuck (WhileLead i g others P) n h = cc
  left_stuck (ScopeLead head others P) n h = cc
  left_stuck P n h = ap (λ ms. move me s (marked (left ms) Finished Finished) P a given) (from_nothing n)

  awaited_stuck : (P : Process) (n : ℕ) → can_act P (kept.Waiting n) ≡ false
      → move me s (marked (meant me P (kept.Waiting n)) Finished Finished) P a given ≡ Stuck
  awaited_stuck (ScopeFollow i leader P) n h = cc
  awaited_stuck (Gather ks) n h = cc
  awaited_stuck P n h = ap (λ ks. move me s (marked (awaited ks) Finished Finished) P a given) (from_none n [] refl)

  ending_stuck : (P : Process) → can_act P kept.Ending ≡ false → move me s Ending P a given ≡ Stuck
  ending_stuck (WhileFollow i leader P) h = cc
  ending_stuck (ScopeFollow i leader P) h = cc
  ending_stuck P h = refl

  idle_stuck : (P : Process) (m : KeptMark) → is_leaf (meant me P m) P ≡ true → runs_update m ≡ false
      → can_act P m ≡ false → move me s (marked (meant me P m) Finished Finished) P a given ≡ Stuck
  idle_stuck P kept.Untouched leaf stays idle = cc
  idle_stuck P kept.Finished leaf stays idle = refl
  idle_stuck P kept.First leaf stays idle = cc
  idle_stuck P kept.Second leaf stays idle = cc
  idle_stuck P (kept.Both l r) leaf stays idle = cc
  idle_stuck P (kept.Telling b n) leaf stays idle = told_stuck P b n idle
  idle_stuck P (kept.Branch b) leaf stays idle = cc
  idle_stuck P kept.Body leaf stays idle = cc
  idle_stuck P (kept.Gathering n) leaf stays idle = gathered_stuck P n idle
  idle_stuck P kept.Ending leaf stays idle = ending_stuck P idle
  idle_stuck P (kept.Left n) leaf stays idle = left_stuck P n idle
  idle_stuck P (kept.Waiting n) leaf stays idle = awaited_stuck P n idle
  idle_stuck P (kept.Became update) leaf stays idle = cc

pub idle : (P : Process) (m : KeptMark) (pick : Bool) (h : Handed) (r : KeptMark × Bool)
    → can_act P m ≡ false → Moves P m pick h r
idle P m pick h r none = λ me s a given d y moving.
    never (sym (idle_stuck me s a given P m moving.acts moving.stays none) ∙ moving.moves)

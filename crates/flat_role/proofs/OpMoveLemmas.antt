-- What a place comes to, by its op.
use Rattle.std.proofs.Common.{◌≡◌, ◌+◌, ◌∷◌, [], ℕ, List, Bool, true, false, ◌&&◌, if◌then◌else◌, length, refl, sym, ap, ◌∙◌, subst}
use Rattle.dioc_terms.specs.declared.names.Role.{Role}
use Rattle.dioc_terms.specs.declared.names.Index.{Index}
use Rattle.dioc_terms.specs.declared.processes.Key.{Key}
use Rattle.dioc_terms.specs.declared.processes.ScopeHead.{ScopeHead}
use Rattle.dioc_terms.specs.declared.processes.Tag.TheVariants.{Choice, Go, Turn, Begin, End, Out}
use Rattle.dioc_terms.specs.declared.processes.Tag.TheVariants as tag
use Rattle.dioc_terms.specs.declared.entries.Act.TheVariants as act
use Rattle.dioc_terms.specs.Attempts.{Does, under}
use Rattle.dioc_terms.specs.Equality.{act_eq}
use Rattle.dioc_terms.specs.Expressions.{Expression}
use Rattle.dioc_terms.specs.Processes.{Process, Skip, Send, Recv, Assign, Read, Seq, Par, IfLead, IfFollow, WhileLead, WhileFollow, ScopeLead, ScopeFollow, Tell, Gather, Nothing, More, Val, Flag, Keep, Part, Done}
use Rattle.dioc_terms.specs.Stores.{next_input}
use Rattle.dioc_terms.specs.Values.{eval, is_true}
use Rattle.dioc_terms.specs.declared.expressions.Expr.{Expr}
use Rattle.flat_code.specs.declared.ops.Op.{Op}
use Rattle.flat_code.specs.declared.ops.Op.TheVariants as op
use Rattle.flat_code.specs.Places.{op_process}
use Rattle.dpoc_process.specs.Handed.{Handed, Empty, Message, Kept, Parted, given_like}
use Rattle.flat_role.specs.declared.marks.Mark.{Mark as KeptMark}
use Rattle.flat_role.specs.declared.marks.Mark.TheVariants as kept
use Rattle.flat_role.specs.MovedMarks.{IsMovedTo, Moves, awaited_or, body_or, came, count_from, gathered_or, left_or, scope_or, stays_itself, taken_in, told_or, turn_or}
use Rattle.flat_role.proofs.CountLemmas.{len_keys, len_letters}
use Rattle.flat_role.proofs.MovedLemmas.{awaited_is, awaited_on, body_is, does_when, finished_is, gathered_is, gathered_on, idle, left_is, left_on, never, put, same_left, taken, told_is, told_on, under_when}
use Rattle.process_steps.specs.Steps.{Deed, Sets, Inputs, Picks, Given, Got, ended, key, letters_to, take_value}
use Rattle.role_statuses.specs.Moves.{began, bodied, chose, flagged, next_turn, picked_turn, release, scope_begun, scope_end, telling_then, turn, waiting}
use Rattle.role_statuses.specs.Statuses.{Status, Untouched, Finished, Branch, Ending, Waiting, is_alone}

-- What comes.

-- the flag that came
flag_is : (k : Key) (f : Bool → Status) (given : Given) (h : Handed) {d : Deed} {y : Status}
    → given ≡ given_like h → flagged k f given ≡ Does d y → f (came h) ≡ y
flag_is k f given (Message (Flag b)) brings does = same_left (sym (ap (flagged k f) brings) ∙ does)
flag_is k f given (Message l) brings does = never (sym (ap (flagged k f) brings) ∙ does)
flag_is k f given Empty brings does = never (sym (ap (flagged k f) brings) ∙ does)
flag_is k f given Kept brings does = never (sym (ap (flagged k f) brings) ∙ does)
flag_is k f given (Parted own ms) brings does = never (sym (ap (flagged k f) brings) ∙ does)

-- a scope of another role keeps its body
began_is : (leader me : Role) (i : Index) (P : Process) (given : Given) (h : Handed) {d : Deed} {y : Status}
    → given ≡ given_like h → stays_itself kept.Untouched (ScopeFollow i leader P) h ≡ true
    → began leader me i P given ≡ Does d y
    → bodied me Ending P Untouched ≡ y
began_is leader me i P given Empty brings keeps does = never (sym (ap (began leader me i P) brings) ∙ does)
began_is leader me i P given (Message Keep) brings keeps does = same_left (sym (ap (began leader me i P) brings) ∙ does)
began_is leader me i P given (Message (Part n R)) brings keeps does = cc
began_is leader me i P given (Message l) brings keeps does = never (sym (ap (began leader me i P) brings) ∙ does)
began_is leader me i P given Kept brings keeps does = never (sym (ap (began leader me i P) brings) ∙ does)
began_is leader me i P given (Parted own ms) brings keeps does = never (sym (ap (began leader me i P) brings) ∙ does)

-- a scope that the role leads keeps its body
chose_is : (me : Role) (head : ScopeHead) (others : List Role) (P : Process) (given : Given) (h : Handed) {d : Deed} {y : Status}
    → given ≡ given_like h
    → stays_itself kept.Untouched (ScopeLead head others P) h ≡ true
    → chose me head others P given ≡ Does d y
    → scope_begun me others head.index P (letters_to me others head.index Begin (λ q. Keep)) ≡ y
chose_is me head others P given Empty brings keeps does = never (sym (ap (chose me head others P) brings) ∙ does)
chose_is me head others P given (Message l) brings keeps does = never (sym (ap (chose me head others P) brings) ∙ does)
chose_is me head others P given Kept brings keeps does = same_left (sym (ap (chose me head others P) brings) ∙ does)
chose_is me head others P given (Parted own ms) brings keeps does = cc

-- A choice.

module _ (i : Index) (g : Expression) (others : List Role) (P Q : Process) (all : ℕ) (yes no : Bool)
    (len : length others ≡ all) (yes_is : ended P ≡ yes) (no_is : ended Q ≡ no) where
  branch_is : (me : Role) (b : Bool) → IsMovedTo me (IfLead i g others P Q) (Branch b Untouched)
      (kept.Branch b, (if b then yes else no))
  branch_is me true = record { mark_is = refl; over_is = yes_is }
  branch_is me false = record { mark_is = refl; over_is = no_is }

  pub choice_told : (b pick : Bool) (n : ℕ) (h : Handed)
      → Moves (IfLead i g others P Q) (kept.Telling b n) pick h
      (told_or (count_from (n + 1) all) b (kept.Branch b, (if b then yes else no)))
  choice_told b pick n h = λ me s a given d y moving.
      told_on me s a given (IfLead i g others P Q) b b n (Branch b Untouched) (kept.Branch b, (if b then yes else no)) all
      refl (len_letters me others i Choice (λ q. Flag b) ∙ len) (λ k l ms. refl) (λ k l ms. refl) (branch_is me b) moving.moves

  pub choice_else : (m : KeptMark) (pick : Bool) (h : Handed) → ((b : Bool) (n : ℕ) → m ≡ kept.Telling b n → ⊥)
      → Moves (IfLead i g others P Q) m pick h
      (told_or (count_from 0 all) pick (kept.Branch pick, (if pick then yes else no)))
  choice_else kept.Untouched pick h not = λ me s a given d y moving.
      subst (λ z. IsMovedTo me (IfLead i g others P Q) z (told_or (count_from 0 all) pick (kept.Branch pick, (if pick then yes else no))))
      (ap (λ b. telling_then (Branch b Untouched) b (letters_to me others i Choice (λ q. Flag b))) moving.picks
      ∙ does_when (act_eq a (act.Pick i)) (Picks i me (is_true (eval g s)))
      (telling_then (Branch (is_true (eval g s)) Untouched) (is_true (eval g s)) (letters_to me others i Choice (λ q. Flag (is_true (eval g s))))) moving.moves)
      (told_is me (IfLead i g others P Q) pick 0 (Branch pick Untouched) (kept.Branch pick, (if pick then yes else no)) all
      (len_letters me others i Choice (λ q. Flag pick) ∙ len) (λ k l ms. refl) (branch_is me pick))
  choice_else (kept.Telling b n) pick h not = absurd (not b n refl)
  choice_else m pick h not = idle (IfLead i g others P Q) m pick h _ refl

pub choice_followed : (i : Index) (leader : Role) (P Q : Process) (m : KeptMark) (pick : Bool) (h : Handed) (yes_over no_over : Bool)
    → ended P ≡ yes_over → ended Q ≡ no_over
    → Moves (IfFollow i leader P Q) m pick h (kept.Branch (came h), (if came h then yes_over else no_over))
choice_followed i leader P Q kept.Untouched pick h yes_over no_over yes_is no_is = λ me s a given d y moving.
    subst (λ z. IsMovedTo me (IfFollow i leader P Q) z (kept.Branch (came h), (if came h then yes_over else no_over)))
    (flag_is (key leader me i Choice) (λ b. Branch b Untouched) given h moving.brings
    (under_when (act_eq a (act.Take (key leader me i Choice))) (flagged (key leader me i Choice) (λ b. Branch b Untouched) given) moving.moves))
    (branch me (came h))
  where
    branch : (me : Role) (b : Bool) → IsMovedTo me (IfFollow i leader P Q) (Branch b Untouched) (kept.Branch b, (if b then yes_over else no_over))
    branch me true = record { mark_is = refl; over_is = yes_is }
    branch me false = record { mark_is = refl; over_is = no_is }
choice_followed i leader P Q m pick h yes_over no_over yes_is no_is = idle (IfFollow i leader P Q) m pick h _ refl

-- A loop.

module _ (i : Index) (g : Expression) (others : List Role) (P : Process) (all : ℕ) (over : Bool)
    (len : length others ≡ all) (over_is : ended P ≡ over) where
  turn_is : (me : Role) → IsMovedTo me (WhileLead i g others P) (turn me i others P) (turn_or over all)
  turn_is me = body_is me (WhileLead i g others P) P (next_turn me others i) (gathered_or (count_from 0 all) (kept.Untouched, false)) over over_is
      (λ e. refl)
      (gathered_is me (WhileLead i g others P) 0 Untouched (kept.Untouched, false) all (len_keys me others i Turn ∙ len)
      (λ k ks. refl) (record { mark_is = refl; over_is = refl }))

  pub loop_told : (b pick : Bool) (n : ℕ) (h : Handed) → Moves (WhileLead i g others P) (kept.Telling b n) pick h
      (told_or (count_from (n + 1) all) b (turn_or over all))
  loop_told b pick n h = λ me s a given d y moving.
      told_on me s a given (WhileLead i g others P) b b n (turn me i others P) (turn_or over all) all
      refl (len_letters me others i Go (λ q. Flag b) ∙ len) (λ k l ms. refl) (λ k l ms. refl) (turn_is me) moving.moves

  pub loop_gathered : (n : ℕ) (pick : Bool) (h : Handed) → Moves (WhileLead i g others P) (kept.Gathering n) pick h
      (gathered_or (count_from (n + 1) all) (kept.Untouched, false))
  loop_gathered n pick h = λ me s a given d y moving.
      gathered_on me s a given (WhileLead i g others P) n Untouched (kept.Untouched, false) all
      (len_keys me others i Turn ∙ len) (λ k ks. refl) (λ k ks. refl) (record { mark_is = refl; over_is = refl }) moving.moves

  pub loop_left : (n : ℕ) (pick : Bool) (h : Handed) → Moves (WhileLead i g others P) (kept.Left n) pick h
      (left_or (count_from (n + 1) all))
  loop_left n pick h = λ me s a given d y moving.
      left_on me s a given (WhileLead i g others P) n all (len_letters me others i Go (λ q. Flag false) ∙ len)
      (λ k l ms. refl) (λ k l ms. refl) moving.moves

  picked_is : (me : Role) (b : Bool) → IsMovedTo me (WhileLead i g others P) (picked_turn me i others b P)
      (if b then told_or (count_from 0 all) b (turn_or over all) else left_or (count_from 0 all))
  picked_is me true = told_is me (WhileLead i g others P) true 0 (turn me i others P) (turn_or over all) all
      (len_letters me others i Go (λ q. Flag true) ∙ len) (λ k l ms. refl) (turn_is me)
  picked_is me false = left_is me (WhileLead i g others P) 0 all (len_letters me others i Go (λ q. Flag false) ∙ len) (λ k l ms. refl)

  pub loop_else : (m : KeptMark) (pick : Bool) (h : Handed) → ((b : Bool) (n : ℕ) → m ≡ kept.Telling b n → ⊥)
      → ((n : ℕ) → m ≡ kept.Gathering n → ⊥) → ((n : ℕ) → m ≡ kept.Left n → ⊥)
      → Moves (WhileLead i g others P) m pick h
      (if pick then told_or (count_from 0 all) pick (turn_or over all) else left_or (count_from 0 all))
  loop_else kept.Untouched pick h not_told not_gathered not_left = λ me s a given d y moving.
      subst (λ z. IsMovedTo me (WhileLead i g others P) z (if pick then told_or (count_from 0 all) pick (turn_or over all) else left_or (count_from 0 all)))
      (ap (λ b. picked_turn me i others b P) moving.picks
      ∙ does_when (act_eq a (act.Pick i)) (Picks i me (is_true (eval g s))) (picked_turn me i others (is_true (eval g s)) P) moving.moves)
      (picked_is me pick)
  loop_else (kept.Telling b n) pick h not_told not_gathered not_left = absurd (not_told b n refl)
  loop_else (kept.Gathering n) pick h not_told not_gathered not_left = absurd (not_gathered n refl)
  loop_else (kept.Left n) pick h not_told not_gathered not_left = absurd (not_left n refl)
  loop_else m pick h not_told not_gathered not_left = idle (WhileLead i g others P) m pick h _ refl

module _ (i : Index) (leader : Role) (P : Process) (over : Bool) (over_is : ended P ≡ over) where
  pub loop_ended : (pick : Bool) (h : Handed) → Moves (WhileFollow i leader P) kept.Ending pick h (kept.Untouched, false)
  loop_ended pick h = λ me s a given d y moving.
      subst (λ z. IsMovedTo me (WhileFollow i leader P) z (kept.Untouched, false))
      (put (key me leader i Turn) Done Untouched a moving.moves)
      (record { mark_is = refl; over_is = refl })

  pub loop_followed : (m : KeptMark) (pick : Bool) (h : Handed) → (m ≡ kept.Ending → ⊥)
      → Moves (WhileFollow i leader P) m pick h (if came h then body_or over (kept.Ending, false) else (kept.Finished, true))
  loop_followed kept.Untouched pick h not = λ me s a given d y moving.
      subst (λ z. IsMovedTo me (WhileFollow i leader P) z (if came h then body_or over (kept.Ending, false) else (kept.Finished, true)))
      (flag_is (key leader me i Go) (λ b. if b then bodied me Ending P Untouched else Finished) given h moving.brings
      (under_when (act_eq a (act.Take (key leader me i Go))) (flagged (key leader me i Go) (λ b. if b then bodied me Ending P Untouched else Finished) given) moving.moves))
      (flag me (came h))
    where
      flag : (me : Role) (b : Bool) → IsMovedTo me (WhileFollow i leader P) (if b then bodied me Ending P Untouched else Finished)
          (if b then body_or over (kept.Ending, false) else (kept.Finished, true))
      flag me true = body_is me (WhileFollow i leader P) P Ending (kept.Ending, false) over over_is (λ e. refl) (record { mark_is = refl; over_is = refl })
      flag me false = finished_is me (WhileFollow i leader P)
  loop_followed kept.Ending pick h not = absurd (not refl)
  loop_followed m pick h not = idle (WhileFollow i leader P) m pick h _ refl

-- A scope.

module _ (head : ScopeHead) (others : List Role) (P : Process) (all : ℕ) (over : Bool)
    (len : length others ≡ all) (over_is : ended P ≡ over) where
  release_is : (me : Role) → IsMovedTo me (ScopeLead head others P) (release me others head.index) (left_or (count_from 0 all))
  release_is me = left_is me (ScopeLead head others P) 0 all (len_letters me others head.index Out (λ q. Done) ∙ len) (λ k l ms. refl)

  inside_is : (me : Role) → IsMovedTo me (ScopeLead head others P) (bodied me (scope_end me others head.index) P Untouched) (scope_or over all)
  inside_is me = body_is me (ScopeLead head others P) P (scope_end me others head.index) (gathered_or (count_from 0 all) (left_or (count_from 0 all))) over over_is
      (λ e. ap (λ t. t && is_alone others) e)
      (gathered_is me (ScopeLead head others P) 0 (release me others head.index) (left_or (count_from 0 all)) all
      (len_keys me others head.index End ∙ len) (λ k ks. refl) (release_is me))

  pub scope_told : (b pick : Bool) (n : ℕ) (h : Handed) → Moves (ScopeLead head others P) (kept.Telling b n) pick h
      (told_or (count_from (n + 1) all) true (scope_or over all))
  scope_told b pick n h = λ me s a given d y moving.
      told_on me s a given (ScopeLead head others P) b true n (bodied me (scope_end me others head.index) P Untouched) (scope_or over all) all
      refl (len_letters me others head.index Begin (λ q. Keep) ∙ len) (λ k l ms. refl) (λ k l ms. refl) (inside_is me) moving.moves

  pub scope_gathered : (n : ℕ) (pick : Bool) (h : Handed) → Moves (ScopeLead head others P) (kept.Gathering n) pick h
      (gathered_or (count_from (n + 1) all) (left_or (count_from 0 all)))
  scope_gathered n pick h = λ me s a given d y moving.
      gathered_on me s a given (ScopeLead head others P) n (release me others head.index) (left_or (count_from 0 all)) all
      (len_keys me others head.index End ∙ len) (λ k ks. refl) (λ k ks. refl) (release_is me) moving.moves

  pub scope_left : (n : ℕ) (pick : Bool) (h : Handed) → Moves (ScopeLead head others P) (kept.Left n) pick h
      (left_or (count_from (n + 1) all))
  scope_left n pick h = λ me s a given d y moving.
      left_on me s a given (ScopeLead head others P) n all (len_letters me others head.index Out (λ q. Done) ∙ len)
      (λ k l ms. refl) (λ k l ms. refl) moving.moves

  pub scope_else : (m : KeptMark) (pick : Bool) (h : Handed) → ((b : Bool) (n : ℕ) → m ≡ kept.Telling b n → ⊥)
      → ((n : ℕ) → m ≡ kept.Gathering n → ⊥) → ((n : ℕ) → m ≡ kept.Left n → ⊥)
      → Moves (ScopeLead head others P) m pick h (told_or (count_from 0 all) true (scope_or over all))
  scope_else kept.Untouched pick h not_told not_gathered not_left = λ me s a given d y moving.
      subst (λ z. IsMovedTo me (ScopeLead head others P) z (told_or (count_from 0 all) true (scope_or over all)))
      (chose_is me head others P given h moving.brings moving.keeps
      (under_when (act_eq a (act.Scope head.index)) (chose me head others P given) moving.moves))
      (told_is me (ScopeLead head others P) true 0 (bodied me (scope_end me others head.index) P Untouched) (scope_or over all) all
      (len_letters me others head.index Begin (λ q. Keep) ∙ len) (λ k l ms. refl) (inside_is me))
  scope_else (kept.Telling b n) pick h not_told not_gathered not_left = absurd (not_told b n refl)
  scope_else (kept.Gathering n) pick h not_told not_gathered not_left = absurd (not_gathered n refl)
  scope_else (kept.Left n) pick h not_told not_gathered not_left = absurd (not_left n refl)
  scope_else m pick h not_told not_gathered not_left = idle (ScopeLead head others P) m pick h _ refl

module _ (i : Index) (leader : Role) (P : Process) (over : Bool) (over_is : ended P ≡ over) where
  pub part_ended : (pick : Bool) (h : Handed) → Moves (ScopeFollow i leader P) kept.Ending pick h (kept.Waiting 0, false)
  part_ended pick h = λ me s a given d y moving.
      subst (λ z. IsMovedTo me (ScopeFollow i leader P) z (kept.Waiting 0, false))
      (put (key me leader i End) Done (Waiting (key leader me i Out) []) a moving.moves)
      (record { mark_is = refl; over_is = refl })

  pub part_awaited : (n : ℕ) (pick : Bool) (h : Handed) → Moves (ScopeFollow i leader P) (kept.Waiting n) pick h (awaited_or (count_from (n + 1) 1))
  part_awaited n pick h = λ me s a given d y moving.
      awaited_on me s a given (ScopeFollow i leader P) n 1 refl (λ k ks. refl) (λ k ks. refl) moving.moves

  pub part_followed : (m : KeptMark) (pick : Bool) (h : Handed) → (m ≡ kept.Ending → ⊥) → ((n : ℕ) → m ≡ kept.Waiting n → ⊥)
      → Moves (ScopeFollow i leader P) m pick h (body_or over (kept.Ending, false))
  part_followed kept.Untouched pick h not_ending not_waiting = λ me s a given d y moving.
      subst (λ z. IsMovedTo me (ScopeFollow i leader P) z (body_or over (kept.Ending, false)))
      (began_is leader me i P given h moving.brings moving.keeps
      (under_when (act_eq a (act.Take (key leader me i Begin))) (began leader me i P given) moving.moves))
      (body_is me (ScopeFollow i leader P) P Ending (kept.Ending, false) over over_is (λ e. refl) (record { mark_is = refl; over_is = refl }))
  part_followed kept.Ending pick h not_ending not_waiting = absurd (not_ending refl)
  part_followed (kept.Waiting n) pick h not_ending not_waiting = absurd (not_waiting n refl)
  part_followed m pick h not_ending not_waiting = idle (ScopeFollow i leader P) m pick h _ refl

-- Ends one by one.

pub gather_moves : (ks : List Key) (m : KeptMark) (pick : Bool) (h : Handed)
    → Moves (Gather ks) m pick h (awaited_or (count_from (taken_in m + 1) (length ks)))
gather_moves [] kept.Untouched pick h = λ me s a given d y moving. never moving.moves
gather_moves (k ∷ ks) kept.Untouched pick h = λ me s a given d y moving.
    subst (λ z. IsMovedTo me (Gather (k ∷ ks)) z (awaited_or (count_from 1 (length (k ∷ ks)))))
    (taken k (waiting ks) a given moving.moves)
    (awaited_is me (Gather (k ∷ ks)) 1 (length (k ∷ ks)) refl (λ k ks. refl))
gather_moves ks (kept.Waiting n) pick h = λ me s a given d y moving.
    awaited_on me s a given (Gather ks) n (length ks) refl (λ k ks. refl) (λ k ks. refl) moving.moves
gather_moves ks m pick h = idle (Gather ks) m pick h _ refl

-- The others: nothing is left of them. (A tell of messages is another process then.)

value_is : (k : Key) (x : List ℕ) (given : Given) {d : Deed} {y : Status} → under (λ (R : Process). Finished) (take_value k x given) ≡ Does d y
    → Finished ≡ y
value_is k x (Got (Val v)) h = same_left h
value_is k x given h = never h

abbrev pub is_plain : Process → Bool
is_plain Skip = true
is_plain (Send i o b e) = true
is_plain (Recv i o from x) = true
is_plain (Assign i x e) = true
is_plain (Read i x) = true
is_plain (Seq P Q) = true
is_plain (Par P Q) = true
is_plain (Tell ms) = true
is_plain P = false

plain_starts : (P : Process) (pick : Bool) (h : Handed) → is_plain P ≡ true → Moves P kept.Untouched pick h (kept.Finished, true)
plain_starts Skip pick h plain = λ me s a given d y moving. never moving.moves
plain_starts (Send i o b e) pick h plain = λ me s a given d y moving.
    subst (λ z. IsMovedTo me (Send i o b e) z (kept.Finished, true))
    (put (key me b i (tag.Op o)) (Val (eval e s)) Finished a moving.moves) (finished_is me (Send i o b e))
plain_starts (Recv i o from x) pick h plain = λ me s a given d y moving.
    subst (λ z. IsMovedTo me (Recv i o from x) z (kept.Finished, true))
    (value_is (key from me i (tag.Op o)) x given (under_when (act_eq a (act.Take (key from me i (tag.Op o))))
    (under (λ (R : Process). Finished) (take_value (key from me i (tag.Op o)) x given)) moving.moves)) (finished_is me (Recv i o from x))
plain_starts (Assign i x e) pick h plain = λ me s a given d y moving.
    subst (λ z. IsMovedTo me (Assign i x e) z (kept.Finished, true))
    (does_when (act_eq a (act.Set i)) (Sets i me x (eval e s)) Finished moving.moves) (finished_is me (Assign i x e))
plain_starts (Read i x) pick h plain = λ me s a given d y moving.
    subst (λ z. IsMovedTo me (Read i x) z (kept.Finished, true))
    (does_when (act_eq a (act.Input i)) (Inputs i me x (next_input s)) Finished moving.moves) (finished_is me (Read i x))
plain_starts (Seq P Q) pick h plain = λ me s a given d y moving. let no = moving.acts in cc
plain_starts (Par P Q) pick h plain = λ me s a given d y moving. let no = moving.acts in cc
plain_starts (Tell Nothing) pick h plain = λ me s a given d y moving. never moving.moves
plain_starts (Tell (More k l ms)) pick h plain = λ me s a given d y moving. let no = moving.keeps in cc
plain_starts P pick h plain = cc

pub plain_moves : (P : Process) (m : KeptMark) (pick : Bool) (h : Handed) → is_plain P ≡ true
    → Moves P m pick h (kept.Finished, true)
plain_moves P kept.Untouched pick h plain = plain_starts P pick h plain
plain_moves Skip m pick h plain = idle Skip m pick h _ refl
plain_moves (Send i o b e) m pick h plain = idle (Send i o b e) m pick h _ refl
plain_moves (Recv i o from x) m pick h plain = idle (Recv i o from x) m pick h _ refl
plain_moves (Assign i x e) m pick h plain = idle (Assign i x e) m pick h _ refl
plain_moves (Read i x) m pick h plain = idle (Read i x) m pick h _ refl
plain_moves (Seq P Q) m pick h plain = idle (Seq P Q) m pick h _ refl
plain_moves (Par P Q) m pick h plain = idle (Par P Q) m pick h _ refl
plain_moves (Tell ms) m pick h plain = idle (Tell ms) m pick h _ refl
plain_moves P m pick h plain = cc

-- the ops for which nothing is written otherwise
pub plain_op : (done : List Process) (o : Op)
    → ((i : Index) (g : Expr) (others : List Role) (p q : ℕ) → o ≡ op.IfLead i g others p q → ⊥)
    → ((i : Index) (leader : Role) (p q : ℕ) → o ≡ op.IfFollow i leader p q → ⊥)
    → ((i : Index) (g : Expr) (others : List Role) (p : ℕ) → o ≡ op.WhileLead i g others p → ⊥)
    → ((i : Index) (leader : Role) (p : ℕ) → o ≡ op.WhileFollow i leader p → ⊥)
    → ((head : ScopeHead) (others : List Role) (p : ℕ) → o ≡ op.ScopeLead head others p → ⊥)
    → ((i : Index) (leader : Role) (p : ℕ) → o ≡ op.ScopeFollow i leader p → ⊥)
    → ((ks : List Key) → o ≡ op.Gather ks → ⊥)
    → is_plain (op_process done o) ≡ true
plain_op done (op.IfLead i g others p q) a b c d e f l = absurd (a i g others p q refl)
plain_op done (op.IfFollow i leader p q) a b c d e f l = absurd (b i leader p q refl)
plain_op done (op.WhileLead i g others p) a b c d e f l = absurd (c i g others p refl)
plain_op done (op.WhileFollow i leader p) a b c d e f l = absurd (d i leader p refl)
plain_op done (op.ScopeLead head others p) a b c d e f l = absurd (e head others p refl)
plain_op done (op.ScopeFollow i leader p) a b c d e f l = absurd (f i leader p refl)
plain_op done (op.Gather ks) a b c d e f l = absurd (l ks refl)
plain_op done o a b c d e f l = refl

-- A move of a leaf changes its own mark alone, and that says its new status.
use Rattle.std.proofs.Common.{◌+◌, ℕ, List, [], ◌∷◌, Bool, true, false, if◌then◌else◌, arith}
use Rattle.dioc_terms.specs.declared.names.Role.{Role}
use Rattle.dioc_terms.specs.declared.names.Index.{Index}
use Rattle.dioc_terms.specs.declared.processes.Key.{Key}
use Rattle.dioc_terms.specs.declared.processes.ScopeHead.{ScopeHead}
use Rattle.dioc_terms.specs.declared.processes.Tag.TheVariants.{Op, Choice, Go, Turn, Begin, End, Out}
use Rattle.dioc_terms.specs.declared.entries.Act.{Act}
use Rattle.dioc_terms.specs.Attempts.{Attempt, Stuck, Does, under, when}
use Rattle.dioc_terms.specs.Expressions.{Expression}
use Rattle.dioc_terms.specs.Processes.{Process, Skip, Send, Recv, Assign, Read, Seq, Par, IfLead, IfFollow, WhileLead, WhileFollow, ScopeLead, ScopeFollow, Tell, Gather, Letters, Nothing, More, Load, Val, Flag, Keep, Part, Done}
use Rattle.dioc_terms.specs.Stores.{Store}
use Rattle.dioc_terms.specs.Values.{eval, is_true}
use Rattle.process_steps.specs.Steps.{Deed, Given, Got, FromBook, Decision, Keeps, Replaces, ended, key, letters_to, step, take_value, telling}
use Rattle.role_statuses.specs.Statuses.{Status, Untouched, Finished, First, Second, Both, Telling, Branch, Body, Gathering, Ending, Left, Waiting, Became, keys_of}
use Rattle.role_statuses.specs.Moves.{bodied, telling_then, gathering_then, leaving, waiting, next_turn, release, scope_end, turn, picked_turn, scope_begun, took_any, flagged, began, decided, chose, start, move}
use Rattle.role_statuses.specs.Flat.{inner, size, Marks, IsFresh, PartsStand, Stands, settle}
use Rattle.role_statuses.proofs.SettleLemmas.{put-stands, wipe-stands}

-- a status with none inside, at a construct that acts as a whole
abbrev pub IsLeaf : Status → Process → Type 0
IsLeaf Untouched (Seq P Q) = ⊥
IsLeaf Untouched (Par P Q) = ⊥
IsLeaf (First x) P = ⊥
IsLeaf (Second x) P = ⊥
IsLeaf (Both x y) P = ⊥
IsLeaf (Branch b x) P = ⊥
IsLeaf (Body x) P = ⊥
IsLeaf x P = Unit {0}

-- the marks, settled, say the status
abbrev pub Settled : Role → Marks → ℕ → Process → Status → Type 0
Settled me marks b P x = Stands me (settle me marks b x P) b x P

abbrev pub AllDone : (Status → Type 0) → Attempt Deed Status → Type 0
AllDone Q Stuck = Unit {0}
AllDone Q (Does d x) = Q x

pub record AllSettled (me : Role) (marks : Marks) (b : ℕ) (P : Process) (m : Attempt Deed Status) : Type 0 where
  pub all : AllDone (Settled me marks b P) m

module _ (me : Role) (marks : Marks) (b : ℕ) where
  all_when : (S : Process) (t : Bool) (m : Attempt Deed Status) → AllSettled me marks b S m → AllSettled me marks b S (when t m)
  all_when S true m h = h
  all_when S false m h = record { all = tt }

  does_all : (S : Process) (d : Deed) (x : Status) → Settled me marks b S x → AllSettled me marks b S (Does d x)
  does_all S d x h = record { all = h }

  put_all : (S : Process) (t : Bool) (d : Deed) (x : Status) → Settled me marks b S x → AllSettled me marks b S (when t (Does d x))
  put_all S true d x h = record { all = h }
  put_all S false d x h = record { all = tt }

  either_settles : (S : Process) (t : Bool) (x y : Status) → Settled me marks b S x → Settled me marks b S y → Settled me marks b S (if t then x else y)
  either_settles S true x y hx hy = hx
  either_settles S false x y hx hy = hy

  tell_settles : (S : Process) (f : Bool) (next : Status) (ms : Letters) → ((k : Key) (l : Load) (ns : Letters) → PartsStand me marks b (Telling f k l ns) S)
      → Settled me marks b S next → Settled me marks b S (telling_then next f ms)
  tell_settles S f next Nothing parts h = h
  tell_settles S f next (More k l ms) parts h = put-stands me marks b (Telling f k l ms) S (parts k l ms)

  fresh_part : (P : Process) → IsFresh marks b (size P) → Stands me marks b Untouched P
  fresh_part P f = (f.fresh (b + inner P) (omega arith) (omega arith), record { fresh = λ k l u. f.fresh k l (omega arith) })

  fresh_right : (P Q : Process) → IsFresh marks b (size P + size Q) → Stands me marks (b + size P) Untouched Q
  fresh_right P Q f = (f.fresh (b + size P + inner Q) (omega arith) (omega arith), record { fresh = λ k l u. f.fresh k (omega arith) (omega arith) })

  fresh_left : (P Q : Process) → IsFresh marks b (size P + size Q) → Stands me marks b Untouched P
  fresh_left P Q f = (f.fresh (b + inner P) (omega arith) (omega arith), record { fresh = λ k l u. f.fresh k l (omega arith) })

  branch_settles : (i : Index) (g : Expression) (others : List Role) (P Q : Process) (f : Bool) → IsFresh marks b (size P + size Q)
      → Settled me marks b (IfLead i g others P Q) (Branch f Untouched)
  branch_settles i g others P Q true h = put-stands me marks b (Branch true Untouched) (IfLead i g others P Q) (fresh_left P Q h)
  branch_settles i g others P Q false h = put-stands me marks b (Branch false Untouched) (IfLead i g others P Q) (fresh_right P Q h)

  follow_settles : (i : Index) (leader : Role) (P Q : Process) (f : Bool) → IsFresh marks b (size P + size Q)
      → Settled me marks b (IfFollow i leader P Q) (Branch f Untouched)
  follow_settles i leader P Q true h = put-stands me marks b (Branch true Untouched) (IfFollow i leader P Q) (fresh_left P Q h)
  follow_settles i leader P Q false h = put-stands me marks b (Branch false Untouched) (IfFollow i leader P Q) (fresh_right P Q h)

  gather_settles : (i : Index) (g : Expression) (others : List Role) (P : Process) (ks : List Key)
      → Settled me marks b (WhileLead i g others P) (gathering_then Untouched ks)
  gather_settles i g others P [] = wipe-stands me marks b (WhileLead i g others P)
  gather_settles i g others P (k ∷ ks) = put-stands me marks b (Gathering k ks) (WhileLead i g others P) tt

  end_settles : (head : ScopeHead) (others : List Role) (P : Process) (ks : List Key) (ms : Letters)
      → Settled me marks b (ScopeLead head others P) (gathering_then (leaving ms) ks)
  end_settles head others P [] Nothing = put-stands me marks b Finished (ScopeLead head others P) tt
  end_settles head others P [] (More k l ms) = put-stands me marks b (Left k l ms) (ScopeLead head others P) tt
  end_settles head others P (k ∷ ks) ms = put-stands me marks b (Gathering k ks) (ScopeLead head others P) tt

  turn_settles : (i : Index) (g : Expression) (others : List Role) (P : Process) → IsFresh marks b (size P)
      → Settled me marks b (WhileLead i g others P) (turn me i others P)
  turn_settles i g others P h = either_settles (WhileLead i g others P) (ended P) (next_turn me others i) (Body Untouched)
      (gather_settles i g others P (keys_of me others i Turn)) (put-stands me marks b (Body Untouched) (WhileLead i g others P) (fresh_part P h))

  left_settles : (S : Process) (ms : Letters) → PartsStand me marks b Finished S → ((k : Key) (l : Load) (ns : Letters) → PartsStand me marks b (Left k l ns) S)
      → Settled me marks b S (leaving ms)
  left_settles S Nothing h more = put-stands me marks b Finished S h
  left_settles S (More k l ms) h more = put-stands me marks b (Left k l ms) S (more k l ms)

  wait_settles : (S : Process) (ks : List Key) → PartsStand me marks b Finished S → ((k : Key) (js : List Key) → PartsStand me marks b (Waiting k js) S)
      → Settled me marks b S (waiting ks)
  wait_settles S [] h more = put-stands me marks b Finished S h
  wait_settles S (k ∷ ks) h more = put-stands me marks b (Waiting k ks) S (more k ks)

  picked_settles : (i : Index) (g : Expression) (others : List Role) (P : Process) (f : Bool) → IsFresh marks b (size P)
      → Settled me marks b (WhileLead i g others P) (picked_turn me i others f P)
  picked_settles i g others P true h = tell_settles (WhileLead i g others P) true (turn me i others P) (letters_to me others i Go (λ q. Flag true)) (λ k l ns. h) (turn_settles i g others P h)
  picked_settles i g others P false h = left_settles (WhileLead i g others P) (letters_to me others i Go (λ q. Flag false)) tt (λ k l ns. tt)

  scope_settles : (head : ScopeHead) (others : List Role) (P : Process) (ms : Letters) → IsFresh marks b (size P)
      → Settled me marks b (ScopeLead head others P) (scope_begun me others head.index P ms)
  scope_settles head others P ms h = tell_settles (ScopeLead head others P) true (bodied me (scope_end me others head.index) P Untouched) ms (λ k l ns. h)
      (either_settles (ScopeLead head others P) (ended P) (scope_end me others head.index) (Body Untouched)
      (end_settles head others P (keys_of me others head.index End) (letters_to me others head.index Out (λ q. Done)))
      (put-stands me marks b (Body Untouched) (ScopeLead head others P) (fresh_part P h)))

  part_settles : (i : Index) (leader : Role) (P : Process) → IsFresh marks b (size P) → Settled me marks b (ScopeFollow i leader P) (bodied me Ending P Untouched)
  part_settles i leader P h = either_settles (ScopeFollow i leader P) (ended P) Ending (Body Untouched)
      (put-stands me marks b Ending (ScopeFollow i leader P) tt) (put-stands me marks b (Body Untouched) (ScopeFollow i leader P) (fresh_part P h))

  loop_settles : (i : Index) (leader : Role) (P : Process) (f : Bool) → IsFresh marks b (size P)
      → Settled me marks b (WhileFollow i leader P) (if f then bodied me Ending P Untouched else Finished)
  loop_settles i leader P true h = either_settles (WhileFollow i leader P) (ended P) Ending (Body Untouched)
      (put-stands me marks b Ending (WhileFollow i leader P) tt) (put-stands me marks b (Body Untouched) (WhileFollow i leader P) (fresh_part P h))
  loop_settles i leader P false h = put-stands me marks b Finished (WhileFollow i leader P) tt

  became_settles : (S : Process) (m : Attempt Deed Process) → AllSettled me marks b S (under Became m)
  became_settles S Stuck = record { all = tt }
  became_settles S (Does d R) = record { all = put-stands me marks b (Became R) S tt }

  flagged_settles : (S : Process) (k : Key) (f : Bool → Status) (given : Given) → ((t : Bool) → Settled me marks b S (f t)) → AllSettled me marks b S (flagged k f given)
  flagged_settles S k f (Got (Flag t)) h = record { all = h t }
  flagged_settles S k f given h = record { all = tt }

  taken_settles : (S : Process) (k : Key) (x : Status) (given : Given) → Settled me marks b S x → AllSettled me marks b S (took_any k x given)
  taken_settles S k x (Got l) h = record { all = h }
  taken_settles S k x given h = record { all = tt }

  value_settles : (S : Process) (k : Key) (x : List ℕ) (given : Given) → Settled me marks b S Finished → AllSettled me marks b S (under (λ R. Finished) (take_value k x given))
  value_settles S k x (Got (Val v)) h = record { all = h }
  value_settles S k x given h = record { all = tt }

  decided_settles : (head : ScopeHead) (others : List Role) (P : Process) (d : Decision) → IsFresh marks b (size P)
      → AllSettled me marks b (ScopeLead head others P) (decided me head.index others P d)
  decided_settles head others P Keeps h = record { all = scope_settles head others P (letters_to me others head.index Begin (λ q. Keep)) h }
  decided_settles head others P (Replaces name n part) h = record { all = put-stands me marks b (Became _) (ScopeLead head others P) tt }

  chosen_settles : (head : ScopeHead) (others : List Role) (P : Process) (given : Given) → IsFresh marks b (size P)
      → AllSettled me marks b (ScopeLead head others P) (chose me head others P given)
  chosen_settles head others P (FromBook decide) h = decided_settles head others P (decide head) h
  chosen_settles head others P given h = record { all = tt }

  began_settles : (i : Index) (leader : Role) (P : Process) (given : Given) → IsFresh marks b (size P)
      → AllSettled me marks b (ScopeFollow i leader P) (began leader me i P given)
  began_settles i leader P (Got Keep) h = record { all = part_settles i leader P h }
  began_settles i leader P (Got (Part n R)) h = record { all = put-stands me marks b (Became _) (ScopeFollow i leader P) tt }
  began_settles i leader P given h = record { all = tt }

  module _ (s : Store) (a : Act) (given : Given) where
    start_settles : (P : Process) → IsLeaf Untouched P → IsFresh marks b (inner P) → AllSettled me marks b P (start me s P a given)
    start_settles Skip leaf h = record { all = tt }
    start_settles (Send i o r e) leaf h = put_all (Send i o r e) _ _ Finished (put-stands me marks b Finished (Send i o r e) tt)
    start_settles (Recv i o r x) leaf h = all_when (Recv i o r x) _ _ (value_settles (Recv i o r x) (key r me i (Op o)) x given (put-stands me marks b Finished (Recv i o r x) tt))
    start_settles (Assign i x e) leaf h = put_all (Assign i x e) _ _ Finished (put-stands me marks b Finished (Assign i x e) tt)
    start_settles (Read i x) leaf h = put_all (Read i x) _ _ Finished (put-stands me marks b Finished (Read i x) tt)
    start_settles (Seq P Q) leaf h = absurd leaf
    start_settles (Par P Q) leaf h = absurd leaf
    start_settles (IfLead i g others P Q) leaf h = put_all (IfLead i g others P Q) _ _ _
        (tell_settles (IfLead i g others P Q) (is_true (eval g s)) (Branch (is_true (eval g s)) Untouched) (letters_to me others i Choice (λ q. Flag (is_true (eval g s)))) (λ k l ns. h) (branch_settles i g others P Q (is_true (eval g s)) h))
    start_settles (IfFollow i leader P Q) leaf h = all_when (IfFollow i leader P Q) _ _ (flagged_settles (IfFollow i leader P Q) (key leader me i Choice) (λ t. Branch t Untouched) given (λ t. follow_settles i leader P Q t h))
    start_settles (WhileLead i g others P) leaf h = put_all (WhileLead i g others P) _ _ (picked_turn me i others (is_true (eval g s)) P) (picked_settles i g others P (is_true (eval g s)) h)
    start_settles (WhileFollow i leader P) leaf h = all_when (WhileFollow i leader P) _ _
        (flagged_settles (WhileFollow i leader P) (key leader me i Go) (λ t. if t then bodied me Ending P Untouched else Finished) given (λ t. loop_settles i leader P t h))
    start_settles (ScopeLead head others P) leaf h = all_when (ScopeLead head others P) _ _ (chosen_settles head others P given h)
    start_settles (ScopeFollow i leader P) leaf h = all_when (ScopeFollow i leader P) _ _ (began_settles i leader P given h)
    start_settles (Tell Nothing) leaf h = record { all = tt }
    start_settles (Tell (More k l ms)) leaf h = put_all (Tell (More k l ms)) _ _ (Became (telling ms)) (put-stands me marks b (Became (telling ms)) (Tell (More k l ms)) tt)
    start_settles (Gather []) leaf h = record { all = tt }
    start_settles (Gather (k ∷ ks)) leaf h = all_when (Gather (k ∷ ks)) _ _ (taken_settles (Gather (k ∷ ks)) k (waiting ks) given (wait_settles (Gather (k ∷ ks)) ks tt (λ j js. tt)))

    pub leaf-settles : (x : Status) (P : Process) → IsLeaf x P → PartsStand me marks b x P → AllSettled me marks b P (move me s x P a given)
    leaf-settles Untouched P leaf h = start_settles P leaf h
    leaf-settles (Became R) P leaf h = became_settles P (step me s R a given)
    leaf-settles (First x) P leaf h = absurd leaf
    leaf-settles (Second x) P leaf h = absurd leaf
    leaf-settles (Both x y) P leaf h = absurd leaf
    leaf-settles (Branch t x) P leaf h = absurd leaf
    leaf-settles (Body x) P leaf h = absurd leaf
    leaf-settles (Telling t k l ms) (IfLead i g others P Q) leaf h = put_all (IfLead i g others P Q) _ _ (telling_then (Branch t Untouched) t ms)
        (tell_settles (IfLead i g others P Q) t (Branch t Untouched) ms (λ j m ns. h) (branch_settles i g others P Q t h))
    leaf-settles (Telling t k l ms) (WhileLead i g others P) leaf h = put_all (WhileLead i g others P) _ _ (telling_then (turn me i others P) t ms)
        (tell_settles (WhileLead i g others P) t (turn me i others P) ms (λ j m ns. h) (turn_settles i g others P h))
    leaf-settles (Telling t k l ms) (ScopeLead head others P) leaf h = put_all (ScopeLead head others P) _ _ (scope_begun me others head.index P ms) (scope_settles head others P ms h)
    leaf-settles (Gathering k ks) (WhileLead i g others P) leaf h = all_when (WhileLead i g others P) _ _ (taken_settles (WhileLead i g others P) k (gathering_then Untouched ks) given (gather_settles i g others P ks))
    leaf-settles (Gathering k ks) (ScopeLead head others P) leaf h = all_when (ScopeLead head others P) _ _
        (taken_settles (ScopeLead head others P) k (gathering_then (release me others head.index) ks) given (end_settles head others P ks (letters_to me others head.index Out (λ q. Done))))
    leaf-settles (Left k l ms) (WhileLead i g others P) leaf h = put_all (WhileLead i g others P) _ _ (leaving ms) (left_settles (WhileLead i g others P) ms tt (λ j m ns. tt))
    leaf-settles (Left k l ms) (ScopeLead head others P) leaf h = put_all (ScopeLead head others P) _ _ (leaving ms) (left_settles (ScopeLead head others P) ms tt (λ j m ns. tt))
    leaf-settles Ending (WhileFollow i leader P) leaf h = put_all (WhileFollow i leader P) _ _ Untouched (wipe-stands me marks b (WhileFollow i leader P))
    leaf-settles Ending (ScopeFollow i leader P) leaf h = put_all (ScopeFollow i leader P) _ _ (Waiting (key leader me i Out) []) (put-stands me marks b (Waiting (key leader me i Out) []) (ScopeFollow i leader P) tt)
    leaf-settles (Waiting k ks) (ScopeFollow i leader P) leaf h = all_when (ScopeFollow i leader P) _ _ (taken_settles (ScopeFollow i leader P) k (waiting ks) given (wait_settles (ScopeFollow i leader P) ks tt (λ j js. tt)))
    leaf-settles (Waiting k ks) (Gather ls) leaf h = all_when (Gather ls) _ _ (taken_settles (Gather ls) k (waiting ks) given (wait_settles (Gather ls) ks tt (λ j js. tt)))
    leaf-settles x P leaf h = record { all = tt }

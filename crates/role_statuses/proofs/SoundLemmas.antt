-- A move of a sound status gives a sound one.
use Rattle.std.proofs.Common.{◌≡◌, ℕ, List, [], ◌∷◌, Bool, true, false, not, ◌&&◌, if◌then◌else◌, refl, ap, ap₂, ◌∙◌}
use Rattle.std.proofs.lemmas.Bool.{and_parts}
use Rattle.dioc_terms.specs.declared.names.Role.{Role}
use Rattle.dioc_terms.specs.declared.names.Index.{Index}
use Rattle.dioc_terms.specs.declared.processes.Key.{Key}
use Rattle.dioc_terms.specs.declared.processes.ScopeHead.{ScopeHead}
use Rattle.dioc_terms.specs.declared.processes.Tag.TheVariants.{Op, Choice, Go, Turn, Begin, End, Out}
use Rattle.dioc_terms.specs.declared.entries.Act.{Act}
use Rattle.dioc_terms.specs.Attempts.{Attempt, Stuck, Does, under, when}
use Rattle.dioc_terms.specs.Expressions.{Expression}
use Rattle.dioc_terms.specs.Processes.{Process, Skip, Send, Recv, Assign, Read, Seq, Par, IfLead, IfFollow, WhileLead, WhileFollow, ScopeLead, ScopeFollow, Tell, Gather, Letters, Nothing, More, Val, Flag, Keep, Part, Done}
use Rattle.dioc_terms.specs.Stores.{Store}
use Rattle.dioc_terms.specs.Values.{eval, is_true}
use Rattle.process_steps.specs.Steps.{Deed, Given, Got, FromBook, Decision, Keeps, Replaces, ended, key, letters_to, offers, is_offered, step, take_value, telling}
use Rattle.role_statuses.specs.Statuses.{Status, Untouched, Finished, First, Second, Both, Telling, Branch, Body, Gathering, Ending, Left, Waiting, Became, read, is_over, leaves, keys_of}
use Rattle.role_statuses.specs.Moves.{behind, bodied, telling_then, gathering_then, leaving, waiting, next_turn, release, scope_end, turn, picked_turn, scope_begun, took_any, flagged, began, decided, chose, start, act_behind_turn, act_behind_scope, move}
use Rattle.role_statuses.specs.Sound.{is_sound, SoundAfter}
use Rattle.role_statuses.proofs.ReadLemmas.{over-reads}

pub record IsSoundAfter (me : Role) (P : Process) (m : Attempt Deed Status) : Type 0 where
  pub after : SoundAfter me P m

module _ (me : Role) where
  all_when : (S : Process) (t : Bool) (m : Attempt Deed Status) → IsSoundAfter me S m → IsSoundAfter me S (when t m)
  all_when S true m h = h
  all_when S false m h = record { after = tt }

  all_done : (S : Process) (t : Bool) (d : Deed) (x : Status) → is_sound me x S ≡ true → IsSoundAfter me S (when t (Does d x))
  all_done S true d x h = record { after = h }
  all_done S false d x h = record { after = tt }

  all_under : (S P : Process) (f : Status → Status) (m : Attempt Deed Status) → ((y : Status) → is_sound me y P ≡ true → is_sound me (f y) S ≡ true)
      → IsSoundAfter me P m → IsSoundAfter me S (under f m)
  all_under S P f Stuck keeps h = record { after = tt }
  all_under S P f (Does d y) keeps h = record { after = keeps y h.after }

  all_if : (S : Process) (t : Bool) (m n : Attempt Deed Status) → IsSoundAfter me S m → IsSoundAfter me S n → IsSoundAfter me S (if t then m else n)
  all_if S true m n hm hn = hm
  all_if S false m n hm hn = hn

  sound_if : (S : Process) (t : Bool) (x y : Status) → is_sound me x S ≡ true → (t ≡ false → is_sound me y S ≡ true) → is_sound me (if t then x else y) S ≡ true
  sound_if S true x y hx hy = hx
  sound_if S false x y hx hy = hy refl

  goes_sound : (P : Process) (y : Status) → ended (read me y P) ≡ false → is_sound me y P ≡ true → (not (is_over me y P) && is_sound me y P) ≡ true
  goes_sound P y goes h = ap₂ (λ t u. not t && u) (over-reads me y P ∙ goes) h

  behind_sound : (P Q : Process) (y : Status) → is_sound me y P ≡ true → is_sound me (behind me P y) (Seq P Q) ≡ true
  behind_sound P Q y h = sound_if (Seq P Q) (ended (read me y P)) (Second Untouched) (First y) refl (λ goes. goes_sound P y goes h)

  lead_body : (i : Index) (g : Expression) (others : List Role) (P : Process) (next y : Status) → is_sound me next (WhileLead i g others P) ≡ true → is_sound me y P ≡ true
      → is_sound me (bodied me next P y) (WhileLead i g others P) ≡ true
  lead_body i g others P next y hn h = sound_if (WhileLead i g others P) (ended (read me y P)) next (Body y) hn (λ goes. goes_sound P y goes h)

  follow_body : (i : Index) (leader : Role) (P : Process) (y : Status) → is_sound me y P ≡ true → is_sound me (bodied me Ending P y) (WhileFollow i leader P) ≡ true
  follow_body i leader P y h = sound_if (WhileFollow i leader P) (ended (read me y P)) Ending (Body y) refl (λ goes. goes_sound P y goes h)

  scope_body : (head : ScopeHead) (others : List Role) (P : Process) (next y : Status) → is_sound me next (ScopeLead head others P) ≡ true → is_sound me y P ≡ true
      → is_sound me (bodied me next P y) (ScopeLead head others P) ≡ true
  scope_body head others P next y hn h = sound_if (ScopeLead head others P) (ended (read me y P)) next (Body y) hn (λ goes. goes_sound P y goes h)

  part_body : (i : Index) (leader : Role) (P : Process) (y : Status) → is_sound me y P ≡ true → is_sound me (bodied me Ending P y) (ScopeFollow i leader P) ≡ true
  part_body i leader P y h = sound_if (ScopeFollow i leader P) (ended (read me y P)) Ending (Body y) refl (λ goes. goes_sound P y goes h)

  tell_sound : (S : Process) (next : Status) (f : Bool) (ms : Letters) → is_sound me next S ≡ true → is_sound me (telling_then next f ms) S ≡ true
  tell_sound S next f Nothing h = h
  tell_sound S next f (More k l ms) h = refl

  pub gather_sound : (S : Process) (next : Status) (ks : List Key) → is_sound me next S ≡ true → is_sound me (gathering_then next ks) S ≡ true
  gather_sound S next [] h = h
  gather_sound S next (k ∷ ks) h = refl

  leave_sound : (S : Process) (ms : Letters) → is_sound me (leaving ms) S ≡ true
  leave_sound S Nothing = refl
  leave_sound S (More k l ms) = refl

  wait_sound : (S : Process) (ks : List Key) → is_sound me (waiting ks) S ≡ true
  wait_sound S [] = refl
  wait_sound S (k ∷ ks) = refl

  turn_sound : (i : Index) (g : Expression) (others : List Role) (P : Process) → is_sound me (turn me i others P) (WhileLead i g others P) ≡ true
  turn_sound i g others P = lead_body i g others P (next_turn me others i) Untouched (gather_sound (WhileLead i g others P) Untouched (keys_of me others i Turn) refl) refl

  picked_sound : (i : Index) (g : Expression) (others : List Role) (P : Process) (f : Bool) → is_sound me (picked_turn me i others f P) (WhileLead i g others P) ≡ true
  picked_sound i g others P true = tell_sound (WhileLead i g others P) (turn me i others P) true (letters_to me others i Go (λ q. Flag true)) (turn_sound i g others P)
  picked_sound i g others P false = leave_sound (WhileLead i g others P) (letters_to me others i Go (λ q. Flag false))

  pub end_sound : (S : Process) (others : List Role) (i : Index) → is_sound me (scope_end me others i) S ≡ true
  end_sound S others i = gather_sound S (release me others i) (keys_of me others i End) (leave_sound S (letters_to me others i Out (λ q. Done)))

  begun_sound : (head : ScopeHead) (others : List Role) (P : Process) (ms : Letters) → is_sound me (scope_begun me others head.index P ms) (ScopeLead head others P) ≡ true
  begun_sound head others P ms = tell_sound (ScopeLead head others P) (bodied me (scope_end me others head.index) P Untouched) true ms
      (scope_body head others P (scope_end me others head.index) Untouched (end_sound (ScopeLead head others P) others head.index) refl)

  decided_sound : (head : ScopeHead) (others : List Role) (P : Process) (d : Decision) → IsSoundAfter me (ScopeLead head others P) (decided me head.index others P d)
  decided_sound head others P Keeps = record { after = begun_sound head others P (letters_to me others head.index Begin (λ q. Keep)) }
  decided_sound head others P (Replaces name n part) = record { after = refl }

  chose_sound : (head : ScopeHead) (others : List Role) (P : Process) (given : Given) → IsSoundAfter me (ScopeLead head others P) (chose me head others P given)
  chose_sound head others P (FromBook decide) = decided_sound head others P (decide head)
  chose_sound head others P given = record { after = tt }

  began_sound : (i : Index) (leader : Role) (P : Process) (given : Given) → IsSoundAfter me (ScopeFollow i leader P) (began leader me i P given)
  began_sound i leader P (Got Keep) = record { after = part_body i leader P Untouched refl }
  began_sound i leader P (Got (Part n R)) = record { after = refl }
  began_sound i leader P given = record { after = tt }

  became_sound : (S : Process) (m : Attempt Deed Process) → IsSoundAfter me S (under Became m)
  became_sound S Stuck = record { after = tt }
  became_sound S (Does d R) = record { after = refl }

  flag_sound : (S : Process) (k : Key) (f : Bool → Status) (given : Given) → ((t : Bool) → is_sound me (f t) S ≡ true) → IsSoundAfter me S (flagged k f given)
  flag_sound S k f (Got (Flag t)) h = record { after = h t }
  flag_sound S k f given h = record { after = tt }

  took_sound : (S : Process) (k : Key) (x : Status) (given : Given) → is_sound me x S ≡ true → IsSoundAfter me S (took_any k x given)
  took_sound S k x (Got l) h = record { after = h }
  took_sound S k x given h = record { after = tt }

  value_sound : (S : Process) (k : Key) (x : List ℕ) (given : Given) → IsSoundAfter me S (under (λ R. Finished) (take_value k x given))
  value_sound S k x (Got (Val v)) = record { after = refl }
  value_sound S k x given = record { after = tt }

  module _ (s : Store) (a : Act) (given : Given) where
    start-sound : (P : Process) → IsSoundAfter me P (start me s P a given)
    start-sound Skip = record { after = tt }
    start-sound (Send i o r e) = all_done (Send i o r e) _ _ Finished refl
    start-sound (Recv i o r x) = all_when (Recv i o r x) _ _ (value_sound (Recv i o r x) (key r me i (Op o)) x given)
    start-sound (Assign i x e) = all_done (Assign i x e) _ _ Finished refl
    start-sound (Read i x) = all_done (Read i x) _ _ Finished refl
    start-sound (Seq P Q) = all_if (Seq P Q) (ended P) _ _ (all_under (Seq P Q) Q Second _ (λ y h. h) (start-sound Q))
        (all_under (Seq P Q) P (behind me P) _ (behind_sound P Q) (start-sound P))
    start-sound (Par P Q) = all_if (Par P Q) (is_offered a (offers me P)) _ _ (all_under (Par P Q) P (λ y. Both y Untouched) _ (λ y h. ap (λ t. t && true) h) (start-sound P))
        (all_under (Par P Q) Q (Both Untouched) _ (λ y h. h) (start-sound Q))
    start-sound (IfLead i g others P Q) = all_done (IfLead i g others P Q) _ _ _
        (tell_sound (IfLead i g others P Q) (Branch (is_true (eval g s)) Untouched) (is_true (eval g s)) (letters_to me others i Choice (λ q. Flag (is_true (eval g s)))) refl)
    start-sound (IfFollow i leader P Q) = all_when (IfFollow i leader P Q) _ _ (flag_sound (IfFollow i leader P Q) (key leader me i Choice) (λ t. Branch t Untouched) given (λ t. refl))
    start-sound (WhileLead i g others P) = all_done (WhileLead i g others P) _ _ (picked_turn me i others (is_true (eval g s)) P) (picked_sound i g others P (is_true (eval g s)))
    start-sound (WhileFollow i leader P) = all_when (WhileFollow i leader P) _ _
        (flag_sound (WhileFollow i leader P) (key leader me i Go) (λ t. if t then bodied me Ending P Untouched else Finished) given
        (λ t. sound_if (WhileFollow i leader P) t (bodied me Ending P Untouched) Finished (follow_body i leader P Untouched refl) (λ e. refl)))
    start-sound (ScopeLead head others P) = all_when (ScopeLead head others P) _ _ (chose_sound head others P given)
    start-sound (ScopeFollow i leader P) = all_when (ScopeFollow i leader P) _ _ (began_sound i leader P given)
    start-sound (Tell Nothing) = record { after = tt }
    start-sound (Tell (More k l ms)) = all_done (Tell (More k l ms)) _ _ (Became (telling ms)) refl
    start-sound (Gather []) = record { after = tt }
    start-sound (Gather (k ∷ ks)) = all_when (Gather (k ∷ ks)) _ _ (took_sound (Gather (k ∷ ks)) k (waiting ks) given (wait_sound (Gather (k ∷ ks)) ks))

    pub move-sound : (x : Status) (P : Process) → is_sound me x P ≡ true → IsSoundAfter me P (move me s x P a given)
    move-sound Untouched P h = start-sound P
    move-sound (Became R) P h = became_sound P (step me s R a given)
    move-sound (First x) (Seq P Q) h = all_if (Seq P Q) (ended (read me x P)) _ _ (all_under (Seq P Q) Q Second _ (λ y k. k) (start-sound Q))
        (all_under (Seq P Q) P (behind me P) _ (behind_sound P Q) (move-sound x P (and_parts (not (is_over me x P)) (is_sound me x P) h).1))
    move-sound (Second x) (Seq P Q) h = all_under (Seq P Q) Q Second _ (λ y k. k) (move-sound x Q h)
    move-sound (Both x y) (Par P Q) h = let parts = and_parts (is_sound me x P) (is_sound me y Q) h in
        all_if (Par P Q) (is_offered a (leaves me x P)) _ _ (all_under (Par P Q) P (λ z. Both z y) _ (λ z k. ap₂ (λ t u. t && u) k parts.1) (move-sound x P parts.0))
        (all_under (Par P Q) Q (Both x) _ (λ z k. ap₂ (λ t u. t && u) parts.0 k) (move-sound y Q parts.1))
    move-sound (Telling t k l ms) (IfLead i g others P Q) h = all_done (IfLead i g others P Q) _ _ (telling_then (Branch t Untouched) t ms) (tell_sound (IfLead i g others P Q) (Branch t Untouched) t ms refl)
    move-sound (Branch t x) (IfLead i g others P Q) h = all_under (IfLead i g others P Q) (if t then P else Q) (Branch t) _ (λ y k. k) (move-sound x (if t then P else Q) h)
    move-sound (Branch t x) (IfFollow i leader P Q) h = all_under (IfFollow i leader P Q) (if t then P else Q) (Branch t) _ (λ y k. k) (move-sound x (if t then P else Q) h)
    move-sound (Telling t k l ms) (WhileLead i g others P) h = all_done (WhileLead i g others P) _ _ (telling_then (turn me i others P) t ms) (tell_sound (WhileLead i g others P) (turn me i others P) t ms (turn_sound i g others P))
    move-sound (Body x) (WhileLead i g others P) h = all_if (WhileLead i g others P) (ended (read me x P)) _ _ (act_sound (keys_of me others i Turn))
        (all_under (WhileLead i g others P) P (bodied me (next_turn me others i) P) _
        (λ y k. lead_body i g others P (next_turn me others i) y (gather_sound (WhileLead i g others P) Untouched (keys_of me others i Turn) refl) k)
        (move-sound x P (and_parts (not (is_over me x P)) (is_sound me x P) h).1))
      where
        act_sound : (ks : List Key) → IsSoundAfter me (WhileLead i g others P) (act_behind_turn me s i ks (WhileLead i g others P) a given)
        act_sound [] = start-sound (WhileLead i g others P)
        act_sound (k ∷ ks) = all_when (WhileLead i g others P) _ _ (took_sound (WhileLead i g others P) k (gathering_then Untouched ks) given (gather_sound (WhileLead i g others P) Untouched ks refl))
    move-sound (Gathering k ks) (WhileLead i g others P) h = all_when (WhileLead i g others P) _ _ (took_sound (WhileLead i g others P) k (gathering_then Untouched ks) given (gather_sound (WhileLead i g others P) Untouched ks refl))
    move-sound (Left k l ms) (WhileLead i g others P) h = all_done (WhileLead i g others P) _ _ (leaving ms) (leave_sound (WhileLead i g others P) ms)
    move-sound (Body x) (WhileFollow i leader P) h = all_if (WhileFollow i leader P) (ended (read me x P)) _ _ (all_done (WhileFollow i leader P) _ _ Untouched refl)
        (all_under (WhileFollow i leader P) P (bodied me Ending P) _ (λ y k. follow_body i leader P y k) (move-sound x P (and_parts (not (is_over me x P)) (is_sound me x P) h).1))
    move-sound Ending (WhileFollow i leader P) h = all_done (WhileFollow i leader P) _ _ Untouched refl
    move-sound (Telling t k l ms) (ScopeLead head others P) h = all_done (ScopeLead head others P) _ _ (scope_begun me others head.index P ms) (begun_sound head others P ms)
    move-sound (Body x) (ScopeLead head others P) h = all_if (ScopeLead head others P) (ended (read me x P)) _ _ (act_sound (keys_of me others head.index End) (letters_to me others head.index Out (λ q. Done)))
        (all_under (ScopeLead head others P) P (bodied me (scope_end me others head.index) P) _
        (λ y k. scope_body head others P (scope_end me others head.index) y (end_sound (ScopeLead head others P) others head.index) k)
        (move-sound x P (and_parts (not (is_over me x P)) (is_sound me x P) h).1))
      where
        act_sound : (ks : List Key) (ms : Letters) → IsSoundAfter me (ScopeLead head others P) (act_behind_scope ks ms a given)
        act_sound [] Nothing = record { after = tt }
        act_sound [] (More k l ms) = all_done (ScopeLead head others P) _ _ (leaving ms) (leave_sound (ScopeLead head others P) ms)
        act_sound (k ∷ ks) ms = all_when (ScopeLead head others P) _ _ (took_sound (ScopeLead head others P) k (gathering_then (leaving ms) ks) given (gather_sound (ScopeLead head others P) (leaving ms) ks (leave_sound (ScopeLead head others P) ms)))
    move-sound (Gathering k ks) (ScopeLead head others P) h = all_when (ScopeLead head others P) _ _
        (took_sound (ScopeLead head others P) k (gathering_then (release me others head.index) ks) given
        (gather_sound (ScopeLead head others P) (release me others head.index) ks (leave_sound (ScopeLead head others P) (letters_to me others head.index Out (λ q. Done)))))
    move-sound (Left k l ms) (ScopeLead head others P) h = all_done (ScopeLead head others P) _ _ (leaving ms) (leave_sound (ScopeLead head others P) ms)
    move-sound (Body x) (ScopeFollow i leader P) h = all_if (ScopeFollow i leader P) (ended (read me x P)) _ _ (all_done (ScopeFollow i leader P) _ _ (Waiting (key leader me i Out) []) refl)
        (all_under (ScopeFollow i leader P) P (bodied me Ending P) _ (λ y k. part_body i leader P y k) (move-sound x P (and_parts (not (is_over me x P)) (is_sound me x P) h).1))
    move-sound Ending (ScopeFollow i leader P) h = all_done (ScopeFollow i leader P) _ _ (Waiting (key leader me i Out) []) refl
    move-sound (Waiting k ks) (ScopeFollow i leader P) h = all_when (ScopeFollow i leader P) _ _ (took_sound (ScopeFollow i leader P) k (waiting ks) given (wait_sound (ScopeFollow i leader P) ks))
    move-sound (Waiting k ks) (Gather ls) h = all_when (Gather ls) _ _ (took_sound (Gather ls) k (waiting ks) given (wait_sound (Gather ls) ks))
    move-sound x P h = record { after = tt }

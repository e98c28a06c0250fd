-- A move of a status is the step of the process that it reads as.
use Rattle.std.proofs.Common.{◌≡◌, ℕ, List, [], ◌∷◌, Bool, true, false, if◌then◌else◌, Some, None, refl, ap, ap₂, ◌∙◌, sym}
use Rattle.dioc_terms.specs.declared.names.Role.{Role}
use Rattle.dioc_terms.specs.declared.names.Index.{Index}
use Rattle.dioc_terms.specs.declared.processes.Key.{Key}
use Rattle.dioc_terms.specs.declared.processes.Tag.TheVariants.{Turn, Begin, End, Out}
use Rattle.dioc_terms.specs.declared.processes.ScopeHead.{ScopeHead}
use Rattle.dioc_terms.specs.declared.entries.Act.{Act}
use Rattle.dioc_terms.specs.declared.entries.Act.TheVariants as act
use Rattle.dioc_terms.specs.Expressions.{Expression}
use Rattle.dioc_terms.specs.Equality.{act_eq}
use Rattle.dioc_terms.specs.Attempts.{Attempt, Stuck, Does, under, when}
use Rattle.dioc_terms.specs.Processes.{Process, Skip, Send, Recv, Assign, Read, Seq, Par, IfLead, IfFollow, WhileLead, WhileFollow, ScopeLead, ScopeFollow, Tell, Gather, Letters, Nothing, More, Load, Val, Flag, Keep, Part, Done}
use Rattle.dioc_terms.specs.Stores.{Store}
use Rattle.dioc_terms.specs.Values.{eval, is_true}
use Rattle.process_steps.specs.Steps.{Deed, Puts, Takes, Given, Got, FromBook, Decision, Keeps, Replaces, ended, after, key, telling, gathering, tell, letters_to, is_offered, take_value, take_flag, take_any, take_begin, begin_scope, choose_scope, while_leads, while_follows, step}
use Rattle.role_statuses.specs.Statuses.{Status, Untouched, Finished, First, Second, Both, Telling, Branch, Body, Gathering, Ending, Left, Waiting, Became, keys_of, lead_turn, lead_end, follow_turn, follow_end, read}
use Rattle.role_statuses.specs.Moves.{behind, bodied, telling_then, gathering_then, leaving, waiting, next_turn, release, scope_end, turn, picked_turn, scope_begun, put_one, took_any, take_one, flagged, began, decided, chose, start, act_behind_turn, act_of_release, act_behind_scope, move}
use Rattle.role_statuses.proofs.ReadLemmas.{leaves-reads}

pub under_twice : {D A B C : Type 0} (f : B → C) (g : A → B) (m : Attempt D A) → under f (under g m) ≡ under (λ x. f (g x)) m
under_twice f g Stuck = refl
under_twice f g (Does d x) = refl

under_when : {D A B : Type 0} (f : A → B) (t : Bool) (m : Attempt D A) (n : Attempt D B) → n ≡ under f m → when t n ≡ under f (when t m)
under_when f true m n h = h
under_when f false m n h = refl

-- what is done, with what it leaves
done : {D A B : Type 0} (f : A → B) (t : Bool) (d : D) (x : A) (y : B) → y ≡ f x → when t (Does d y) ≡ under f (when t (Does d x))
done f true d x y h = ap (Does d) h
done f false d x y h = refl

does : {D A B : Type 0} (f : A → B) (d : D) (x : A) (y : B) → y ≡ f x → Does d y ≡ under f (Does d x)
does f d x y h = ap (Does d) h

either : {A B : Type 0} (f : A → B) (t : Bool) (x y : A) → (if t then f x else f y) ≡ f (if t then x else y)
either f true x y = refl
either f false x y = refl

-- THE HEART: a part with more behind it
in_seq : {A : Type 0} (rd : Status → Process) (rx : A → Process) (wrap : A → Status) (Y : Process) (t : Bool)
    (SX SY : Attempt Deed Process) (rest : Attempt Deed Status) (part : Attempt Deed A)
    → SY ≡ under rd rest → SX ≡ under rx part → ((x : A) → after (rx x) Y ≡ rd (wrap x))
    → (if t then SY else under (λ p. after p Y) SX) ≡ under rd (if t then rest else under wrap part)
in_seq rd rx wrap Y true SX SY rest part hy hx wraps = hy
in_seq rd rx wrap Y false SX SY rest part hy hx wraps = ap (under (λ p. after p Y)) hx ∙ fuse part
  where
    fuse : (m : Attempt Deed _) → under (λ p. after p Y) (under rx m) ≡ under rd (under wrap m)
    fuse Stuck = refl
    fuse (Does d x) = ap (Does d) (wraps x)

-- the same of two parts side by side
in_par : (rd rp rq : Status → Process) (left right : Status → Status) (wp wq : Process → Process) (t u : Bool)
    (SP SQ : Attempt Deed Process) (mp mq : Attempt Deed Status) → t ≡ u → SP ≡ under rp mp → SQ ≡ under rq mq
    → ((x : Status) → wp (rp x) ≡ rd (left x)) → ((x : Status) → wq (rq x) ≡ rd (right x))
    → (if t then under wp SP else under wq SQ) ≡ under rd (if u then under left mp else under right mq)
in_par rd rp rq left right wp wq t u SP SQ mp mq same hp hq lefts rights =
    ap (λ v. if v then under wp SP else under wq SQ) same
    ∙ ap₂ (λ v w. if u then v else w) (ap (under wp) hp ∙ fuse wp rp left lefts mp) (ap (under wq) hq ∙ fuse wq rq right rights mq)
    ∙ either (under rd) u (under left mp) (under right mq)
  where
    fuse : (w : Process → Process) (r : Status → Process) (f : Status → Status) → ((x : Status) → w (r x) ≡ rd (f x))
        → (m : Attempt Deed Status) → under w (under r m) ≡ under rd (under f m)
    fuse w r f h Stuck = refl
    fuse w r f h (Does d x) = ap (Does d) (h x)

-- What is next where a part ends.

told : (rd : Status → Process) (next : Status) (b : Bool) (X : Process) → X ≡ rd next
    → ((k : Key) (l : Load) (ms : Letters) → Seq (Tell (More k l ms)) X ≡ rd (Telling b k l ms))
    → (ms : Letters) → after (telling ms) X ≡ rd (telling_then next b ms)
told rd next b X h more Nothing = h
told rd next b X h more (More k l ms) = more k l ms

gathered : (rd : Status → Process) (next : Status) (X : Process) → X ≡ rd next
    → ((k : Key) (ks : List Key) → Seq (Gather (k ∷ ks)) X ≡ rd (Gathering k ks))
    → (ks : List Key) → after (gathering ks) X ≡ rd (gathering_then next ks)
gathered rd next X h more [] = h
gathered rd next X h more (k ∷ ks) = more k ks

left : (rd : Status → Process) → Skip ≡ rd Finished → ((k : Key) (l : Load) (ms : Letters) → Tell (More k l ms) ≡ rd (Left k l ms))
    → (ms : Letters) → telling ms ≡ rd (leaving ms)
left rd h more Nothing = h
left rd h more (More k l ms) = more k l ms

waited : (rd : Status → Process) → Skip ≡ rd Finished → ((k : Key) (ks : List Key) → Gather (k ∷ ks) ≡ rd (Waiting k ks))
    → (ks : List Key) → gathering ks ≡ rd (waiting ks)
waited rd h more [] = h
waited rd h more (k ∷ ks) = more k ks

body_left : (rd : Status → Process) (me : Role) (next : Status) (P X : Process) (x : Status) → X ≡ rd next
    → Seq (read me x P) X ≡ rd (Body x) → after (read me x P) X ≡ rd (bodied me next P x)
body_left rd me next P X x h body =
    ap₂ (λ v w. if ended (read me x P) then v else w) h body ∙ either rd (ended (read me x P)) next (Body x)

-- What comes from outside.

any_reads : {A : Type 0} (rd : A → Process) (k : Key) (P : Process) (x : A) (given : Given) → P ≡ rd x
    → take_any k P given ≡ under rd (took_any k x given)
any_reads rd k P x (Got l) h = ap (Does (Takes k None l)) h
any_reads rd k P x given h = refl

take_reads : {A : Type 0} (rd : A → Process) (k : Key) (P : Process) (x : A) (a : Act) (given : Given) → P ≡ rd x
    → when (act_eq a (act.Take k)) (take_any k P given) ≡ under rd (take_one k x a given)
take_reads rd k P x a given h = under_when rd (act_eq a (act.Take k)) _ _ (any_reads rd k P x given h)

value_reads : (rd : Status → Process) (k : Key) (x : List ℕ) (given : Given) → Skip ≡ rd Finished
    → take_value k x given ≡ under rd (under (λ R. Finished) (take_value k x given))
value_reads rd k x (Got (Val v)) h = ap (Does (Takes k (Some x) (Val v))) h
value_reads rd k x given h = refl

flag_reads : (rd : Status → Process) (k : Key) (P Q : Process) (f : Bool → Status) (given : Given)
    → ((b : Bool) → (if b then P else Q) ≡ rd (f b)) → take_flag k P Q given ≡ under rd (flagged k f given)
flag_reads rd k P Q f (Got (Flag b)) h = ap (Does (Takes k None (Flag b))) (h b)
flag_reads rd k P Q f given h = refl

-- Loops and scopes, as they begin.

module _ (me : Role) (others : List Role) (i : Index) (g : Expression) (P : Process) where
  turn_reads : lead_turn me others i (WhileLead i g others P) ≡ read me (next_turn me others i) (WhileLead i g others P)
  turn_reads = gathered (λ x. read me x (WhileLead i g others P)) Untouched _ refl (λ k ks. refl) (keys_of me others i Turn)

  lead_reads : (b : Bool) → while_leads me i others b P (WhileLead i g others P) ≡ read me (picked_turn me i others b P) (WhileLead i g others P)
  lead_reads true = told (λ x. read me x (WhileLead i g others P)) (turn me i others P) true _
      (body_left (λ x. read me x (WhileLead i g others P)) me _ P _ Untouched turn_reads refl) (λ k l ms. refl) _
  lead_reads false = left (λ x. read me x (WhileLead i g others P)) refl (λ k l ms. refl) _

module _ (me : Role) (others : List Role) (head : ScopeHead) where
  release_reads : (P : Process) → (ms : Letters) → telling ms ≡ read me (leaving ms) (ScopeLead head others P)
  release_reads P = left (λ x. read me x (ScopeLead head others P)) refl (λ k l ms. refl)

  end_reads : (P : Process) → lead_end me others head.index ≡ read me (scope_end me others head.index) (ScopeLead head others P)
  end_reads P = gathered (λ x. read me x (ScopeLead head others P)) (release me others head.index) _
      (release_reads P _) (λ k ks. refl) (keys_of me others head.index End)

  scope_reads : (P : Process) (ms : Letters) → after (telling ms) (after P (lead_end me others head.index))
      ≡ read me (scope_begun me others head.index P ms) (ScopeLead head others P)
  scope_reads P ms = told (λ x. read me x (ScopeLead head others P)) _ true _
      (body_left (λ x. read me x (ScopeLead head others P)) me _ P _ Untouched (end_reads P) refl) (λ k l ns. refl) ms

  decided_reads : (P : Process) (d : Decision) → begin_scope me head.index others P d
      ≡ under (λ x. read me x (ScopeLead head others P)) (decided me head.index others P d)
  decided_reads P Keeps = does (λ x. read me x (ScopeLead head others P)) _
      (scope_begun me others head.index P (letters_to me others head.index Begin (λ q. Keep))) _ (scope_reads P _)
  decided_reads P (Replaces name n part) = refl

  chose_reads : (P : Process) (given : Given) → choose_scope me head others P given
      ≡ under (λ x. read me x (ScopeLead head others P)) (chose me head others P given)
  chose_reads P (FromBook decide) = decided_reads P (decide head)
  chose_reads P given = refl

module _ (me leader : Role) (i : Index) where
  follow_reads : (P : Process) → after P (follow_turn me leader i (WhileFollow i leader P))
      ≡ read me (bodied me Ending P Untouched) (WhileFollow i leader P)
  follow_reads P = body_left (λ x. read me x (WhileFollow i leader P)) me Ending P _ Untouched refl refl

  part_reads : (P : Process) → after P (follow_end me leader i)
      ≡ read me (bodied me Ending P Untouched) (ScopeFollow i leader P)
  part_reads P = body_left (λ x. read me x (ScopeFollow i leader P)) me Ending P _ Untouched refl refl

  began_reads : (P : Process) (given : Given) → take_begin leader me i P given
      ≡ under (λ x. read me x (ScopeFollow i leader P)) (began leader me i P given)
  began_reads P (Got Keep) = does (λ x. read me x (ScopeFollow i leader P)) _ (bodied me Ending P Untouched) _ (part_reads P)
  began_reads P (Got (Part n R)) = refl
  began_reads P given = refl

-- what a construct has become runs on its own
became_reads : (me : Role) (P : Process) (m : Attempt Deed Process) → m ≡ under (λ y. read me y P) (under Became m)
became_reads me P Stuck = refl
became_reads me P (Does d R) = refl

module _ (me : Role) (s : Store) (a : Act) (given : Given) where
  behind_reads : (P Q : Process) (x : Status) → after (read me x P) Q ≡ read me (behind me P x) (Seq P Q)
  behind_reads P Q x = either (λ z. read me z (Seq P Q)) (ended (read me x P)) (Second Untouched) (First x)

  -- the first act of a static process
  pub start-reads : (P : Process) → step me s P a given ≡ under (λ x. read me x P) (start me s P a given)
  start-reads Skip = refl
  start-reads (Send i o b e) = done (λ x. read me x (Send i o b e)) _ _ Finished _ refl
  start-reads (Recv i o from x) = under_when (λ y. read me y (Recv i o from x)) _ _ _ (value_reads (λ y. read me y (Recv i o from x)) _ x given refl)
  start-reads (Assign i x e) = done (λ y. read me y (Assign i x e)) _ _ Finished _ refl
  start-reads (Read i x) = done (λ y. read me y (Read i x)) _ _ Finished _ refl
  start-reads (Seq P Q) = in_seq (λ x. read me x (Seq P Q)) (λ x. read me x P) (behind me P) Q (ended P) _ _ (under Second (start me s Q a given)) _
      (start-reads Q ∙ sym (under_twice (λ x. read me x (Seq P Q)) Second _)) (start-reads P) (behind_reads P Q)
  start-reads (Par P Q) = in_par (λ x. read me x (Par P Q)) (λ x. read me x P) (λ x. read me x Q) (λ x. Both x Untouched) (Both Untouched)
      (λ p. Par p Q) (Par P) _ _ _ _ _ _ refl (start-reads P) (start-reads Q) (λ x. refl) (λ x. refl)
  start-reads (IfLead i g others P Q) = done (λ x. read me x (IfLead i g others P Q)) _ _ _ _
      (told (λ x. read me x (IfLead i g others P Q)) (Branch (is_true (eval g s)) Untouched) (is_true (eval g s)) _ refl (λ k l ms. refl) _)
  start-reads (IfFollow i leader P Q) = under_when (λ x. read me x (IfFollow i leader P Q)) _ _ _
      (flag_reads (λ x. read me x (IfFollow i leader P Q)) _ P Q (λ b. Branch b Untouched) given (λ b. refl))
  start-reads (WhileLead i g others P) = done (λ x. read me x (WhileLead i g others P)) _ _ _ _ (lead_reads me others i g P (is_true (eval g s)))
  start-reads (WhileFollow i leader P) = under_when (λ x. read me x (WhileFollow i leader P)) _ _ _
      (flag_reads (λ x. read me x (WhileFollow i leader P)) _ _ Skip _ given flag)
    where
      flag : (b : Bool) → (if b then while_follows leader me i P (WhileFollow i leader P) else Skip)
          ≡ read me (if b then bodied me Ending P Untouched else Finished) (WhileFollow i leader P)
      flag true = follow_reads me leader i P
      flag false = refl
  start-reads (ScopeLead head others P) = under_when (λ x. read me x (ScopeLead head others P)) _ _ _ (chose_reads me others head P given)
  start-reads (ScopeFollow i leader P) = under_when (λ x. read me x (ScopeFollow i leader P)) _ _ _ (began_reads me leader i P given)
  start-reads (Tell Nothing) = refl
  start-reads (Tell (More k l ms)) = done (λ x. read me x (Tell (More k l ms))) _ _ _ _ refl
  start-reads (Gather []) = refl
  start-reads (Gather (k ∷ ks)) = take_reads (λ x. read me x (Gather (k ∷ ks))) k _ _ a given (waited (λ x. read me x (Gather (k ∷ ks))) refl (λ j js. refl) ks)

  -- one of the messages that stand before X
  in_tell : (S : Process) (k : Key) (l : Load) (ms : Letters) (X : Process) (next : Status) → after (telling ms) X ≡ read me next S
      → step me s (Seq (Tell (More k l ms)) X) a given ≡ under (λ y. read me y S) (put_one k l next a)
  in_tell S k l ms X next h = goes (act_eq a (act.Put k))
    where
      goes : (t : Bool) → under (λ p. after p X) (when t (Does (Puts k l) (telling ms))) ≡ under (λ y. read me y S) (when t (Does (Puts k l) next))
      goes true = ap (Does (Puts k l)) h
      goes false = refl

  -- one of the keys that stand before X
  in_gather : (S : Process) (k : Key) (ks : List Key) (X : Process) (next : Status) → after (gathering ks) X ≡ read me next S
      → step me s (Seq (Gather (k ∷ ks)) X) a given ≡ under (λ y. read me y S) (take_one k next a given)
  in_gather S k ks X next h = goes (act_eq a (act.Take k)) given
    where
      goes : (t : Bool) (given : Given) → under (λ p. after p X) (when t (take_any k (gathering ks) given))
          ≡ under (λ y. read me y S) (when t (took_any k next given))
      goes true (Got l) = ap (Does (Takes k None l)) h
      goes true given = refl
      goes false given = refl

  gathers_on : (i : Index) (g : Expression) (others : List Role) (P : Process) (k : Key) (ks : List Key)
      → step me s (Seq (Gather (k ∷ ks)) (WhileLead i g others P)) a given
      ≡ under (λ y. read me y (WhileLead i g others P)) (take_one k (gathering_then Untouched ks) a given)
  gathers_on i g others P k ks = in_gather (WhileLead i g others P) k ks _ _
      (gathered (λ y. read me y (WhileLead i g others P)) Untouched _ refl (λ j js. refl) ks)

  behind_turn : (i : Index) (g : Expression) (others : List Role) (P : Process) (ks : List Key)
      → step me s (after (gathering ks) (WhileLead i g others P)) a given
      ≡ under (λ y. read me y (WhileLead i g others P)) (act_behind_turn me s i ks (WhileLead i g others P) a given)
  behind_turn i g others P [] = start-reads (WhileLead i g others P)
  behind_turn i g others P (k ∷ ks) = gathers_on i g others P k ks

  tells_last : (rd : Status → Process) → Skip ≡ rd Finished → ((j : Key) (m : Load) (ns : Letters) → Tell (More j m ns) ≡ rd (Left j m ns))
      → (k : Key) (l : Load) (ms : Letters) → step me s (Tell (More k l ms)) a given ≡ under rd (put_one k l (leaving ms) a)
  tells_last rd none more k l ms = done rd _ _ _ _ (left rd none more ms)

  waits_last : (rd : Status → Process) → Skip ≡ rd Finished → ((j : Key) (js : List Key) → Gather (j ∷ js) ≡ rd (Waiting j js))
      → (k : Key) (ks : List Key) → step me s (Gather (k ∷ ks)) a given ≡ under rd (take_one k (waiting ks) a given)
  waits_last rd none more k ks = take_reads rd k _ _ a given (waited rd none more ks)

  gathers_end : (head : ScopeHead) (others : List Role) (P : Process) (k : Key) (ks : List Key)
      → step me s (Seq (Gather (k ∷ ks)) (tell me others head.index Out (λ q. Done))) a given
      ≡ under (λ y. read me y (ScopeLead head others P)) (take_one k (gathering_then (release me others head.index) ks) a given)
  gathers_end head others P k ks = in_gather (ScopeLead head others P) k ks _ _
      (gathered (λ y. read me y (ScopeLead head others P)) (release me others head.index) _ (release_reads me others head P _) (λ j js. refl) ks)

  released : (rd : Status → Process) → Skip ≡ rd Finished → ((j : Key) (m : Load) (ns : Letters) → Tell (More j m ns) ≡ rd (Left j m ns))
      → (ms : Letters) → step me s (telling ms) a given ≡ under rd (act_of_release ms a)
  released rd none more Nothing = refl
  released rd none more (More k l ms) = tells_last rd none more k l ms

  behind_scope : (head : ScopeHead) (others : List Role) (P : Process) (ks : List Key)
      → step me s (after (gathering ks) (tell me others head.index Out (λ q. Done))) a given
      ≡ under (λ y. read me y (ScopeLead head others P)) (act_behind_scope ks (letters_to me others head.index Out (λ q. Done)) a given)
  behind_scope head others P [] = released (λ y. read me y (ScopeLead head others P)) refl (λ j m ns. refl) _
  behind_scope head others P (k ∷ ks) = gathers_end head others P k ks

  -- a move is the step
  pub move-reads : (x : Status) (P : Process) → step me s (read me x P) a given ≡ under (λ y. read me y P) (move me s x P a given)
  move-reads Untouched P = start-reads P
  move-reads (Became R) P = became_reads me P (step me s R a given)
  move-reads (First x) (Seq P Q) = in_seq (λ y. read me y (Seq P Q)) (λ y. read me y P) (behind me P) Q (ended (read me x P)) _ _
      (under Second (start me s Q a given)) _ (start-reads Q ∙ sym (under_twice (λ y. read me y (Seq P Q)) Second _)) (move-reads x P) (behind_reads P Q)
  move-reads (Second x) (Seq P Q) = move-reads x Q ∙ sym (under_twice (λ y. read me y (Seq P Q)) Second _)
  move-reads (Both x y) (Par P Q) = in_par (λ z. read me z (Par P Q)) (λ z. read me z P) (λ z. read me z Q) (λ z. Both z y) (Both x)
      (λ p. Par p (read me y Q)) (Par (read me x P)) _ _ _ _ _ _ (ap (is_offered a) (sym (leaves-reads me x P)))
      (move-reads x P) (move-reads y Q) (λ z. refl) (λ z. refl)
  move-reads (Telling b k l ms) (IfLead i g others P Q) = in_tell (IfLead i g others P Q) k l _ _ _
      (told (λ y. read me y (IfLead i g others P Q)) (Branch b Untouched) b _ refl (λ j m ns. refl) ms)
  move-reads (Branch b x) (IfLead i g others P Q) = move-reads x (if b then P else Q) ∙ sym (under_twice (λ y. read me y (IfLead i g others P Q)) (Branch b) _)
  move-reads (Branch b x) (IfFollow i leader P Q) = move-reads x (if b then P else Q) ∙ sym (under_twice (λ y. read me y (IfFollow i leader P Q)) (Branch b) _)
  move-reads (Telling b k l ms) (WhileLead i g others P) = in_tell (WhileLead i g others P) k l _ _ _
      (told (λ y. read me y (WhileLead i g others P)) (turn me i others P) b _
      (body_left (λ y. read me y (WhileLead i g others P)) me _ P _ Untouched (turn_reads me others i g P) refl) (λ j m ns. refl) ms)
  move-reads (Body x) (WhileLead i g others P) = in_seq (λ y. read me y (WhileLead i g others P)) (λ y. read me y P) (bodied me (next_turn me others i) P) _
      (ended (read me x P)) _ _ _ _ (behind_turn i g others P (keys_of me others i Turn)) (move-reads x P)
      (λ y. body_left (λ y. read me y (WhileLead i g others P)) me _ P _ y (turn_reads me others i g P) refl)
  move-reads (Gathering k ks) (WhileLead i g others P) = gathers_on i g others P k ks
  move-reads (Left k l ms) (WhileLead i g others P) = tells_last (λ y. read me y (WhileLead i g others P)) refl (λ j m ns. refl) k l ms
  move-reads (Body x) (WhileFollow i leader P) = in_seq (λ y. read me y (WhileFollow i leader P)) (λ y. read me y P) (bodied me Ending P) _
      (ended (read me x P)) _ _ _ _ (in_tell (WhileFollow i leader P) (key me leader i Turn) Done Nothing (WhileFollow i leader P) Untouched refl) (move-reads x P)
      (λ y. body_left (λ y. read me y (WhileFollow i leader P)) me _ P _ y refl refl)
  move-reads Ending (WhileFollow i leader P) = in_tell (WhileFollow i leader P) (key me leader i Turn) Done Nothing (WhileFollow i leader P) Untouched refl
  move-reads (Telling b k l ms) (ScopeLead head others P) = in_tell (ScopeLead head others P) k l _ _ _ (scope_reads me others head P ms)
  move-reads (Body x) (ScopeLead head others P) = in_seq (λ y. read me y (ScopeLead head others P)) (λ y. read me y P) (bodied me (scope_end me others head.index) P) _
      (ended (read me x P)) _ _ _ _ (behind_scope head others P (keys_of me others head.index End)) (move-reads x P)
      (λ y. body_left (λ y. read me y (ScopeLead head others P)) me _ P _ y (end_reads me others head P) refl)
  move-reads (Gathering k ks) (ScopeLead head others P) = gathers_end head others P k ks
  move-reads (Left k l ms) (ScopeLead head others P) = tells_last (λ y. read me y (ScopeLead head others P)) refl (λ j m ns. refl) k l ms
  move-reads (Body x) (ScopeFollow i leader P) = in_seq (λ y. read me y (ScopeFollow i leader P)) (λ y. read me y P) (bodied me Ending P) _
      (ended (read me x P)) _ _ _ _ (in_tell (ScopeFollow i leader P) (key me leader i End) Done Nothing (Gather (key leader me i Out ∷ [])) (Waiting (key leader me i Out) []) refl) (move-reads x P)
      (λ y. body_left (λ y. read me y (ScopeFollow i leader P)) me _ P _ y refl refl)
  move-reads Ending (ScopeFollow i leader P) = in_tell (ScopeFollow i leader P) (key me leader i End) Done Nothing (Gather (key leader me i Out ∷ [])) (Waiting (key leader me i Out) []) refl
  move-reads (Waiting k ks) (ScopeFollow i leader P) = waits_last (λ y. read me y (ScopeFollow i leader P)) refl (λ j js. refl) k ks
  move-reads (Waiting k ks) (Gather ls) = waits_last (λ y. read me y (Gather ls)) refl (λ j js. refl) k ks
  move-reads x P = refl

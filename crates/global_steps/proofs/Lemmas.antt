-- Plays, the first entry that strays, and settled traces.
use Rattle.std.proofs.Common.{◌≡◌, ℕ, suc, ◌+◌, List, [], ◌∷◌, ◌++◌, length, Bool, true, false, ◌&&◌, not, if◌then◌else◌, Option, Some, None, is_some, is_none, refl, sym, ap, ◌∙◌, subst, arith}
use Rattle.std.specs.Prelude.{option_and_then, slice_get, IfSome, nat_le}
use Rattle.std.specs.Option.{option_map_or}
use Rattle.std.proofs.lemmas.Bool.{and_parts}
use Rattle.dioc_terms.specs.declared.names.Role.{Role}
use Rattle.dioc_terms.specs.declared.processes.ScopeHead.{ScopeHead}
use Rattle.dioc_terms.specs.declared.entries.Entry.{Entry}
use Rattle.dioc_terms.specs.declared.entries.Entry.TheVariants as entry
use Rattle.dioc_terms.specs.declared.bundles.Timed.{Timed}
use Rattle.dioc_terms.specs.Plain.{Setting}
use Rattle.dioc_terms.specs.Messages.{is_aux, visible}
use Rattle.dioc_terms.specs.Attempts.{Attempt, Stuck, Does, under, orelse, when}
use Rattle.dioc_terms.specs.Stores.{Store}
use Rattle.global_steps.specs.Running.{Running, Skip, Seq, Par, Bar, ended, light}
use Rattle.global_steps.specs.Follow.{BookChoice, Effect, State, book_choice, is_doer_due, plays, shows, follow_role, follow_change, follow, play_from, stray_from}
use Rattle.global_steps.specs.Settled.{SettledFrom}
use Rattle.global_steps.specs.Laws.{PlaysGoOn, StraysFirst, StraysAreFound, SettledGoesOn}

some_same : {A : Type 0} {x y : A} → Some x ≡ Some y → x ≡ y
some_same h = cc

none_some : {A : Type 0} {x : A} → None ≡ Some x → ⊥
none_some h = cc

-- what follows a state, where there is one
then_same : {A B : Type 0} (f g : A → Option B) (m : Option A) → ((x : A) → f x ≡ g x) → option_and_then f m ≡ option_and_then g m
then_same f g None h = refl
then_same f g (Some x) h = h x

then_twice : {A B C : Type 0} (f : A → Option B) (g : B → Option C) (m : Option A)
    → option_and_then g (option_and_then f m) ≡ option_and_then (λ x. option_and_then g (f x)) m
then_twice f g None = refl
then_twice f g (Some x) = refl

-- Plays
played_on : (b : Setting) (S : State) (es fs : List Entry) → play_from b S (es ++ fs) ≡ option_and_then (λ next. play_from b next fs) (play_from b S es)
played_on b S [] fs = refl
played_on b S (e ∷ es) fs =
    then_same (λ T. play_from b T (es ++ fs)) (λ T. option_and_then (λ next. play_from b next fs) (play_from b T es)) (follow b S e) (λ T. played_on b T es fs)
    ∙ sym (then_twice (λ T. play_from b T es) (λ next. play_from b next fs) (follow b S e))

abbrev entry_move : Setting → State → Role → Entry → Attempt Effect Running
entry_move b S r e = plays b.cast S.stores (λ head. book_choice b.rules S.book head (S.stores head.leader)) S.updates S.running e

role_counted : (b : Setting) (S T : State) (r : Role) (e : Entry) (m : Attempt Effect Running) → entry_move b S r e ≡ m → follow_role b S r e ≡ Some T
    → T.entries ≡ suc S.entries
role_counted b S T r e Stuck is h = absurd (none_some (rw is at h))
role_counted b S T r e (Does effect G) is h = ap (λ (U : State). U.entries) (sym (some_same (rw is at h)))

only_one : {A : Type 0} (t : Bool) (x y : A) → (if t then Some x else None) ≡ Some y → x ≡ y
only_one true x y h = some_same h
only_one false x y h = absurd (none_some h)

change_counted : (b : Setting) (S T : State) (e : Entry) (m : Option Timed) → slice_get b.script S.changes ≡ m → follow_change b S e ≡ Some T
    → T.entries ≡ suc S.entries
change_counted b S T e None is h = absurd (none_some (rw is at h))
change_counted b S T e (Some timed) is h =
    ap (λ (U : State). U.entries) (sym (only_one (shows b.rules e timed.change && nat_le timed.after S.entries) _ T (rw is at h)))

follow_counted : (b : Setting) (S T : State) (e : Entry) → follow b S e ≡ Some T → T.entries ≡ suc S.entries
follow_counted b S T (entry.Put k n) h = role_counted b S T k.from (entry.Put k n) (entry_move b S k.from (entry.Put k n)) refl h
follow_counted b S T (entry.Take k x) h = role_counted b S T k.to (entry.Take k x) (entry_move b S k.to (entry.Take k x)) refl h
follow_counted b S T (entry.Set i r x v) h = role_counted b S T r (entry.Set i r x v) (entry_move b S r (entry.Set i r x v)) refl h
follow_counted b S T (entry.Input i r x v) h = role_counted b S T r (entry.Input i r x v) (entry_move b S r (entry.Input i r x v)) refl h
follow_counted b S T (entry.Pick i r t) h = role_counted b S T r (entry.Pick i r t) (entry_move b S r (entry.Pick i r t)) refl h
follow_counted b S T (entry.Scope i r c) h = role_counted b S T r (entry.Scope i r c) (entry_move b S r (entry.Scope i r c)) refl h
follow_counted b S T (entry.Add name) h = change_counted b S T (entry.Add name) (slice_get b.script S.changes) refl h
follow_counted b S T (entry.Drop name) h = change_counted b S T (entry.Drop name) (slice_get b.script S.changes) refl h
follow_counted b S T (entry.Env key v) h = change_counted b S T (entry.Env key v) (slice_get b.script S.changes) refl h

counted_then : (b : Setting) (S T : State) (e : Entry) (es : List Entry) (m : Option State) → follow b S e ≡ m
    → ((U : State) → play_from b U es ≡ Some T → T.entries ≡ U.entries + length es)
    → option_and_then (λ next. play_from b next es) m ≡ Some T → T.entries ≡ S.entries + suc (length es)
counted_then b S T e es None is later h = absurd (none_some h)
counted_then b S T e es (Some U) is later h =
    let one : U.entries ≡ suc S.entries = follow_counted b S U e is in
    let rest : T.entries ≡ U.entries + length es = later U h in
    omega (arith, one, rest)

counted : (b : Setting) (S T : State) (es : List Entry) → play_from b S es ≡ Some T → T.entries ≡ S.entries + length es
counted b S T [] h = let same : T.entries ≡ S.entries = ap (λ (U : State). U.entries) (sym (some_same h)) in omega (arith, same)
counted b S T (e ∷ es) h = counted_then b S T e es (follow b S e) refl (λ U k. counted b U T es k) h

-- Entries that aren't played
under_stuck : {D A B : Type 0} (f : A → B) (m : Attempt D A) → m ≡ Stuck → under f m ≡ Stuck
under_stuck f m h = ap (under f) h

when_stuck : {D A : Type 0} (t : Bool) (m : Attempt D A) → m ≡ Stuck → when t m ≡ Stuck
when_stuck true m h = h
when_stuck false m h = refl

orelse_stuck : {D A : Type 0} (m n : Attempt D A) → m ≡ Stuck → n ≡ Stuck → orelse m n ≡ Stuck
orelse_stuck m n h k = ap (λ x. orelse x n) h ∙ k

ended_plays : (cast : List Role) (stores : Role → Store) (choices : ScopeHead → BookChoice) (updates : ℕ) (G : Running) (e : Entry) → ended G ≡ true
    → plays cast stores choices updates G e ≡ Stuck
ended_plays cast stores choices updates Skip e h = refl
ended_plays cast stores choices updates (Seq G H) e h =
    let parts = and_parts (ended G) (ended H) h in
    orelse_stuck _ _ (under_stuck (λ K. Seq K H) _ (ended_plays cast stores choices updates G e parts.0))
    (when_stuck (light G && not (is_doer_due e G)) _ (under_stuck (Seq G) _ (ended_plays cast stores choices updates H e parts.1)))
ended_plays cast stores choices updates (Par G H) e h =
    let parts = and_parts (ended G) (ended H) h in
    orelse_stuck _ _ (under_stuck (λ K. Par K H) _ (ended_plays cast stores choices updates G e parts.0))
    (under_stuck (Par G) _ (ended_plays cast stores choices updates H e parts.1))
ended_plays cast stores choices updates (Bar roles G) e h = under_stuck (Bar roles) _ (ended_plays cast stores choices updates G e h)
ended_plays cast stores choices updates G e h = cc

over : (b : Setting) (S : State) (r : Role) (e : Entry) → ended S.running ≡ true → follow_role b S r e ≡ None
over b S r e h = stopped (ended_plays b.cast S.stores (λ head. book_choice b.rules S.book head (S.stores head.leader)) S.updates S.running e h)
  where
    stopped : entry_move b S r e ≡ Stuck → follow_role b S r e ≡ None
    stopped is = rw is

pub plays-go_on : PlaysGoOn
plays-go_on = record { appended = played_on; counted = counted; over = over }

-- The first entry that strays
none_further : (b : Setting) (S : State) (n : ℕ) (e : Entry) (es : List Entry) (t : Bool) (m : Option State) → follow b S e ≡ m
    → ((T : State) → is_none (stray_from b T (suc n) es) ≡ is_some (play_from b T (visible es)))
    → is_none (if t then stray_from b S (suc n) es else option_map_or (λ next. stray_from b next (suc n) es) m (Some n))
    ≡ is_some (play_from b S (if not t then e ∷ visible es else visible es))
none_further b S n e es true m is later = later S
none_further b S n e es false None is later = rw is
none_further b S n e es false (Some T) is later = rw is (later T)

none_strays : (b : Setting) (S : State) (n : ℕ) (es : List Entry) → is_none (stray_from b S n es) ≡ is_some (play_from b S (visible es))
none_strays b S n [] = refl
none_strays b S n (e ∷ es) = none_further b S n e es (is_aux e) (follow b S e) refl (λ T. none_strays b T (suc n) es)

-- an auxiliary entry before
passed_over : (b : Setting) (S : State) (n : ℕ) (e : Entry) (es : List Entry) (k : ℕ) → is_aux e ≡ true → StraysFirst b S (suc n) es k → StraysFirst b S n (e ∷ es) k
passed_over b S n e es k aux found = record {
  before = e ∷ found.before;
  entry = found.entry;
  later = found.later;
  state = found.state;
  splits = ap (λ l. e ∷ l) found.splits;
  number = let at : k ≡ suc n + length found.before = found.number in omega (arith, at);
  played = rw aux found.played;
  is_visible = found.is_visible;
  strays = found.strays;
}

-- a played entry before
played_before : (b : Setting) (S T : State) (n : ℕ) (e : Entry) (es : List Entry) (k : ℕ) → is_aux e ≡ false → follow b S e ≡ Some T
    → StraysFirst b T (suc n) es k → StraysFirst b S n (e ∷ es) k
played_before b S T n e es k shown is found = record {
  before = e ∷ found.before;
  entry = found.entry;
  later = found.later;
  state = found.state;
  splits = ap (λ l. e ∷ l) found.splits;
  number = let at : k ≡ suc n + length found.before = found.number in omega (arith, at);
  played = rw (shown, is) found.played;
  is_visible = found.is_visible;
  strays = found.strays;
}

first_further : (b : Setting) (S : State) (n : ℕ) (e : Entry) (es : List Entry) (k : ℕ) (t : Bool) (m : Option State) → is_aux e ≡ t → follow b S e ≡ m
    → ((T : State) → stray_from b T (suc n) es ≡ Some k → StraysFirst b T (suc n) es k)
    → (if t then stray_from b S (suc n) es else option_map_or (λ next. stray_from b next (suc n) es) m (Some n)) ≡ Some k
    → StraysFirst b S n (e ∷ es) k
first_further b S n e es k true m shown is later h = passed_over b S n e es k shown (later S h)
first_further b S n e es k false None shown is later h = record {
  before = [];
  entry = e;
  later = es;
  state = S;
  splits = refl;
  number = let at : n ≡ k = some_same h in omega (arith, at);
  played = refl;
  is_visible = shown;
  strays = is;
}
first_further b S n e es k false (Some T) shown is later h = played_before b S T n e es k shown is (later T h)

first_strays : (b : Setting) (S : State) (n : ℕ) (es : List Entry) (k : ℕ) → stray_from b S n es ≡ Some k → StraysFirst b S n es k
first_strays b S n [] k h = absurd (none_some h)
first_strays b S n (e ∷ es) k h = first_further b S n e es k (is_aux e) (follow b S e) refl refl (λ T l. first_strays b T (suc n) es k l) h

pub strays-are_found : StraysAreFound
strays-are_found = record { none = none_strays; first = first_strays }

-- Settled traces
further : {P Q : State → Type 0} (m : Option State) → ((T : State) → m ≡ Some T → P T → Q T) → IfSome m P → IfSome m Q
further None f h = h
further (Some T) f h = f T refl h

shorter_settled : (b : Setting) (S : State) (es fs : List Entry) → SettledFrom b S (es ++ fs) → SettledFrom b S es
shorter_settled b S [] fs h = tt
shorter_settled b S (e ∷ es) fs h =
    (h.0, further {P = λ T. SettledFrom b T (es ++ fs)} {Q = λ T. SettledFrom b T es} (follow b S e) (λ T is k. shorter_settled b T es fs k) h.1)

longer_settled : (b : Setting) (S T : State) (es fs : List Entry) → play_from b S es ≡ Some T → SettledFrom b S es → SettledFrom b T fs
    → SettledFrom b S (es ++ fs)
longer_settled b S T [] fs h settled rest = subst (λ U. SettledFrom b U fs) (sym (some_same h)) rest
longer_settled b S T (e ∷ es) fs h settled rest = (
  settled.0,
  further {P = λ U. SettledFrom b U es} {Q = λ U. SettledFrom b U (es ++ fs)} (follow b S e)
      (λ U is k. longer_settled b U T es fs (sym (ap (option_and_then (λ next. play_from b next es)) is) ∙ h) k rest) settled.1,
)

pub settled-goes_on : SettledGoesOn
settled-goes_on = record { shorter = shorter_settled; longer = longer_settled }

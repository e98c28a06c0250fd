-- What is played entry by entry is played as a whole.
use Rattle.std.proofs.Common.{◌≡◌, ◌≤◌, ℕ, suc, List, [], ◌∷◌, Bool, true, false, Some, None, Result, Ok, Err, IfOk, sym, ap, ◌∙◌, arith}
use Rattle.std.specs.Prelude.{not, if◌then◌else◌, option_and_then}
use Rattle.std.specs.Option.{option_map_or}
use Rattle.dioc_terms.specs.declared.entries.Entry.{Entry}
use Rattle.dioc_terms.specs.declared.faults.Memory.{Memory}
use Rattle.dioc_terms.specs.Messages.{is_aux, visible}
use Rattle.dioc_terms.specs.Plain.{Setting}
use Rattle.global_follower.specs.Passing.{GoesTo, PlaysOn, passed}
use Rattle.global_steps.specs.Laws.{PlaysGoOn}
use Rattle.global_steps.specs.Follow.{State, follow, play_from, stray_from}

none_some : {A : Type 0} {a : A} → None ≡ Some a → ⊥
none_some e = cc

some_same : {A : Type 0} {a b : A} → Some a ≡ Some b → a ≡ b
some_same e = cc

module _ (b : Setting) (S : State) (e : Entry) (es : List Entry) where
  on_by : (aux : Bool) (n : ℕ) (T : State) → (if aux then Some S else follow b S e) ≡ Some T
      → (if aux then stray_from b S (suc n) es else option_map_or (λ next. stray_from b next (suc n) es) (follow b S e) (Some n)) ≡ stray_from b T (suc n) es
  on_by true n T h = ap (λ s. stray_from b s (suc n) es) (some_same h)
  on_by false n T h = ap (λ o. option_map_or (λ next. stray_from b next (suc n) es) o (Some n)) h

  -- an entry that is passed leaves the judgement to those behind it
  pub stray_on : (n : ℕ) (T : State) → passed b S e ≡ Some T → stray_from b S n (e ∷ es) ≡ stray_from b T (suc n) es
  stray_on n T h = on_by (is_aux e) n T h

  here_by : (aux : Bool) (n : ℕ) → (if aux then Some S else follow b S e) ≡ None
      → (if aux then stray_from b S (suc n) es else option_map_or (λ next. stray_from b next (suc n) es) (follow b S e) (Some n)) ≡ Some n
  here_by true n h = absurd (none_some (sym h))
  here_by false n h = ap (λ o. option_map_or (λ next. stray_from b next (suc n) es) o (Some n)) h

  -- an entry that isn't passed is the first that isn't played
  pub stray_here : (n : ℕ) → passed b S e ≡ None → stray_from b S n (e ∷ es) ≡ Some n
  stray_here n h = here_by (is_aux e) n h

  play_by : (aux : Bool) (T : State) → (if aux then Some S else follow b S e) ≡ Some T
      → play_from b S (if not aux then e ∷ visible es else visible es) ≡ play_from b T (visible es)
  play_by true T h = ap (λ s. play_from b s (visible es)) (some_same h)
  play_by false T h = ap (λ o. option_and_then (λ next. play_from b next (visible es)) o) h

  -- and the play goes on from there
  pub play_on : (T : State) → passed b S e ≡ Some T → play_from b S (visible (e ∷ es)) ≡ play_from b T (visible es)
  play_on T h = play_by (is_aux e) T h

-- a visible entry is passed where it is followed
passed_by : (b : Setting) (S T : State) (e : Entry) (told : Bool) → is_aux e ≡ false → GoesTo S T (follow b S e) told → PlaysOn b S e T told
passed_by b S T e true seen follows = ap (λ aux. if aux then Some S else follow b S e) seen ∙ follows
passed_by b S T e false seen follows = ap (λ aux. if aux then Some S else follow b S e) seen ∙ follows.0

pub passed_on : (b : Setting) (S T : State) (e : Entry) (r : Result Bool Memory) → is_aux e ≡ false → IfOk r (GoesTo S T (follow b S e)) → IfOk r (PlaysOn b S e T)
passed_on b S T e (Ok told) seen follows = passed_by b S T e told seen follows
passed_on b S T e (Err fault) seen follows = follows

-- ---- how many entries a state has seen

module _ (goes : PlaysGoOn) (b : Setting) (S T : State) (e : Entry) where
  seen_by : (aux : Bool) → (if aux then Some S else follow b S e) ≡ Some T → T.entries ≤ suc S.entries
  seen_by true h = omega (arith, ap (λ (U : State). U.entries) (some_same h))
  seen_by false h = omega (arith, goes.counted b S T (e ∷ []) (ap (option_and_then Some) h))

  pub seen : passed b S e ≡ Some T → T.entries ≤ suc S.entries
  seen h = seen_by (is_aux e) h

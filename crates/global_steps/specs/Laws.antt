-- What holds of plays, of the first entry that strays, and of settled traces.
use Rattle.std.specs.Prelude.{◌≡◌, ℕ, ◌+◌, List, ◌∷◌, ◌++◌, length, true, false, Some, None, is_some, is_none, option_and_then}
use Rattle.dioc_terms.specs.declared.names.Role.{Role}
use Rattle.dioc_terms.specs.declared.entries.Entry.{Entry}
use Rattle.dioc_terms.specs.Plain.{Setting}
use Rattle.dioc_terms.specs.Messages.{is_aux, visible}
use Rattle.global_steps.specs.Running.{ended}
use Rattle.global_steps.specs.Follow.{State, follow, follow_role, play_from, stray_from}
use Rattle.global_steps.specs.Settled.{SettledFrom}

pub record PlaysGoOn : Type 0 where
  -- a play of more entries goes on from the state after those before
  pub appended : (b : Setting) (S : State) (es fs : List Entry) → play_from b S (es ++ fs)
      ≡ option_and_then (λ next. play_from b next fs) (play_from b S es)
  -- each entry counts
  pub counted : (b : Setting) (S T : State) (es : List Entry) → play_from b S es ≡ Some T
      → T.entries ≡ S.entries + length es
  -- an ended choreography plays no entry of a role
  pub over : (b : Setting) (S : State) (r : Role) (e : Entry) → ended S.running ≡ true
      → follow_role b S r e ≡ None

-- the entry number k is the first that isn't played: those before it are, without the auxiliary
-- ones, where the first has number n
pub record StraysFirst (b : Setting) (S : State) (n : ℕ) (es : List Entry) (k : ℕ) : Type 0 where
  pub before : List Entry
  pub entry : Entry
  pub later : List Entry
  pub state : State
  pub splits : es ≡ before ++ entry ∷ later
  pub number : k ≡ n + length before
  pub played : play_from b S (visible before) ≡ Some state
  pub is_visible : is_aux entry ≡ false
  pub strays : follow b state entry ≡ None

pub record StraysAreFound : Type 0 where
  -- none strays exactly where the visible entries are played
  pub none : (b : Setting) (S : State) (n : ℕ) (es : List Entry) → is_none (stray_from b S n es)
      ≡ is_some (play_from b S (visible es))
  pub first : (b : Setting) (S : State) (n : ℕ) (es : List Entry) (k : ℕ) → stray_from b S n es
      ≡ Some k → StraysFirst b S n es k

pub record SettledGoesOn : Type 0 where
  -- the first entries of a settled trace are settled
  pub shorter : (b : Setting) (S : State) (es fs : List Entry) → SettledFrom b S (es ++ fs)
      → SettledFrom b S es
  -- more entries that are settled after them make a settled trace
  pub longer : (b : Setting) (S T : State) (es fs : List Entry) → play_from b S es ≡ Some T
      → SettledFrom b S es → SettledFrom b T fs → SettledFrom b S (es ++ fs)

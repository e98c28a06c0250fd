-- How a sequence and a parallel play an entry, by what their parts do.
use Rattle.std.proofs.Common.{◌≡◌, ℕ, List, true, false, ◌&&◌, not, Option, Some, None, refl, ◌∙◌}
use Rattle.dioc_terms.specs.declared.names.Role.{Role}
use Rattle.dioc_terms.specs.declared.processes.ScopeHead.{ScopeHead}
use Rattle.dioc_terms.specs.declared.entries.Entry.{Entry}
use Rattle.dioc_terms.specs.Attempts.{Attempt, Stuck, under}
use Rattle.dioc_terms.specs.Messages.{doer}
use Rattle.dioc_terms.specs.Stores.{Store}
use Rattle.dioc_terms.specs.Terms as term
use Rattle.dioc_terms.specs.Terms.{Term, empty, stamped}
use Rattle.std.proofs.lemmas.Bool.{and_left}
use Rattle.global_steps.specs.Follow.{BookChoice, Effect, is_doer_due, plays}
use Rattle.global_steps.specs.Running as runs
use Rattle.global_steps.specs.Running.{Running, Seq, started, light}
use Rattle.global_follower.specs.declared.running.Running.{Running as KeptRunning}
use Rattle.global_follower.specs.declared.running.Running as kept
use Rattle.global_follower.specs.KeptRunning.{is_skip, running}
use Rattle.global_follower.proofs.Stills.{light_still, nobody_due}

-- no message is in flight in a part that nobody has begun
pub none_due : (e : Entry) (I : Term) → is_doer_due e (started I) ≡ false
none_due e I = by (doer e) refl
  where
    by : (o : Option Role) → doer e ≡ o → is_doer_due e (started I) ≡ false
    by None at = rw at refl
    by (Some q) at = rw at (nobody_due q I)

module _ (cast : List Role) (stores : Role → Store) (choices : ScopeHead → BookChoice) (updates : ℕ)
    (e : Entry) where
  -- the first part of a sequence keeps the second one waiting
  pub seq_waits : (G H : Running) → Stuck ≡ plays cast stores choices updates G e
      → (light G && not (is_doer_due e G)) ≡ false
      → Stuck ≡ plays cast stores choices updates (Seq G H) e
  seq_waits G H is waits = rw (← is, waits) refl

  -- where it is the leaf that plays nothing the second one is played
  pub seq_goes_on : (K : KeptRunning) (H : Running) → is_skip K ≡ true
      → under (Seq (running K)) (plays cast stores choices updates H e)
      ≡ plays cast stores choices updates (Seq (running K) H) e
  seq_goes_on kept.Skip H is =
      let due : is_doer_due e runs.Skip ≡ false = none_due e term.Skip in
      rw due refl
  seq_goes_on (kept.Still part) H is = cc
  seq_goes_on (kept.Seq' _ F _ G) H is = cc
  seq_goes_on (kept.Par' _ F _ G) H is = cc
  seq_goes_on (kept.Fly f) H is = cc
  seq_goes_on (kept.Bar' scope _ G) H is = cc
  seq_goes_on (kept.Again' turn _ G) H is = cc

  -- the same of a sequence that nobody has begun
  pub waits : (n level : ℕ) (I J : Term)
      → Stuck ≡ plays cast stores choices updates (started (stamped I n level)) e
      → empty I ≡ false
      → Stuck ≡ plays cast stores choices updates (started (stamped (term.Seq I J) n level)) e
  waits n level I J is full =
      seq_waits (started (stamped I n level)) (started (stamped J n level)) is
      (and_left _ _ (light_still n level I ∙ full))

  pub still_second : (n level : ℕ) (I J K : Term) (whole part : Attempt Effect Running)
      → Stuck ≡ plays cast stores choices updates (started (stamped I n level)) e
      → empty I ≡ true → K ≡ stamped I n level
      → part ≡ plays cast stores choices updates (started (stamped J n level)) e
      → whole ≡ under (Seq (started K)) part
      → whole ≡ plays cast stores choices updates (started (stamped (term.Seq I J) n level)) e
  still_second n level I J K whole part is no_first same played around =
      let all_light : light (started (stamped I n level)) ≡ true = light_still n level I ∙ no_first in
      let due : is_doer_due e (started (stamped I n level)) ≡ false =
      none_due e (stamped I n level) in
      around ∙ rw (← is, all_light, due, ← played, same) refl

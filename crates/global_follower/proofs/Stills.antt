-- What has ended, is light or is due in a part that nobody has begun, and what has ended plays
-- nothing.
use Rattle.std.proofs.Common.{◌≡◌, ℕ, List, Bool, true, false, ◌&&◌, ◌||◌, not, refl, ap₂}
use Rattle.std.proofs.lemmas.Bool.{and_parts}
use Rattle.dioc_terms.specs.declared.names.Index.{Index}
use Rattle.dioc_terms.specs.declared.names.Role.{Role}
use Rattle.dioc_terms.specs.declared.processes.ScopeHead.{ScopeHead}
use Rattle.dioc_terms.specs.declared.entries.Entry.{Entry}
use Rattle.dioc_terms.specs.Attempts.{Stuck, when}
use Rattle.dioc_terms.specs.Expressions.{Expression}
use Rattle.dioc_terms.specs.Stores.{Store}
use Rattle.dioc_terms.specs.Terms as term
use Rattle.dioc_terms.specs.Terms.{Term, empty, stamped}
use Rattle.global_steps.specs.Follow.{BookChoice, Effect, is_doer_due, plays, while_plays}
use Rattle.global_steps.specs.Running as runs
use Rattle.global_steps.specs.Running.{Running, started, ended, light, is_due}

pub ended_still : (n level : ℕ) (I : Term) → ended (started (stamped I n level)) ≡ empty I
ended_still n level term.Skip = refl
ended_still n level (term.Com i o a e b x) = refl
ended_still n level (term.Set i x r e) = refl
ended_still n level (term.Input i x r) = refl
ended_still n level (term.Seq I K) =
    ap₂ (λ s t. s && t) (ended_still n level I) (ended_still n level K)
ended_still n level (term.Par I K) =
    ap₂ (λ s t. s && t) (ended_still n level I) (ended_still n level K)
ended_still n level (term.If i r g I K) = refl
ended_still n level (term.While i r g I) = refl
ended_still n level (term.Scope i r I extra props own) = refl

pub light_still : (n level : ℕ) (I : Term) → light (started (stamped I n level)) ≡ empty I
light_still n level term.Skip = refl
light_still n level (term.Com i o a e b x) = refl
light_still n level (term.Set i x r e) = refl
light_still n level (term.Input i x r) = refl
light_still n level (term.Seq I K) =
    ap₂ (λ s t. s && t) (light_still n level I) (light_still n level K)
light_still n level (term.Par I K) =
    ap₂ (λ s t. s && t) (light_still n level I) (light_still n level K)
light_still n level (term.If i r g I K) = refl
light_still n level (term.While i r g I) = refl
light_still n level (term.Scope i r I extra props own) = refl

pub nobody_due : (q : Role) (I : Term) → is_due q (started I) ≡ false
nobody_due q term.Skip = refl
nobody_due q (term.Com i o a e b x) = refl
nobody_due q (term.Set i x r e) = refl
nobody_due q (term.Input i x r) = refl
nobody_due q (term.Seq I K) = ap₂ (λ s t. s || t) (nobody_due q I) (nobody_due q K)
nobody_due q (term.Par I K) = ap₂ (λ s t. s || t) (nobody_due q I) (nobody_due q K)
nobody_due q (term.If i r g I K) = refl
nobody_due q (term.While i r g I) = refl
nobody_due q (term.Scope i r I extra props own) = refl

when_stuck : (t : Bool) → when {D = Effect} {A = Running} t Stuck ≡ Stuck
when_stuck true = refl
when_stuck false = refl

module _ (cast : List Role) (stores : Role → Store) (choices : ScopeHead → BookChoice) (updates : ℕ)
  where
    -- where nothing is left no entry is played
    pub ended_stuck : (G : Running) (e : Entry) → ended G ≡ true
        → plays cast stores choices updates G e ≡ Stuck
    ended_stuck runs.Skip e over = refl
    ended_stuck (runs.Com i o a x b y) e over = cc
    ended_stuck (runs.Set i x r y) e over = cc
    ended_stuck (runs.Input i x r) e over = cc
    ended_stuck (runs.Seq G H) e over =
        let both = and_parts (ended G) (ended H) over in
        rw (ended_stuck G e both.0, ended_stuck H e both.1)
        (when_stuck (light G && not (is_doer_due e G)))
    ended_stuck (runs.Par G H) e over =
        let both = and_parts (ended G) (ended H) over in
        rw (ended_stuck G e both.0, ended_stuck H e both.1) refl
    ended_stuck (runs.If i r g I K) e over = cc
    ended_stuck (runs.While i r g I) e over = cc
    ended_stuck (runs.Scope i r I extra props level) e over = cc
    ended_stuck (runs.Fly i o a b x v) e over = cc
    ended_stuck (runs.Bar roles G) e over = rw (ended_stuck G e over) refl
    ended_stuck (runs.Again i r g I G) e over = cc

    -- a loop whose turn has ended is picked again
    pub over_again : (i : Index) (r : Role) (g : Expression) (I : Term) (G : Running) (e : Entry)
        → ended G ≡ true
        → plays cast stores choices updates (runs.Again i r g I G) e
        ≡ while_plays cast stores choices updates i r g I e
    over_again i r g I G e over = rw (ended_stuck G e over, over) refl

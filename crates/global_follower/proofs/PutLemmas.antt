-- A put writes nothing into a store.
use Rattle.std.proofs.Common.{◌≡◌, ℕ, List, Bool, true, false, ◌&&◌, not, refl, sym, subst}
use Rattle.dioc_terms.specs.declared.names.Index.{Index}
use Rattle.dioc_terms.specs.declared.names.Role.{Role}
use Rattle.dioc_terms.specs.declared.entries.Entry.{Entry}
use Rattle.dioc_terms.specs.declared.entries.Entry.TheVariants as entry
use Rattle.dioc_terms.specs.declared.entries.Note.{Note}
use Rattle.dioc_terms.specs.declared.entries.Note.TheVariants as note
use Rattle.dioc_terms.specs.declared.processes.Key.{Key}
use Rattle.dioc_terms.specs.declared.processes.ScopeHead.{ScopeHead}
use Rattle.dioc_terms.specs.Attempts.{Attempt, Stuck, Does, orelse, under, when}
use Rattle.dioc_terms.specs.Stores.{Store}
use Rattle.dioc_terms.specs.Equality.{entry_eq}
use Rattle.dioc_terms.specs.Terms as term
use Rattle.dioc_terms.specs.Terms.{Term, head_of, is_in}
use Rattle.dioc_terms.specs.Values.{eval}
use Rattle.global_steps.specs.Follow.{BookChoice, KeepsBody, TakesRule, Effect, Leaves, is_doer_due, operation, plays, scope_plays}
use Rattle.global_steps.specs.Running.{Running, Skip, Com, Fly, Set, Input, If, While, Again, Scope, Bar, Par, Seq, ended, light}
use Rattle.global_follower.specs.KeptEffects.{is_put}

-- where something is done, the store stays as it is
abbrev LeavesStore : Attempt Effect Running → Type 0
LeavesStore Stuck = Unit {0}
LeavesStore (Does effect G) = effect ≡ Leaves

when_leaves : (b : Bool) (m : Attempt Effect Running) → LeavesStore m → LeavesStore (when b m)
when_leaves true m leaves = leaves
when_leaves false m leaves = tt

under_leaves : (f : Running → Running) (m : Attempt Effect Running) → LeavesStore m
    → LeavesStore (under f m)
under_leaves f Stuck leaves = tt
under_leaves f (Does effect G) leaves = leaves

orelse_leaves : (m n : Attempt Effect Running) → LeavesStore m → LeavesStore n
    → LeavesStore (orelse m n)
orelse_leaves Stuck n here there = there
orelse_leaves (Does effect G) n here there = here

module _ (cast : List Role) (stores : Role → Store) (choices : ScopeHead → BookChoice) (updates : ℕ)
    (k : Key) (n : Note) where
  abbrev played : Running → Attempt Effect Running
  played G = plays cast stores choices updates G (entry.Put k n)

  put_scope : (i : Index) (r : Role) (I : Term) (roles : Role → Bool) (level : ℕ) (c : BookChoice)
      → LeavesStore (scope_plays cast stores choices updates i r I roles level c (entry.Put k n))
  put_scope i r I roles level KeepsBody = tt
  put_scope i r I roles level (TakesRule name body) = tt

  put_leaves : (G : Running) → LeavesStore (played G)
  put_leaves Skip = tt
  put_leaves (Com i o a x b y) =
      let v = eval x (stores a) in
      when_leaves (entry_eq (entry.Put k n) (entry.Put (operation a b i o) (note.Val v)))
      (Does Leaves (Fly i o a b y v)) refl
  put_leaves (Fly i o a b y v) = tt
  put_leaves (Set i x r y) = tt
  put_leaves (Input i x r) = tt
  put_leaves (If i r g I K) = tt
  put_leaves (While i r g I) = tt
  put_leaves (Again i r g I G) =
      orelse_leaves (under (Again i r g I) (played G)) (when (ended G) Stuck)
      (under_leaves (Again i r g I) (played G) (put_leaves G)) (when_leaves (ended G) Stuck tt)
  put_leaves (Scope i r I extra props level) =
      put_scope i r I (λ q. is_in q (term.Scope i r I extra props level)) level
      (choices (head_of cast i r I extra props level))
  put_leaves (Bar roles G) = under_leaves (Bar roles) (played G) (put_leaves G)
  put_leaves (Par G H) =
      orelse_leaves (under (λ F. Par F H) (played G)) (under (Par G) (played H))
      (under_leaves (λ F. Par F H) (played G) (put_leaves G))
      (under_leaves (Par G) (played H) (put_leaves H))
  put_leaves (Seq G H) =
      let goes = light G && not (is_doer_due (entry.Put k n) G) in
      orelse_leaves (under (λ F. Seq F H) (played G)) (when goes (under (Seq G) (played H)))
      (under_leaves (λ F. Seq F H) (played G) (put_leaves G))
      (when_leaves goes (under (Seq G) (played H))
      (under_leaves (Seq G) (played H) (put_leaves H)))

-- a put that is played leaves the store as it is
pub put_effect : (cast : List Role) (stores : Role → Store) (choices : ScopeHead → BookChoice)
    (updates : ℕ) (e : Entry) (G H : Running) (effect : Effect)
    → Does effect H ≡ plays cast stores choices updates G e → is_put e ≡ true → effect ≡ Leaves
put_effect cast stores choices updates (entry.Put k n) G H effect does put =
    subst LeavesStore (sym does) (put_leaves cast stores choices updates k n G)
put_effect cast stores choices updates e G H effect does put = cc

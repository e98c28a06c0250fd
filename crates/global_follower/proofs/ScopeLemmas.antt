-- A scope plays the choice of its leader.
use Rattle.std.proofs.Common.{◌≡◌, ℕ, suc, List, Bool, true, false, if◌then◌else◌, Option, Some, None, refl, sym, ap, ◌∙◌, slice_get}
use Rattle.dioc_terms.specs.declared.names.Role.{Role}
use Rattle.dioc_terms.specs.declared.names.Index.{Index}
use Rattle.dioc_terms.specs.declared.processes.ScopeHead.{ScopeHead}
use Rattle.dioc_terms.specs.declared.entries.Chosen.{Chosen}
use Rattle.dioc_terms.specs.declared.entries.Chosen.TheVariants as chosen
use Rattle.dioc_terms.specs.declared.entries.Entry.{Entry}
use Rattle.dioc_terms.specs.declared.entries.Entry.TheVariants as entry
use Rattle.dioc_terms.specs.Attempts.{Stuck, Does, when}
use Rattle.dioc_terms.specs.Equality.{chosen_eq, entry_eq}
use Rattle.dioc_terms.specs.Plain.{PlainRule}
use Rattle.dioc_terms.specs.Rules.{Book, choose}
use Rattle.dioc_terms.specs.Stores.{Store}
use Rattle.dioc_terms.specs.declared.values.Value.{Value}
use Rattle.dioc_terms.specs.Terms as term
use Rattle.dioc_terms.specs.Terms.{Term, head_of, is_in, stamped}
use Rattle.global_follower.specs.Scopes.{choice_of, chosen_body, played_scope}
use Rattle.global_steps.specs.Follow.{BookChoice, KeepsBody, TakesRule, Leaves, book_choice, plays, scope_plays}
use Rattle.global_steps.specs.Running as runs
use Rattle.global_steps.specs.Running.{Running, Bar, started}

-- the book's choice by the number of the rule
pub book_choice-number : (rules : List PlainRule) (book : Book) (head : ScopeHead) (s : Store)
    → book_choice rules book head s ≡ choice_of rules (choose rules book head s)
book_choice-number rules book head s = by (choose rules book head s) refl
  where
    by_rule : (m : ℕ) (o : Option PlainRule) → slice_get rules m ≡ o
        → choose rules book head s ≡ Some m
        → book_choice rules book head s ≡ choice_of rules (Some m)
    by_rule m None at chosen = rw (chosen, at) refl
    by_rule m (Some rule) at chosen = rw (chosen, at) refl

    by : (o : Option ℕ) → choose rules book head s ≡ o
        → book_choice rules book head s ≡ choice_of rules o
    by None chosen = rw chosen refl
    by (Some m) chosen = by_rule m (slice_get rules m) refl chosen

module _ (cast : List Role) (stores : Role → Store) (choices : ScopeHead → BookChoice) (updates : ℕ)
    (i : Index) (r : Role) (I : Term) (roles : Role → Bool) (level : ℕ) (e : Entry) where
  when_entered : (test : Bool) (J : Term) → when test (Does Leaves (Bar roles (started J)))
      ≡ played_scope roles (if test then Some J else None)
  when_entered true J = refl
  when_entered false J = refl

  -- where the entry shows the leader's choice
  pub scope_entered : (shown : Chosen) (choice : BookChoice)
      → ((c : Chosen) → entry_eq e (entry.Scope i r c) ≡ chosen_eq shown c)
      → scope_plays cast stores choices updates i r I roles level choice e
      ≡ played_scope roles (chosen_body shown choice I updates level)
  scope_entered shown KeepsBody shows =
      ap (λ test. when test (Does Leaves (Bar roles (started I)))) (shows chosen.Keep)
      ∙ when_entered (chosen_eq shown chosen.Keep) I
  scope_entered shown (TakesRule name body) shows =
      let J = stamped body (suc updates) (suc level) in
      ap (λ test. when test (Does Leaves (Bar roles (started J))))
      (shows (chosen.Rule name (suc updates)))
      ∙ when_entered (chosen_eq shown (chosen.Rule name (suc updates))) J

  -- where it shows no choice of this scope
  pub scope_stuck : (choice : BookChoice)
      → ((c : Chosen) → entry_eq e (entry.Scope i r c) ≡ false)
      → scope_plays cast stores choices updates i r I roles level choice e ≡ Stuck
  scope_stuck KeepsBody shows =
      ap (λ test. when test (Does Leaves (Bar roles (started I)))) (shows chosen.Keep)
  scope_stuck (TakesRule name body) shows =
      ap (λ test. when test (Does Leaves (Bar roles (started (stamped body (suc updates)
      (suc level)))))) (shows (chosen.Rule name (suc updates)))

-- how a scope plays, by what its leader's book and the entry show
module _ (cast : List Role) (rules : List PlainRule) (stores : Role → Store) (book : Book)
    (updates : ℕ) (i : Index) (r : Role) (I : Term) (extra : List Role)
    (props : List (List ℕ × Value)) (level : ℕ) (e : Entry) where
  pub scope_played : (shown : Chosen) (head : ScopeHead) (rule : Option ℕ) (body : Option Term)
      → head ≡ head_of cast i r I extra props level
      → rule ≡ choose rules book head (stores r)
      → ((c : Chosen) → entry_eq e (entry.Scope i r c) ≡ chosen_eq shown c)
      → body ≡ chosen_body shown (choice_of rules rule) I updates level
      → played_scope (λ q. is_in q (term.Scope i r I extra props level)) body
      ≡ plays cast stores (λ h. book_choice rules book h (stores h.leader)) updates
      (runs.Scope i r I extra props level) e
  scope_played shown head rule body is_head is_rule shows is_body =
      let roles : Role → Bool = λ q. is_in q (term.Scope i r I extra props level) in
      let seen : ScopeHead = head_of cast i r I extra props level in
      ap (played_scope roles) (is_body
      ∙ ap (λ (n : Option ℕ). chosen_body shown (choice_of rules n) I updates level)
      (is_rule ∙ ap (λ (h : ScopeHead). choose rules book h (stores r)) is_head)
      ∙ ap (λ (c : BookChoice). chosen_body shown c I updates level)
      (sym (book_choice-number rules book seen (stores r))))
      ∙ sym (scope_entered cast stores (λ h. book_choice rules book h (stores h.leader)) updates i r
      I roles level e shown (book_choice rules book seen (stores r)) shows)

-- No two parts side by side share an index, from the start and after each step; so an entry that one part plays, no other part does.
use Rattle.std.proofs.Common.{◌≡◌, ℕ, suc, List, Bool, true, false, ◌&&◌, ◌||◌, not, if◌then◌else◌, Some, refl, sym, ap, ap₂, ◌∙◌, ⊎_elim, ◌⊎◌, inl, inr}
use Rattle.std.proofs.lemmas.Bool.{or_left, or_right, both_ways}
use Rattle.dioc_terms.specs.declared.names.Role.{Role}
use Rattle.dioc_terms.specs.declared.names.Index.{Index}
use Rattle.dioc_terms.specs.declared.processes.ScopeHead.{ScopeHead}
use Rattle.dioc_terms.specs.declared.entries.Entry.{Entry}
use Rattle.dioc_terms.specs.declared.entries.Entry.TheVariants as entry
use Rattle.dioc_terms.specs.declared.entries.Note.TheVariants as note
use Rattle.dioc_terms.specs.declared.entries.Chosen.TheVariants as chosen
use Rattle.dioc_terms.specs.Attempts.{Attempt, Stuck, Does, under, orelse, when}
use Rattle.dioc_terms.specs.Equality.{index_eq, entry_eq}
use Rattle.dioc_terms.specs.EqualityLemmas.{equality-decides}
use Rattle.dioc_terms.specs.Expressions.{Expression}
use Rattle.dioc_terms.specs.Stores.{Store, next_input}
use Rattle.dioc_terms.specs.Terms as term
use Rattle.dioc_terms.specs.Terms.{Term, is_in, at_epoch, index_at, indexed, indexed_from, stamped, constructs, head_of}
use Rattle.dioc_terms.specs.Values.{eval, is_true}
use Rattle.global_steps.specs.Running.{Running, Skip, Com, Set, Input, Seq, Par, If, While, Scope, Fly, Bar, Again, started, ended, light}
use Rattle.global_steps.specs.Follow.{Effect, Leaves, BookChoice, KeepsBody, TakesRule, operation, is_doer_due, while_plays, scope_plays, plays}

-- Attempts
pub when_does : {D A : Type 0} (t : Bool) (m : Attempt D A) (c : D) (x : A) → when t m ≡ Does c x → (t ≡ true) × (m ≡ Does c x)
when_does true m c x h = (refl, h)
when_does false m c x h = cc

pub under_does : {D A B : Type 0} (g : A → B) (m : Attempt D A) (c : D) (y : B) → under g m ≡ Does c y → (x : A) × (m ≡ Does c x) × (g x ≡ y)
under_does g Stuck c y h = cc
under_does g (Does d x) c y h = (x, ap (λ k. Does k x) (let e : d ≡ c = cc in e), cc)

pub orelse_does : {D A : Type 0} (m n : Attempt D A) (c : D) (x : A) → orelse m n ≡ Does c x → (m ≡ Does c x) ⊎ ((m ≡ Stuck) × (n ≡ Does c x))
orelse_does Stuck n c x h = inr (refl, h)
orelse_does (Does d y) n c x h = inl h

pub stuck_or : {D A : Type 0} (m : Attempt D A) → (m ≡ Stuck) ⊎ ((c : D) × (x : A) × (m ≡ Does c x))
stuck_or Stuck = inl refl
stuck_or (Does c x) = inr (c, x, refl)

pub entry_is : (d e : Entry) → entry_eq d e ≡ true → d ≡ e
entry_is d e h = (equality-decides.entry d e).0 h

pub entry_itself : (e : Entry) → entry_eq e e ≡ true
entry_itself e = (equality-decides.entry e e).1 refl

index_itself : (i : Index) → index_eq i i ≡ true
index_itself i = (equality-decides.index i i).1 refl

index_same : (i j : Index) → index_eq i j ≡ true → i ≡ j
index_same i j h = (equality-decides.index i j).0 h

-- the index of an entry of a role
abbrev pub index_of : Entry → Index
index_of (entry.Put k n) = k.index
index_of (entry.Take k x) = k.index
index_of (entry.Set i r x v) = i
index_of (entry.Input i r x v) = i
index_of (entry.Pick i r b) = i
index_of (entry.Scope i r c) = i
index_of _ = index_at 0

-- Which indices are in a text, and in what is left of one
abbrev pub text_has : Index → Term → Bool
text_has i term.Skip = false
text_has i (term.Com j o a e b x) = index_eq i j
text_has i (term.Set j x r e) = index_eq i j
text_has i (term.Input j x r) = index_eq i j
text_has i (term.Seq I J) = text_has i I || text_has i J
text_has i (term.Par I J) = text_has i I || text_has i J
text_has i (term.If j r g I J) = index_eq i j || (text_has i I || text_has i J)
text_has i (term.While j r g I) = index_eq i j || text_has i I
text_has i (term.Scope j r I extra props level) = index_eq i j || text_has i I

abbrev pub has : Index → Running → Bool
has i Skip = false
has i (Com j o a e b x) = index_eq i j
has i (Fly j o a b x v) = index_eq i j
has i (Set j x r e) = index_eq i j
has i (Input j x r) = index_eq i j
has i (Seq G H) = has i G || has i H
has i (Par G H) = has i G || has i H
has i (If j r g I J) = index_eq i j || (text_has i I || text_has i J)
has i (While j r g I) = index_eq i j || text_has i I
has i (Again j r g I G) = (index_eq i j || text_has i I) || has i G
has i (Scope j r I extra props level) = index_eq i j || text_has i I
has i (Bar roles G) = has i G

-- no two parts side by side share one
abbrev pub SingleText : Term → Type 0
SingleText (term.Seq I J) = (SingleText I × SingleText J) × ((i : Index) → text_has i J ≡ true → text_has i I ≡ false)
SingleText (term.Par I J) = (SingleText I × SingleText J) × ((i : Index) → text_has i J ≡ true → text_has i I ≡ false)
SingleText (term.If j r g I J) = SingleText I × SingleText J
SingleText (term.While j r g I) = SingleText I
SingleText (term.Scope j r I extra props level) = SingleText I
SingleText _ = Unit {0}

abbrev pub Single : Running → Type 0
Single (Seq G H) = (Single G × Single H) × ((i : Index) → has i H ≡ true → has i G ≡ false)
Single (Par G H) = (Single G × Single H) × ((i : Index) → has i H ≡ true → has i G ≡ false)
Single (If j r g I J) = SingleText I × SingleText J
Single (While j r g I) = SingleText I
Single (Again j r g I G) = SingleText I × Single G
Single (Scope j r I extra props level) = SingleText I
Single (Bar roles G) = Single G
Single _ = Unit {0}

pub has_started : (i : Index) (I : Term) → has i (started I) ≡ text_has i I
has_started i term.Skip = refl
has_started i (term.Com j o a e b x) = refl
has_started i (term.Set j x r e) = refl
has_started i (term.Input j x r) = refl
has_started i (term.Seq I J) = ap₂ (λ s t. s || t) (has_started i I) (has_started i J)
has_started i (term.Par I J) = ap₂ (λ s t. s || t) (has_started i I) (has_started i J)
has_started i (term.If j r g I J) = refl
has_started i (term.While j r g I) = refl
has_started i (term.Scope j r I extra props level) = refl

apart_started : (I J : Term) → ((i : Index) → text_has i J ≡ true → text_has i I ≡ false) → (i : Index) → has i (started J) ≡ true → has i (started I) ≡ false
apart_started I J h i k = has_started i I ∙ h i (sym (has_started i J) ∙ k)

pub single_started : (I : Term) → SingleText I → Single (started I)
single_started term.Skip h = tt
single_started (term.Com j o a e b x) h = tt
single_started (term.Set j x r e) h = tt
single_started (term.Input j x r) h = tt
single_started (term.Seq I J) h = ((single_started I h.0.0, single_started J h.0.1), apart_started I J h.1)
single_started (term.Par I J) h = ((single_started I h.0.0, single_started J h.0.1), apart_started I J h.1)
single_started (term.If j r g I J) h = h
single_started (term.While j r g I) h = h
single_started (term.Scope j r I extra props level) h = h

module _ (cast : List Role) (stores : Role → Store) (choices : ScopeHead → BookChoice) (u : ℕ) where
  -- an entry that is played is of an index that is there
  at_index : (e X : Entry) (m : Attempt Effect Running) (c : Effect) (H : Running) (i : Index) → index_of X ≡ i → when (entry_eq e X) m ≡ Does c H → index_eq (index_of e) i ≡ true
  at_index e X m c H i is h =
      ap (λ d. index_eq (index_of d) i) (entry_is e X (when_does (entry_eq e X) m c H h).0) ∙ ap (λ j. index_eq j i) is ∙ index_itself i

  scope_index : (i : Index) (r : Role) (I : Term) (roles : Role → Bool) (level : ℕ) (choice : BookChoice) (e : Entry) (c : Effect) (H : Running)
      → scope_plays cast stores choices u i r I roles level choice e ≡ Does c H → index_eq (index_of e) i ≡ true
  scope_index i r I roles level KeepsBody e c H h = at_index e (entry.Scope i r chosen.Keep) (Does Leaves (Bar roles (started I))) c H i refl h
  scope_index i r I roles level (TakesRule name body) e c H h =
      at_index e (entry.Scope i r (chosen.Rule name (suc u))) (Does Leaves (Bar roles (started (stamped body (suc u) (suc level))))) c H i refl h

  while_index : (i : Index) (r : Role) (g : Expression) (I : Term) (e : Entry) (c : Effect) (H : Running) → while_plays cast stores choices u i r g I e ≡ Does c H
      → index_eq (index_of e) i ≡ true
  while_index i r g I e c H h = at_index e (entry.Pick i r (is_true (eval g (stores r))))
      (Does Leaves (if is_true (eval g (stores r)) then Again i r g I (started I) else Skip)) c H i refl h

  pub present : (G : Running) (e : Entry) (c : Effect) (H : Running) → plays cast stores choices u G e ≡ Does c H → has (index_of e) G ≡ true
  present Skip e c H h = cc
  present (Com i o a x b y) e c H h = at_index e (entry.Put (operation a b i o) (note.Val (eval x (stores a)))) _ c H i refl h
  present (Fly i o a b y v) e c H h = at_index e (entry.Take (operation a b i o) (Some y)) _ c H i refl h
  present (Set i x r y) e c H h = at_index e (entry.Set i r x (eval y (stores r))) _ c H i refl h
  present (Input i x r) e c H h = at_index e (entry.Input i r x (next_input (stores r))) _ c H i refl h
  present (If i r g I J) e c H h = or_left _ _ (at_index e (entry.Pick i r (is_true (eval g (stores r)))) _ c H i refl h)
  present (While i r g I) e c H h = or_left _ _ (while_index i r g I e c H h)
  present (Scope i r I extra props level) e c H h = or_left _ _
      (scope_index i r I (λ q. is_in q (term.Scope i r I extra props level)) level (choices (head_of cast i r I extra props level)) e c H h)
  present (Bar roles G) e c H h = let inner = under_does (Bar roles) (plays cast stores choices u G e) c H h in present G e c inner.0 inner.1
  present (Again i r g I G) e c H h = ⊎_elim
      (λ first. let inner = under_does (Again i r g I) (plays cast stores choices u G e) c H first in or_right _ _ (present G e c inner.0 inner.1))
      (λ next. or_left _ _ (or_left _ _ (while_index i r g I e c H (when_does (ended G) (while_plays cast stores choices u i r g I e) c H next.1).1)))
      (orelse_does (under (Again i r g I) (plays cast stores choices u G e)) (when (ended G) (while_plays cast stores choices u i r g I e)) c H h)
  present (Par A B) e c H h = ⊎_elim
      (λ first. let inner = under_does (λ K. Par K B) (plays cast stores choices u A e) c H first in or_left _ _ (present A e c inner.0 inner.1))
      (λ next. let inner = under_does (Par A) (plays cast stores choices u B e) c H next.1 in or_right _ _ (present B e c inner.0 inner.1))
      (orelse_does (under (λ K. Par K B) (plays cast stores choices u A e)) (under (Par A) (plays cast stores choices u B e)) c H h)
  present (Seq A B) e c H h = ⊎_elim
      (λ first. let inner = under_does (λ K. Seq K B) (plays cast stores choices u A e) c H first in or_left _ _ (present A e c inner.0 inner.1))
      (λ next.
      let free = when_does (light A && not (is_doer_due e A)) (under (Seq A) (plays cast stores choices u B e)) c H next.1 in
      let inner = under_does (Seq A) (plays cast stores choices u B e) c H free.1 in
      or_right _ _ (present B e c inner.0 inner.1))
      (orelse_does (under (λ K. Seq K B) (plays cast stores choices u A e)) (when (light A && not (is_doer_due e A)) (under (Seq A) (plays cast stores choices u B e))) c H h)

  -- so the first of two parts that share no index is stuck where the second plays
  pub first_stuck : (A B : Running) (e : Entry) (c : Effect) (H : Running) → ((i : Index) → has i B ≡ true → has i A ≡ false) → plays cast stores choices u B e ≡ Does c H
      → plays cast stores choices u A e ≡ Stuck
  first_stuck A B e c H apart h = ⊎_elim (λ stuck. stuck)
      (λ does. absurd (both_ways (has (index_of e) A) (apart (index_of e) (present B e c H h)) (present A e does.0 does.1 does.2)))
      (stuck_or (plays cast stores choices u A e))

-- Marks say one status, and keep it through a step.
use Rattle.std.proofs.Common.{◌≡◌, ◌+◌, ℕ, Bool, true, false, ◌&&◌, refl, ap, ap₂, ◌∙◌}
use Rattle.std.proofs.lemmas.Bool.{and_parts}
use Rattle.dioc_terms.specs.declared.names.Role.{Role}
use Rattle.dioc_terms.specs.Processes.{Process, Seq, Par, IfLead, IfFollow, WhileLead, WhileFollow, ScopeLead, ScopeFollow}
use Rattle.role_statuses.specs.Statuses.{Status, Untouched, Finished, First, Second, Both, Telling, Branch, Body, Gathering, Ending, Left, Waiting, Became, is_over}
use Rattle.role_statuses.specs.Marks.{Mark}
use Rattle.role_statuses.specs.Marks as mark
use Rattle.role_statuses.specs.Flat.{size, Marks, mark_of, Stands}
use Rattle.role_statuses.specs.Sound.{is_sound}
use Rattle.role_statuses.specs.Kept.{marked, kept}

second : (t u : Bool) → (t && u) ≡ true → u ≡ true
second t u h = (and_parts t u h).1

module _ (me : Role) (marks : Marks) where
  at_mark : (m n : Mark) (x y : Status) (z : Status) → m ≡ n → marked n x y ≡ z → marked m x y ≡ z
  at_mark m n x y z e h = ap (λ k. marked k x y) e ∙ h

  -- a status without parts is its mark
  lone : (b : ℕ) (x : Status) (P : Process) → Stands me marks b x P → ((y z : Status) → marked (mark_of me x P) y z ≡ x) → kept marks b P ≡ x
  lone b x (Seq P Q) s h = at_mark _ _ _ _ x s.0 (h _ _)
  lone b x (Par P Q) s h = at_mark _ _ _ _ x s.0 (h _ _)
  lone b x (IfLead i g others P Q) s h = at_mark _ _ _ _ x s.0 (h _ _)
  lone b x (IfFollow i leader P Q) s h = at_mark _ _ _ _ x s.0 (h _ _)
  lone b x (WhileLead i g others P) s h = at_mark _ _ _ _ x s.0 (h _ _)
  lone b x (WhileFollow i leader P) s h = at_mark _ _ _ _ x s.0 (h _ _)
  lone b x (ScopeLead head others P) s h = at_mark _ _ _ _ x s.0 (h _ _)
  lone b x (ScopeFollow i leader P) s h = at_mark _ _ _ _ x s.0 (h _ _)
  lone b x P s h = at_mark _ _ _ _ x s.0 (h _ _)

  pub kept-is : (b : ℕ) (x : Status) (P : Process) → Stands me marks b x P → is_sound me x P ≡ true → kept marks b P ≡ x
  kept-is b Untouched P s h = lone b Untouched P s (λ y z. refl)
  kept-is b (First x) (Seq P Q) s h = at_mark _ mark.First _ _ _ s.0 (ap First (kept-is b x P s.1.0 (second _ _ h)))
  kept-is b (Second x) (Seq P Q) s h = at_mark _ mark.Second _ _ _ s.0 (ap Second (kept-is (b + size P) x Q s.1 h))
  kept-is b (Both x y) (Par P Q) s h = let k = and_parts (is_sound me x P) (is_sound me y Q) h in
      at_mark _ (mark.Both (is_over me x P) (is_over me y Q)) _ _ _ s.0 (ap₂ Both (kept-is b x P s.1.0 k.0) (kept-is (b + size P) y Q s.1.1 k.1))
  kept-is b (Branch true x) (IfLead i g others P Q) s h = at_mark _ (mark.Branch true) _ _ _ s.0 (ap (Branch true) (kept-is b x P s.1 h))
  kept-is b (Branch false x) (IfLead i g others P Q) s h = at_mark _ (mark.Branch false) _ _ _ s.0 (ap (Branch false) (kept-is (b + size P) x Q s.1 h))
  kept-is b (Branch true x) (IfFollow i leader P Q) s h = at_mark _ (mark.Branch true) _ _ _ s.0 (ap (Branch true) (kept-is b x P s.1 h))
  kept-is b (Branch false x) (IfFollow i leader P Q) s h = at_mark _ (mark.Branch false) _ _ _ s.0 (ap (Branch false) (kept-is (b + size P) x Q s.1 h))
  kept-is b (Body x) (WhileLead i g others P) s h = at_mark _ mark.Body _ _ _ s.0 (ap Body (kept-is b x P s.1 (second _ _ h)))
  kept-is b (Body x) (WhileFollow i leader P) s h = at_mark _ mark.Body _ _ _ s.0 (ap Body (kept-is b x P s.1 (second _ _ h)))
  kept-is b (Body x) (ScopeLead head others P) s h = at_mark _ mark.Body _ _ _ s.0 (ap Body (kept-is b x P s.1 (second _ _ h)))
  kept-is b (Body x) (ScopeFollow i leader P) s h = at_mark _ mark.Body _ _ _ s.0 (ap Body (kept-is b x P s.1 (second _ _ h)))
  kept-is b (Telling t k l ms) P s h = lone b (Telling t k l ms) P s (λ y z. refl)
  kept-is b (Gathering k ks) P s h = lone b (Gathering k ks) P s (λ y z. refl)
  kept-is b Ending P s h = lone b Ending P s (λ y z. refl)
  kept-is b (Left k l ms) P s h = lone b (Left k l ms) P s (λ y z. refl)
  kept-is b (Waiting k ks) P s h = lone b (Waiting k ks) P s (λ y z. refl)
  kept-is b (Became R) P s h = lone b (Became R) P s (λ y z. refl)
  kept-is b Finished P s h = lone b Finished P s (λ y z. refl)
  kept-is b x P s h = cc

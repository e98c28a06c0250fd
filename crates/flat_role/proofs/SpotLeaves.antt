-- Each place that can act does so itself, and none of its parts.
use Rattle.std.proofs.Common.{◌≡◌, ◌+◌, ◌<◌, ◌≤◌, ℕ, List, [], ◌∷◌, ◌++◌, Bool, true, false, ◌&&◌, refl, ap, ap₂, ◌∙◌, arith, ⊎_elim}
use Rattle.std.specs.List.{list_all}
use Rattle.std.proofs.lemmas.Bool.{cases_Bool, cond-true, cond-false}
use Rattle.std.proofs.lemmas.List.Folds.{list_all-append, list_all-map}
use Rattle.dioc_terms.specs.declared.names.Role.{Role}
use Rattle.dioc_terms.specs.Processes.{Process, Seq, Par, IfLead, IfFollow, WhileLead, WhileFollow, ScopeLead, ScopeFollow}
use Rattle.flat_role.specs.Leaves.{is_leaf}
use Rattle.process_steps.specs.Steps.{ended}
use Rattle.role_statuses.specs.Flat.{Marks, PathAt, Stands, inner, size}
use Rattle.role_statuses.specs.Kept.{IsKept, kept}
use Rattle.role_statuses.specs.ListLaws.{active, places_of}
use Rattle.role_statuses.specs.Local.{Layout}
use Rattle.role_statuses.specs.Marks as mark
use Rattle.role_statuses.specs.Paths.{Hole, top_static}
use Rattle.role_statuses.specs.PlaceLaws.{IsCodeOf}
use Rattle.role_statuses.specs.Spots.{Spot, spot_of, spots, still}
use Rattle.role_statuses.specs.Statuses.{Status, Untouched, First, Second, Both, Branch, Body, is_over, leaves}
use Rattle.role_statuses.proofs.ListLemmas.{Laid, part-laid}
use Rattle.role_statuses.proofs.PlaceStepLemmas.{all_fresh}

module _ (me : Role) (code : Layout) (marks : Marks) where
  abbrev pub acts_itself : ℕ → Bool
  acts_itself place = is_leaf (marks place) (code.statics place)

  abbrev all_act : List Spot → Bool
  all_act ss = list_all (λ s. acts_itself s.place) ss

  both_act : (xs ys : List Spot) → all_act xs ≡ true → all_act ys ≡ true → all_act (xs ++ ys) ≡ true
  both_act xs ys h k = list_all-append (λ s. acts_itself s.place) xs ys ∙ ap₂ (λ t u. t && u) h k

  lone : (b : ℕ) (x : Status) (P : Process) → code.statics (b + inner P) ≡ P → is_leaf (marks (b + inner P)) P ≡ true → all_act (spot_of me b x P) ≡ true
  lone b x P static leaf = ⊎_elim
      (λ over. ap all_act (cond-true (is_over me x P) [] (record { place = b + inner P; acts = leaves me x P } ∷ []) over))
      (λ goes. ap all_act (cond-false (is_over me x P) [] (record { place = b + inner P; acts = leaves me x P } ∷ []) goes)
      ∙ ap (λ t. t && true) (ap (is_leaf (marks (b + inner P))) static ∙ leaf))
      (cases_Bool (is_over me x P))

  still_act : (b : ℕ) (P : Process) → Laid code b P → ((k : ℕ) → b ≤ k → k < b + size P → marks k ≡ mark.Untouched) → all_act (still me b P) ≡ true
  still_act b (Seq P Q) laid fresh = ⊎_elim
      (λ over. ap all_act (cond-true (ended P) (still me (b + size P) Q) (still me b P) over)
      ∙ still_act (b + size P) Q laid.1.1 (λ k l u. fresh k (omega arith) (omega arith)))
      (λ goes. ap all_act (cond-false (ended P) (still me (b + size P) Q) (still me b P) goes)
      ∙ still_act b P laid.1.0 (λ k l u. fresh k l (omega arith)))
      (cases_Bool (ended P))
  still_act b (Par P Q) laid fresh = both_act (still me b P) (still me (b + size P) Q)
      (still_act b P laid.1.0 (λ k l u. fresh k l (omega arith))) (still_act (b + size P) Q laid.1.1 (λ k l u. fresh k (omega arith) (omega arith)))
  still_act b P laid fresh = lone b Untouched P laid.0 (ap (λ m. is_leaf m P) (fresh (b + inner P) (omega arith) (omega arith)))

  spots_act : (b : ℕ) (x : Status) (P : Process) → Laid code b P → Stands me marks b x P → all_act (spots me b x P) ≡ true
  spots_act b Untouched P laid s = still_act b P laid (all_fresh me marks b P s)
  spots_act b (First x) (Seq P Q) laid s = spots_act b x P laid.1.0 s.1.0
  spots_act b (Second x) (Seq P Q) laid s = spots_act (b + size P) x Q laid.1.1 s.1
  spots_act b (Both x y) (Par P Q) laid s = both_act (spots me b x P) (spots me (b + size P) y Q) (spots_act b x P laid.1.0 s.1.0) (spots_act (b + size P) y Q laid.1.1 s.1.1)
  spots_act b (Branch true x) (IfLead i g others P Q) laid s = spots_act b x P laid.1.0 s.1
  spots_act b (Branch false x) (IfLead i g others P Q) laid s = spots_act (b + size P) x Q laid.1.1 s.1
  spots_act b (Branch true x) (IfFollow i leader P Q) laid s = spots_act b x P laid.1.0 s.1
  spots_act b (Branch false x) (IfFollow i leader P Q) laid s = spots_act (b + size P) x Q laid.1.1 s.1
  spots_act b (Body x) (WhileLead i g others P) laid s = spots_act b x P laid.1 s.1
  spots_act b (Body x) (WhileFollow i leader P) laid s = spots_act b x P laid.1 s.1
  spots_act b (Body x) (ScopeLead head others P) laid s = spots_act b x P laid.1 s.1
  spots_act b (Body x) (ScopeFollow i leader P) laid s = spots_act b x P laid.1 s.1
  spots_act b (First x) P laid s = refl
  spots_act b (Second x) P laid s = refl
  spots_act b (Both x y) P laid s = refl
  spots_act b (Branch t x) P laid s = refl
  spots_act b (Body x) P laid s = refl
  spots_act b x P laid s = lone b x P laid.0 (ap (λ m. is_leaf m P) s.0)

  -- of a part of the code, where the marks say its status
  pub part-acts : (n : ℕ) (W : Process) → IsCodeOf code n W → (hs : List Hole) (P : Process) (b : ℕ) → PathAt 0 b hs P → top_static hs P ≡ W
      → (x : Status) → Stands me marks b x P → list_all acts_itself (places_of (spots me b x P)) ≡ true
  part-acts n W laid hs P b p e x stands =
      list_all-map acts_itself (λ s. s.place) (spots me b x P) ∙ spots_act b x P (part-laid code n W laid hs P b p e) stands

  -- of the whole
  pub whole-acts : (n : ℕ) (W : Process) → IsCodeOf code n W → IsKept me marks W → list_all acts_itself (active me marks W) ≡ true
  whole-acts n W laid k = part-acts n W laid [] W 0 refl refl (kept marks 0 W) k.stands

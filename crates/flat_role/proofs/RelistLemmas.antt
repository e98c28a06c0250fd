-- The acts of places that stand in a list, and a list from before that has some of them.
use Rattle.std.proofs.Common.{◌≡◌, ◌+◌, ◌-◌, ◌<◌, ◌≤◌, ℕ, List, [], ◌∷◌, ◌++◌, length, map, take, drop, get_or, ap, ap₂, ◌∙◌, sym, arith, append-nil}
use Rattle.std.specs.List.{between}
use Rattle.std.proofs.lemmas.List.{drop_more, map-append, take_more}
use Rattle.std.proofs.lemmas.List.Edits.{between_more, split_between}
use Rattle.dioc_terms.specs.declared.entries.Act.{Act}
use Rattle.role_statuses.specs.Spots.{Spot, acts_of}
use Rattle.role_statuses.proofs.SpotLemmas.{acts-append}

module _ (here : ℕ → Spot) where
  abbrev pub acts_there : List ℕ → List Act
  acts_there ps = acts_of (map here ps)

  acts_both : (ps qs : List ℕ) → acts_there (ps ++ qs) ≡ acts_there ps ++ acts_there qs
  acts_both ps qs = ap acts_of (map-append here ps qs) ∙ acts-append (map here ps) (map here qs)

  acts_one_more : (ps : List ℕ) (p : ℕ) → acts_there (ps ++ p ∷ []) ≡ acts_there ps ++ (here p).acts
  acts_one_more ps p = acts_both ps (p ∷ []) ∙ ap (λ acts. acts_there ps ++ acts) (append-nil (here p).acts)

  -- one act more at the front is that of one place more
  pub front_more : (acts : List Act) (ps : List ℕ) (i : ℕ) (a : Act) → i < length acts → i < length ps → a ≡ get_or acts i a
      → (here (get_or ps i 0)).acts ≡ a ∷ [] → take i acts ≡ acts_there (take i ps) → take (i + 1) acts ≡ acts_there (take (i + 1) ps)
  front_more acts ps i a inside there is just same =
      take_more acts i a inside ∙ ap₂ (λ xs x. xs ++ x ∷ []) same (sym is) ∙ ap (λ xs. acts_there (take i ps) ++ xs) (sym just)
      ∙ sym (ap acts_there (take_more ps i 0 there) ∙ acts_one_more (take i ps) (get_or ps i 0))

  -- and so it is at the back
  pub back_more : (acts : List Act) (ps : List ℕ) (i j k : ℕ) (a : Act) → j + 1 + i ≡ length acts → k + 1 + i ≡ length ps → a ≡ get_or acts j a
      → (here (get_or ps k 0)).acts ≡ a ∷ [] → drop (length acts - i) acts ≡ acts_there (drop (length ps - i) ps)
      → drop (length acts - (i + 1)) acts ≡ acts_there (drop (length ps - (i + 1)) ps)
  back_more acts ps i j k a last there is just same =
      let here_j : length acts - (i + 1) ≡ j = omega (arith, last) in
      let next_j : length acts - i ≡ j + 1 = omega (arith, last) in
      let here_k : length ps - (i + 1) ≡ k = omega (arith, there) in
      let next_k : length ps - i ≡ k + 1 = omega (arith, there) in
      let inside : j < length acts = omega (arith, last) in
      let inside' : k < length ps = omega (arith, there) in
      let behind : drop (j + 1) acts ≡ acts_there (drop (k + 1) ps) =
      ap (λ n. drop n acts) (sym next_j) ∙ same ∙ ap (λ n. acts_there (drop n ps)) next_k in
      ap (λ n. drop n acts) here_j ∙ drop_more acts j a inside ∙ ap₂ (λ x xs. x ∷ xs) (sym is) behind
      ∙ ap (λ xs. xs ++ acts_there (drop (k + 1) ps)) (sym just)
      ∙ ap acts_there (sym (drop_more ps k 0 inside')) ∙ ap (λ n. acts_there (drop n ps)) (sym here_k)

  -- the acts of some places, with those of one place more
  pub between_acts_more : (ps : List ℕ) (from i : ℕ) → from ≤ i → i < length ps
      → acts_there (between from (i + 1) ps) ≡ acts_there (between from i ps) ++ (here (get_or ps i 0)).acts
  between_acts_more ps from i order inside =
      ap acts_there (between_more ps from i 0 order inside) ∙ acts_one_more (between from i ps) (get_or ps i 0)

  -- the acts at the front, between and at the back are those of all places
  pub acts_split : (ps : List ℕ) (i j : ℕ) → i ≤ j
      → acts_there (take i ps) ++ (acts_there (between i j ps) ++ acts_there (drop j ps)) ≡ acts_there ps
  acts_split ps i j order =
      ap (λ xs. acts_there (take i ps) ++ xs) (sym (acts_both (between i j ps) (drop j ps)))
      ∙ sym (acts_both (take i ps) (between i j ps ++ drop j ps))
      ∙ ap acts_there (sym (split_between ps i j order))

-- Indices that are each new where they are met are distinct.
use Rattle.std.proofs.Common.{◌≡◌, refl, sym, ap, ◌∙◌, List, [], ◌∷◌, ◌++◌, Bool, true, false, ◌&&◌, ◌||◌, not, append_assoc}
use Rattle.std.proofs.lemmas.List.{append-nil}
use Rattle.std.proofs.lemmas.List.Folds.{list_any-append}
use Rattle.dioc_terms.specs.declared.names.Index.{Index}
use Rattle.dioc_terms.specs.Equality.{index_eq}
use Rattle.dioc_terms.specs.EqualityLemmas.{index_eq-decides}
use Rattle.index_marks.specs.Indices.{is_among, are_distinct, are_new}

and-assoc : (a b c : Bool) → (a && (b && c)) ≡ ((a && b) && c)
and-assoc true b c = refl
and-assoc false b c = refl

-- two lists are new where the first is, and the second is behind it
pub new_append : (seen is js : List Index) → are_new seen (is ++ js) ≡ (are_new seen is && are_new (seen ++ is) js)
new_append seen [] js = ap (λ l. are_new l js) (sym (append-nil seen))
new_append seen (i ∷ is) js =
    ap (λ b. not (is_among i seen) && b) (new_append (seen ++ i ∷ []) is js ∙ ap (λ l. are_new (seen ++ i ∷ []) is && are_new l js) (append_assoc seen (i ∷ []) is))
    ∙ and-assoc (not (is_among i seen)) (are_new (seen ++ i ∷ []) is) (are_new (seen ++ i ∷ is) js)

index_eq-symmetric : (i j : Index) → index_eq i j ≡ index_eq j i
index_eq-symmetric i j = both (index_eq i j) (index_eq j i) (λ h. (index_eq-decides j i).1 (sym ((index_eq-decides i j).0 h))) (λ h. (index_eq-decides i j).1 (sym ((index_eq-decides j i).0 h)))
  where
    both : (s t : Bool) → (s ≡ true → t ≡ true) → (t ≡ true → s ≡ true) → s ≡ t
    both true t f g = sym (f refl)
    both false true f g = g refl
    both false false f g = refl

-- none of these is among the seen ones
abbrev none_seen : List Index → List Index → Bool
none_seen seen [] = true
none_seen seen (i ∷ is) = not (is_among i seen) && none_seen seen is

none_seen-nothing : (is : List Index) → none_seen [] is ≡ true
none_seen-nothing [] = refl
none_seen-nothing (i ∷ is) = none_seen-nothing is

none_seen-more : (seen : List Index) (i : Index) (is : List Index) → none_seen (seen ++ i ∷ []) is ≡ (not (is_among i is) && none_seen seen is)
none_seen-more seen i [] = refl
none_seen-more seen i (j ∷ is) =
    ap (λ b. not b && none_seen (seen ++ i ∷ []) is) (list_any-append (index_eq j) seen (i ∷ []))
    ∙ ap (λ b. not (is_among j seen || (b || false)) && none_seen (seen ++ i ∷ []) is) (index_eq-symmetric j i)
    ∙ ap (λ b. not (is_among j seen || (index_eq i j || false)) && b) (none_seen-more seen i is)
    ∙ shuffled (is_among j seen) (index_eq i j) (is_among i is) (none_seen seen is)
  where
    shuffled : (a b c d : Bool) → (not (a || (b || false)) && (not c && d)) ≡ (not (b || c) && (not a && d))
    shuffled true true c d = refl
    shuffled true false true d = refl
    shuffled true false false d = refl
    shuffled false true c d = refl
    shuffled false false true d = refl
    shuffled false false false d = refl

are_new-split : (seen is : List Index) → are_new seen is ≡ (none_seen seen is && are_distinct is)
are_new-split seen [] = refl
are_new-split seen (i ∷ is) =
    ap (λ b. not (is_among i seen) && b) (are_new-split (seen ++ i ∷ []) is ∙ ap (λ b. b && are_distinct is) (none_seen-more seen i is))
    ∙ shuffled (not (is_among i seen)) (not (is_among i is)) (none_seen seen is) (are_distinct is)
  where
    shuffled : (a b c d : Bool) → (a && ((b && c) && d)) ≡ ((a && c) && (b && d))
    shuffled true true c d = refl
    shuffled true false true d = refl
    shuffled true false false d = refl
    shuffled false b c d = refl

-- where nothing has been seen before, the new ones are the distinct ones
pub new_distinct : (is : List Index) → are_new [] is ≡ are_distinct is
new_distinct is = are_new-split [] is ∙ ap (λ b. b && are_distinct is) (none_seen-nothing is)

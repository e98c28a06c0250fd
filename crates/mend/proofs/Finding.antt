-- The first of some names that passes, in lists one after the other.
use Rattle.std.proofs.Common.{◌≡◌, ℕ, List, [], ◌∷◌, ◌++◌}
use Rattle.std.specs.Prelude.{find}
use Rattle.std.specs.Option.{option_or}
use Rattle.std.proofs.lemmas.List.Folds.{find-append}
use Rattle.mend.specs.Names.{begins_sq}

pub found_in_both : (xs ys : List (List ℕ)) → find begins_sq (xs ++ ys) ≡ option_or (find begins_sq xs) (find begins_sq ys)
found_in_both xs ys = find-append begins_sq xs ys

pub found_first : (x : List ℕ) (xs : List (List ℕ)) → find begins_sq (x ∷ xs) ≡ option_or (find begins_sq (x ∷ [])) (find begins_sq xs)
found_first x xs = find-append begins_sq (x ∷ []) xs

-- Lists that are gone over place by place, as far as the shorter one reaches.
use Rattle.std.proofs.Common.{◌≡◌, ◌<◌, ◌+◌, ℕ, zero, suc, Bool, true, false, ◌&&◌, ◌||◌, List, [], ◌∷◌, ◌++◌, cond, filter, length, get_or, set, take, refl, sym, ap, ap₂, ◌∙◌, arith}
use Rattle.std.proofs.lemmas.List.Elements.{filter-append}
use Rattle.dioc_terms.specs.declared.names.Role.{Role}
use Rattle.projection.specs.Named.{flagged, raised}

pub none_yet : (bs : List Bool) → bs ≡ raised [] bs
none_yet [] = refl
none_yet (b ∷ bs) = refl

raised_suc : (ms bs : List Bool) (i : ℕ) → i < length ms → i < length bs
    → set (raised (take i ms) bs) i (get_or (raised (take i ms) bs) i false || get_or ms i false) ≡ raised (take (suc i) ms) bs
raised_suc [] bs i within inside = absurd (omega (arith, within))
raised_suc (m ∷ ms) [] i within inside = absurd (omega (arith, inside))
raised_suc (m ∷ ms) (b ∷ bs) zero within inside = ap (λ xs. (b || m) ∷ xs) (none_yet bs)
raised_suc (m ∷ ms) (b ∷ bs) (suc i) within inside = ap (λ xs. (b || m) ∷ xs) (raised_suc ms bs i (omega (arith, within)) (omega (arith, inside)))

-- one more flag is raised, or stays
pub raised_next : (ms bs now : List Bool) (i : ℕ) (flag : Bool) → i < length ms → i < length bs → now ≡ raised (take i ms) bs → flag ≡ (get_or now i false || get_or ms i false)
    → set now i flag ≡ raised (take (i + 1) ms) bs
raised_next ms bs now i flag within inside so_far is =
    let more : suc i ≡ i + 1 = omega arith in
    ap₂ (λ (l : List Bool) (b : Bool). set l i b) so_far (is ∙ ap (λ l. get_or l i false || get_or ms i false) so_far)
    ∙ raised_suc ms bs i within inside ∙ ap (λ n. raised (take n ms) bs) more

pub raised_all : (ms bs : List Bool) (n : ℕ) → ((i : ℕ) → i < length ms → i < length bs → i < n) → raised (take n ms) bs ≡ raised ms bs
raised_all [] [] zero far = refl
raised_all [] [] (suc n) far = refl
raised_all [] (b ∷ bs) zero far = refl
raised_all [] (b ∷ bs) (suc n) far = refl
raised_all (m ∷ ms) [] n far = refl
raised_all (m ∷ ms) (b ∷ bs) zero far = let bad : 0 < 0 = far 0 (omega arith) (omega arith) in absurd (omega (arith, bad))
raised_all (m ∷ ms) (b ∷ bs) (suc n) far =
    ap (λ xs. (b || m) ∷ xs) (raised_all ms bs n (λ i within inside. let next : suc i < suc n = far (suc i) (omega (arith, within)) (omega (arith, inside)) in omega (arith, next)))

flagged_suc : (qs : List Role) (bs : List Bool) (i : ℕ) (q : Role) → i < length qs → i < length bs
    → flagged (take (suc i) qs) bs ≡ flagged (take i qs) bs ++ cond (get_or bs i false) (get_or qs i q ∷ []) []
flagged_suc [] bs i q within inside = absurd (omega (arith, within))
flagged_suc (r ∷ rs) [] i q within inside = absurd (omega (arith, inside))
flagged_suc (r ∷ rs) (b ∷ bs) zero q within inside = first b
  where
    first : (t : Bool) → cond t (r ∷ []) [] ≡ [] ++ cond t (r ∷ []) []
    first true = refl
    first false = refl
flagged_suc (r ∷ rs) (b ∷ bs) (suc i) q within inside = go b (flagged_suc rs bs i q (omega (arith, within)) (omega (arith, inside)))
  where
    go : (t : Bool) → flagged (take (suc i) rs) bs ≡ flagged (take i rs) bs ++ cond (get_or bs i false) (get_or rs i q ∷ []) []
        → cond t (r ∷ flagged (take (suc i) rs) bs) (flagged (take (suc i) rs) bs)
        ≡ cond t (r ∷ flagged (take i rs) bs) (flagged (take i rs) bs) ++ cond (get_or bs i false) (get_or rs i q ∷ []) []
    go true h = ap (λ l. r ∷ l) h
    go false h = h

-- one more role is kept where its flag is raised
pub flagged_next : (qs : List Role) (bs : List Bool) (i : ℕ) (q : Role) (kept kept' : List Role) → i < length qs → i < length bs → q ≡ get_or qs i q → kept ≡ flagged (take i qs) bs
    → kept' ≡ kept ++ cond (get_or bs i false) (q ∷ []) [] → kept' ≡ flagged (take (i + 1) qs) bs
flagged_next qs bs i q kept kept' within inside here so_far added =
    let more : suc i ≡ i + 1 = omega arith in
    added ∙ ap₂ (λ (l : List Role) (r : Role). l ++ cond (get_or bs i false) (r ∷ []) []) so_far here
    ∙ sym (flagged_suc qs bs i q within inside) ∙ ap (λ n. flagged (take n qs) bs) more

-- and where it passes a test too
pub passed_next : (p : Role → Bool) (qs : List Role) (bs : List Bool) (i : ℕ) (q : Role) (kept kept' : List Role) → i < length qs → i < length bs → q ≡ get_or qs i q
    → kept ≡ filter p (flagged (take i qs) bs) → kept' ≡ kept ++ cond (get_or bs i false && p q) (q ∷ []) [] → kept' ≡ filter p (flagged (take (i + 1) qs) bs)
passed_next p qs bs i q kept kept' within inside here so_far added =
    added ∙ ap₂ (λ (l m : List Role). l ++ m) so_far (go (get_or bs i false) (p q) refl) ∙ sym (filter-append p (flagged (take i qs) bs) (cond (get_or bs i false) (q ∷ []) []))
    ∙ ap (filter p) (flagged_next qs bs i q (flagged (take i qs) bs) _ within inside here refl refl)
  where
    go : (b t : Bool) → t ≡ p q → cond (b && t) (q ∷ []) [] ≡ filter p (cond b (q ∷ []) [])
    go true t h = ap (λ s. cond s (q ∷ []) []) h
    go false t h = refl

pub flagged_all : (qs : List Role) (bs : List Bool) (n : ℕ) → ((i : ℕ) → i < length qs → i < length bs → i < n) → flagged (take n qs) bs ≡ flagged qs bs
flagged_all [] bs zero far = refl
flagged_all [] bs (suc n) far = refl
flagged_all (q ∷ qs) [] zero far = refl
flagged_all (q ∷ qs) [] (suc n) far = refl
flagged_all (q ∷ qs) (b ∷ bs) zero far = let bad : 0 < 0 = far 0 (omega arith) (omega arith) in absurd (omega (arith, bad))
flagged_all (q ∷ qs) (b ∷ bs) (suc n) far =
    ap (λ l. cond b (q ∷ l) l) (flagged_all qs bs n (λ i within inside. let next : suc i < suc n = far (suc i) (omega (arith, within)) (omega (arith, inside)) in omega (arith, next)))

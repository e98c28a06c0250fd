-- Lists of items, each with the number of its owner, and claims: a number with the items that are
-- its own.
use Rattle.std.specs.Prelude.{◌≡◌, ℕ, ◌+◌, ◌<◌, ◌≤◌, List, [], ◌∷◌, ◌++◌, length, ◌==◌, cond, filter}
use Rattle.turn_lock.specs.declared.views.Claim.{Claim}

module _ {A : Type 0} where
  -- f of each, added up
  abbrev pub total : (A → ℕ) → List A → ℕ
  total f [] = 0
  total f (x ∷ xs) = f x + total f xs

  abbrev pub Each : (A → Type 0) → List A → Type 0
  Each P [] = Unit {0}
  Each P (x ∷ xs) = P x × Each P xs

abbrev pub one_if : ℕ → ℕ → ℕ
one_if m n = cond (m == n) 1 0

module _ {I : Type 0} where
  -- the items of the owner n, in their order
  abbrev pub items_of : (I → ℕ) → ℕ → List I → List I
  items_of owner n items = filter (λ x. owner x == n) items

  abbrev pub BeginsWith : List I → List I → Type 0
  BeginsWith items seen = (rest : List I) × (items ≡ seen ++ rest)

  abbrev pub claim : ℕ → List I → Claim I
  claim n mine = record { number = n; mine = mine }

  -- the items of the claim's number are those of the claim
  abbrev pub IsOwn : (I → ℕ) → List I → Claim I → Type 0
  IsOwn owner items c = items_of owner c.number items ≡ c.mine

  -- the same of the one claim, where there is just one
  abbrev pub IsOwnOfOne : (I → ℕ) → List I → List (Claim I) → Type 0
  IsOwnOfOne owner items cs =
      (n : ℕ) (mine : List I) → cs ≡ claim n mine ∷ [] → items_of owner n items ≡ mine

  -- the owner of each item is n
  abbrev pub IsAllOf : (I → ℕ) → ℕ → List I → Type 0
  IsAllOf owner n [] = Unit {0}
  IsAllOf owner n (x ∷ xs) = (owner x ≡ n) × IsAllOf owner n xs

  -- how many of the claims are of the number n
  abbrev pub times : ℕ → List (Claim I) → ℕ
  times n cs = total (λ (c : Claim I). one_if c.number n) cs

  -- Each item is in one claim, and each claim has the items of its number, in order
  pub record Shares (owner : I → ℕ) (items : List I) (cs : List (Claim I)) : Type 0 where
    pub each : Each (IsOwn owner items) cs
    pub once : (n : ℕ) → n < length cs → times n cs ≡ 1
    pub none : (n : ℕ) → length cs ≤ n → items_of owner n items ≡ []

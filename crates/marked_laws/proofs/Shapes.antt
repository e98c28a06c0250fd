-- Equal options and lists: what they hold is equal, and full ones are not empty.
use Rattle.std.proofs.Common.{◌≡◌, List, [], ◌∷◌, Bool, true, false, if◌then◌else◌, Some, None, refl, sym}

pub none_some : {A : Type 0} {a : A} → None ≡ Some a → ⊥
none_some e = cc

pub some_same : {A : Type 0} {a b : A} → Some a ≡ Some b → a ≡ b
some_same e = cc

pub some_nil : {A : Type 0} {x : A} {xs : List A} → x ∷ xs ≡ [] → ⊥
some_nil e = cc

pub same_head : {A : Type 0} {x y : A} {xs ys : List A} → x ∷ xs ≡ y ∷ ys → (x ≡ y) × (xs ≡ ys)
same_head h = (cc, cc)

-- what is there only where a test holds
pub if_some : {A : Type 0} (t : Bool) (a : A) {c : A} → (if t then Some a else None) ≡ Some c → (t ≡ true) × (c ≡ a)
if_some true a h = (refl, sym (some_same h))
if_some false a h = absurd (none_some h)

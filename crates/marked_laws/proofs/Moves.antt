-- What is known of the parts of a move that is done.
use Rattle.std.proofs.Common.{◌≡◌, Bool, true, false, refl, ap}
use Rattle.dioc_terms.specs.Attempts.{Attempt, Stuck, Does, under, when}

pub does_same : {D A : Type 0} {d e : D} {a b : A} → Does d a ≡ Does e b → (d ≡ e) × (a ≡ b)
does_same h = (cc, cc)

pub stuck_does : {D A : Type 0} {d : D} {a : A} → Stuck ≡ Does d a → ⊥
stuck_does h = cc

pub when_does : {D A : Type 0} (t : Bool) (m : Attempt D A) {d : D} {a : A} → when t m ≡ Does d a → (t ≡ true) × (m ≡ Does d a)
when_does true m h = (refl, h)
when_does false m h = absurd (stuck_does h)

pub when_true : {D A : Type 0} (t : Bool) (m : Attempt D A) → t ≡ true → when t m ≡ m
when_true true m h = refl
when_true false m h = cc

pub when_false : {D A : Type 0} (t : Bool) (m : Attempt D A) → t ≡ false → when t m ≡ Stuck
when_false true m h = cc
when_false false m h = refl

pub under_does : {D A B : Type 0} (f : A → B) (m : Attempt D A) {d : D} {b : B} → under f m ≡ Does d b → (a : A) × (m ≡ Does d a) × (f a ≡ b)
under_does f Stuck h = absurd (stuck_does h)
under_does f (Does d a) h = (a, ap (λ e. Does e a) (does_same h).0, (does_same h).1)

-- what is put around a move twice
pub under_twice : {D A B C : Type 0} (f : A → B) (g : B → C) (m : Attempt D A) → under g (under f m) ≡ under (λ a. g (f a)) m
under_twice f g Stuck = refl
under_twice f g (Does d a) = refl

pub under_same : {D A B : Type 0} (f g : A → B) (m : Attempt D A) → ((a : A) → f a ≡ g a) → under f m ≡ under g m
under_same f g Stuck h = refl
under_same f g (Does d a) h = ap (Does d) (h a)

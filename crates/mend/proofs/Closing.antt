-- Closing and opening a construct, by the role that tells of it or begins it.
use Rattle.std.proofs.Common.{◌≡◌, false, Some, None, refl, ap}
use Rattle.dioc_terms.specs.declared.names.Role.{Role}
use Rattle.dioc_terms.specs.Equality.{role_eq}
use Rattle.dioc_terms.specs.Terms.{Term, Skip, Com, Set, Input, Seq, Par, If, While, Scope, is_in}
use Rattle.mend.specs.Building.{teller, beginner, is_pair, is_joint}
use Rattle.mend.specs.Mended.{told, led_in, closed, opened}

some_same : {A : Type 0} {x y : A} → Some x ≡ Some y → x ≡ y
some_same h = cc

pub closed_told : (k r : Role) (I : Term) → is_joint I ≡ false → teller I ≡ Some r → closed k I ≡ told (is_in k I) I r k
closed_told k r Skip h is = cc
closed_told k r (Com i o a e b x) h is = ap (λ s. told (is_in k (Com i o a e b x)) (Com i o a e b x) s k) (some_same is)
closed_told k r (Set i x s e) h is = ap (λ t. told (role_eq k s) (Set i x s e) t k) (some_same is)
closed_told k r (Input i x s) h is = ap (λ t. told (role_eq k s) (Input i x s) t k) (some_same is)
closed_told k r (Seq I J) h is = cc
closed_told k r (Par I J) h is = cc
closed_told k r (If i s g I J) h is = cc
closed_told k r (While i s g I) h is = ap (λ t. told (is_in k (While i s g I)) (While i s g I) t k) (some_same is)
closed_told k r (Scope i s I extra props level) h is =
    ap (λ t. told (is_in k (Scope i s I extra props level)) (Scope i s I extra props level) t k) (some_same is)

pub closed_none : (k : Role) (I : Term) → is_joint I ≡ false → teller I ≡ None → closed k I ≡ I
closed_none k Skip h is = refl
closed_none k (Com i o a e b x) h is = cc
closed_none k (Set i x r e) h is = cc
closed_none k (Input i x r) h is = cc
closed_none k (Seq I J) h is = cc
closed_none k (Par I J) h is = cc
closed_none k (If i r g I J) h is = cc
closed_none k (While i r g I) h is = cc
closed_none k (Scope i r I extra props level) h is = cc

pub opened_asked : (k r : Role) (I : Term) → is_pair I ≡ false → beginner I ≡ Some r → opened k I ≡ led_in (role_eq k r) I r k
opened_asked k r Skip h is = cc
opened_asked k r (Com i o a e b x) h is = ap (λ s. led_in (role_eq k s) (Com i o a e b x) s k) (some_same is)
opened_asked k r (Set i x s e) h is = ap (λ t. led_in (role_eq k t) (Set i x s e) t k) (some_same is)
opened_asked k r (Input i x s) h is = ap (λ t. led_in (role_eq k t) (Input i x s) t k) (some_same is)
opened_asked k r (Seq I J) h is = cc
opened_asked k r (Par I J) h is = cc
opened_asked k r (If i s g I J) h is = ap (λ t. led_in (role_eq k t) (If i s g I J) t k) (some_same is)
opened_asked k r (While i s g I) h is = ap (λ t. led_in (role_eq k t) (While i s g I) t k) (some_same is)
opened_asked k r (Scope i s I extra props level) h is = ap (λ t. led_in (role_eq k t) (Scope i s I extra props level) t k) (some_same is)

pub opened_none : (k : Role) (I : Term) → is_pair I ≡ false → beginner I ≡ None → opened k I ≡ I
opened_none k Skip h is = refl
opened_none k (Com i o a e b x) h is = cc
opened_none k (Set i x r e) h is = cc
opened_none k (Input i x r) h is = cc
opened_none k (Seq I J) h is = cc
opened_none k (Par I J) h is = cc
opened_none k (If i r g I J) h is = cc
opened_none k (While i r g I) h is = cc
opened_none k (Scope i r I extra props level) h is = cc

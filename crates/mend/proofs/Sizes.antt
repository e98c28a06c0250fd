-- How building grows a term, and how far.
use Rattle.std.proofs.Common.{suc, ◌+◌, ◌≤◌, List, Bool, true, false, ◌&&◌, Option, Some, None, arith}
use Rattle.std.proofs.lemmas.Bool.{cond_both}
use Rattle.dioc_terms.specs.declared.names.Role.{Role}
use Rattle.dioc_terms.specs.Equality.{role_eq}
use Rattle.dioc_terms.specs.Terms.{Term, Skip, Com, Set, Input, Seq, Par, If, While, Scope, empty, is_in, nodes}
use Rattle.connectedness.specs.Connected.{linked}
use Rattle.mend.specs.Mended.{told, led_in, closed, opened, first_starter, through, join, relinked}

told-grows : (t : Bool) (W : Term) (r k : Role) → nodes W ≤ nodes (told t W r k)
told-grows true W r k = omega arith
told-grows false W r k = omega arith

asked-grows : (t : Bool) (W : Term) (r k : Role) → nodes W ≤ nodes (led_in t W r k)
asked-grows true W r k = omega arith
asked-grows false W r k = omega arith

pub closed_grows : (k : Role) (I : Term) → nodes I ≤ nodes (closed k I)
closed_grows k Skip = omega arith
closed_grows k (Com i o a e b x) = told-grows (is_in k (Com i o a e b x)) (Com i o a e b x) b k
closed_grows k (Set i x r e) = told-grows (role_eq k r) (Set i x r e) r k
closed_grows k (Input i x r) = told-grows (role_eq k r) (Input i x r) r k
closed_grows k (Seq I J) = cond_both (empty J) (Seq (closed k I) J) (Seq I (closed k J)) (λ T. suc (nodes I + nodes J) ≤ nodes T)
    (λ yes. let one : nodes I ≤ nodes (closed k I) = closed_grows k I in omega (arith, one))
    (λ no. let one : nodes J ≤ nodes (closed k J) = closed_grows k J in omega (arith, one))
closed_grows k (Par I J) =
    let one : nodes I ≤ nodes (closed k I) = closed_grows k I in
    let other : nodes J ≤ nodes (closed k J) = closed_grows k J in
    omega (arith, one, other)
closed_grows k (If i r g I J) =
    cond_both (empty I && empty J) (told (is_in k (If i r g I J)) (If i r g I J) r k) (If i r g (closed k I) (closed k J)) (λ T. suc (nodes I + nodes J) ≤ nodes T)
    (λ yes. told-grows (is_in k (If i r g I J)) (If i r g I J) r k)
    (λ no.
    let one : nodes I ≤ nodes (closed k I) = closed_grows k I in
    let other : nodes J ≤ nodes (closed k J) = closed_grows k J in
    omega (arith, one, other))
closed_grows k (While i r g I) = told-grows (is_in k (While i r g I)) (While i r g I) r k
closed_grows k (Scope i r I extra props level) = told-grows (is_in k (Scope i r I extra props level)) (Scope i r I extra props level) r k

pub opened_grows : (k : Role) (I : Term) → nodes I ≤ nodes (opened k I)
opened_grows k Skip = omega arith
opened_grows k (Com i o a e b x) = asked-grows (role_eq k a) (Com i o a e b x) a k
opened_grows k (Set i x r e) = asked-grows (role_eq k r) (Set i x r e) r k
opened_grows k (Input i x r) = asked-grows (role_eq k r) (Input i x r) r k
opened_grows k (Seq I J) = cond_both (empty I) (Seq I (opened k J)) (Seq (opened k I) J) (λ T. suc (nodes I + nodes J) ≤ nodes T)
    (λ yes. let one : nodes J ≤ nodes (opened k J) = opened_grows k J in omega (arith, one))
    (λ no. let one : nodes I ≤ nodes (opened k I) = opened_grows k I in omega (arith, one))
opened_grows k (Par I J) =
    let one : nodes I ≤ nodes (opened k I) = opened_grows k I in
    let other : nodes J ≤ nodes (opened k J) = opened_grows k J in
    omega (arith, one, other)
opened_grows k (If i r g I J) = asked-grows (role_eq k r) (If i r g I J) r k
opened_grows k (While i r g I) = asked-grows (role_eq k r) (While i r g I) r k
opened_grows k (Scope i r I extra props level) = asked-grows (role_eq k r) (Scope i r I extra props level) r k

pub through_grows : (m : Option Role) (I J : Term) → suc (nodes I + nodes J) ≤ nodes (through m I J)
through_grows None I J = omega arith
through_grows (Some k) I J =
    let one : nodes I ≤ nodes (closed k I) = closed_grows k I in
    let other : nodes J ≤ nodes (opened k J) = opened_grows k J in
    omega (arith, one, other)

pub join_grows : (cast : List Role) (I J : Term) → suc (nodes I + nodes J) ≤ nodes (join cast I J)
join_grows cast I J = cond_both (linked I J) (Seq I J) (through (first_starter cast J) I J) (λ T. suc (nodes I + nodes J) ≤ nodes T)
    (λ yes. omega arith) (λ no. through_grows (first_starter cast J) I J)

pub relinked_grows : (cast : List Role) (I : Term) → nodes I ≤ nodes (relinked cast I)
relinked_grows cast Skip = omega arith
relinked_grows cast (Com i o a e b x) = omega arith
relinked_grows cast (Set i x r e) = omega arith
relinked_grows cast (Input i x r) = omega arith
relinked_grows cast (Seq I J) =
    let one : nodes I ≤ nodes (relinked cast I) = relinked_grows cast I in
    let other : nodes J ≤ nodes (relinked cast J) = relinked_grows cast J in
    let both : suc (nodes (relinked cast I) + nodes (relinked cast J)) ≤ nodes (join cast (relinked cast I) (relinked cast J))
    = join_grows cast (relinked cast I) (relinked cast J) in
    omega (arith, one, other, both)
relinked_grows cast (Par I J) =
    let one : nodes I ≤ nodes (relinked cast I) = relinked_grows cast I in
    let other : nodes J ≤ nodes (relinked cast J) = relinked_grows cast J in
    omega (arith, one, other)
relinked_grows cast (If i r g I J) =
    let one : nodes I ≤ nodes (relinked cast I) = relinked_grows cast I in
    let other : nodes J ≤ nodes (relinked cast J) = relinked_grows cast J in
    omega (arith, one, other)
relinked_grows cast (While i r g I) = let one : nodes I ≤ nodes (relinked cast I) = relinked_grows cast I in omega (arith, one)
relinked_grows cast (Scope i r I extra props level) =
    let one : nodes I ≤ nodes (relinked cast I) = relinked_grows cast I in omega (arith, one)

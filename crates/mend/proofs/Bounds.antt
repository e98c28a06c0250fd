-- How large a mended choreography can be.
use Rattle.std.proofs.Common.{◌≡◌, ℕ, suc, ◌+◌, ◌*◌, ◌≤◌, List, Bool, true, false, ◌&&◌, if◌then◌else◌, Option, Some, None, refl, ap, ap₂, ◌∙◌, arith}
use Rattle.std.proofs.lemmas.Bool.{cond_both}
use Rattle.dioc_terms.specs.declared.names.Role.{Role}
use Rattle.dioc_terms.specs.Equality.{role_eq}
use Rattle.dioc_terms.specs.Terms.{Term, Skip, Com, Set, Input, Seq, Par, If, While, Scope, empty, is_in, nodes, indexed_from, constructs}
use Rattle.connectedness.specs.Connected.{linked}
use Rattle.mend.specs.Mended.{told, led_in, closed, opened, first_starter, through, join, relinked, added_messages, with_numbers, mended}
use Rattle.mend.proofs.Connecting.{closed-empty, opened-empty}

-- at how many places closing may add a message
abbrev ends : Term → ℕ
ends Skip = 0
ends (Com i o a e b x) = 1
ends (Set i x r e) = 1
ends (Input i x r) = 1
ends (Seq I J) = if empty J then ends I else ends J
ends (Par I J) = ends I + ends J
ends (If i r g I J) = if empty I && empty J then 1 else ends I + ends J
ends (While i r g I) = 1
ends (Scope i r I extra props level) = 1

-- at how many places opening may
abbrev starts : Term → ℕ
starts Skip = 0
starts (Com i o a e b x) = 1
starts (Set i x r e) = 1
starts (Input i x r) = 1
starts (Seq I J) = if empty I then starts J else starts I
starts (Par I J) = starts I + starts J
starts (If i r g I J) = 1
starts (While i r g I) = 1
starts (Scope i r I extra props level) = 1

one_of : (t : Bool) (m n : ℕ) → (if t then m else n) ≤ m + n
one_of true m n = omega arith
one_of false m n = omega arith

-- a construct and what closing or opening makes of it
told-ends : (t : Bool) (W : Term) (r k : Role) → ends W ≤ 1 → ends (told t W r k) ≤ 1
told-ends true W r k h = h
told-ends false W r k h = omega arith

asked-starts : (t : Bool) (W : Term) (r k : Role) → starts W ≤ 1 → starts (led_in t W r k) ≤ 1
asked-starts true W r k h = h
asked-starts false W r k h = omega arith

told-starts : (t : Bool) (W : Term) (r k : Role) → empty W ≡ false → starts W ≤ 1 → starts (told t W r k) ≤ 1
told-starts true W r k full h = h
told-starts false W r k full h = rw full h

asked-ends : (t : Bool) (W : Term) (r k : Role) (n : ℕ) → empty W ≡ false → ends W ≤ n → ends (led_in t W r k) ≤ n
asked-ends true W r k n full h = h
asked-ends false W r k n full h = rw full h

told-size : (t : Bool) (W : Term) (r k : Role) → nodes (told t W r k) ≤ nodes W + 2
told-size true W r k = omega arith
told-size false W r k = omega arith

asked-size : (t : Bool) (W : Term) (r k : Role) → nodes (led_in t W r k) ≤ nodes W + 2
asked-size true W r k = omega arith
asked-size false W r k = omega arith

-- a part exchanged for one that is no larger, at its place
either : (t u : Bool) (m n k l : ℕ) → t ≡ u → m ≤ k → n ≤ l → (if t then m else n) ≤ (if u then k else l)
either true u m n k l e h g = rw (← e) h
either false u m n k l e h g = rw (← e) g

closed-ends : (k : Role) (I : Term) → ends (closed k I) ≤ ends I
closed-ends k Skip = omega arith
closed-ends k (Com i o a e b x) = told-ends (is_in k (Com i o a e b x)) (Com i o a e b x) b k (omega arith)
closed-ends k (Set i x r e) = told-ends (role_eq k r) (Set i x r e) r k (omega arith)
closed-ends k (Input i x r) = told-ends (role_eq k r) (Input i x r) r k (omega arith)
closed-ends k (Seq I J) = cond_both (empty J) (Seq (closed k I) J) (Seq I (closed k J)) (λ T. ends T ≤ (if empty J then ends I else ends J))
    (λ yes. either (empty J) (empty J) (ends (closed k I)) (ends J) (ends I) (ends J) refl (closed-ends k I) (omega arith))
    (λ no. either (empty (closed k J)) (empty J) (ends I) (ends (closed k J)) (ends I) (ends J) (closed-empty k J) (omega arith) (closed-ends k J))
closed-ends k (Par I J) =
    let one : ends (closed k I) ≤ ends I = closed-ends k I in
    let other : ends (closed k J) ≤ ends J = closed-ends k J in
    omega (arith, one, other)
closed-ends k (If i r g I J) =
    cond_both (empty I && empty J) (told (is_in k (If i r g I J)) (If i r g I J) r k) (If i r g (closed k I) (closed k J))
    (λ T. ends T ≤ (if empty I && empty J then 1 else ends I + ends J))
    (λ yes. rw yes (told-ends (is_in k (If i r g I J)) (If i r g I J) r k (rw yes (omega arith))))
    (λ no.
    let one : ends (closed k I) ≤ ends I = closed-ends k I in
    let other : ends (closed k J) ≤ ends J = closed-ends k J in
    either (empty (closed k I) && empty (closed k J)) (empty I && empty J) 1 (ends (closed k I) + ends (closed k J)) 1 (ends I + ends J)
    (ap₂ (λ s t. s && t) (closed-empty k I) (closed-empty k J)) (omega arith) (omega (arith, one, other)))
closed-ends k (While i r g I) = told-ends (is_in k (While i r g I)) (While i r g I) r k (omega arith)
closed-ends k (Scope i r I extra props level) = told-ends (is_in k (Scope i r I extra props level)) (Scope i r I extra props level) r k (omega arith)

opened-starts : (k : Role) (I : Term) → starts (opened k I) ≤ starts I
opened-starts k Skip = omega arith
opened-starts k (Com i o a e b x) = asked-starts (role_eq k a) (Com i o a e b x) a k (omega arith)
opened-starts k (Set i x r e) = asked-starts (role_eq k r) (Set i x r e) r k (omega arith)
opened-starts k (Input i x r) = asked-starts (role_eq k r) (Input i x r) r k (omega arith)
opened-starts k (Seq I J) = cond_both (empty I) (Seq I (opened k J)) (Seq (opened k I) J) (λ T. starts T ≤ (if empty I then starts J else starts I))
    (λ yes. either (empty I) (empty I) (starts (opened k J)) (starts I) (starts J) (starts I) refl (opened-starts k J) (omega arith))
    (λ no. either (empty (opened k I)) (empty I) (starts J) (starts (opened k I)) (starts J) (starts I) (opened-empty k I) (omega arith) (opened-starts k I))
opened-starts k (Par I J) =
    let one : starts (opened k I) ≤ starts I = opened-starts k I in
    let other : starts (opened k J) ≤ starts J = opened-starts k J in
    omega (arith, one, other)
opened-starts k (If i r g I J) = asked-starts (role_eq k r) (If i r g I J) r k (omega arith)
opened-starts k (While i r g I) = asked-starts (role_eq k r) (While i r g I) r k (omega arith)
opened-starts k (Scope i r I extra props level) = asked-starts (role_eq k r) (Scope i r I extra props level) r k (omega arith)

-- each place gets one sequence and one message at most
closed-size : (k : Role) (I : Term) → nodes (closed k I) ≤ nodes I + 2 * ends I
closed-size k Skip = omega arith
closed-size k (Com i o a e b x) = told-size (is_in k (Com i o a e b x)) (Com i o a e b x) b k
closed-size k (Set i x r e) = told-size (role_eq k r) (Set i x r e) r k
closed-size k (Input i x r) = told-size (role_eq k r) (Input i x r) r k
closed-size k (Seq I J) = cond_both (empty J) (Seq (closed k I) J) (Seq I (closed k J)) (λ T. nodes T ≤ suc (nodes I + nodes J) + 2 * (if empty J then ends I else ends J))
    (λ yes. let one : nodes (closed k I) ≤ nodes I + 2 * ends I = closed-size k I in rw yes (omega (arith, one)))
    (λ no. let one : nodes (closed k J) ≤ nodes J + 2 * ends J = closed-size k J in rw no (omega (arith, one)))
closed-size k (Par I J) =
    let one : nodes (closed k I) ≤ nodes I + 2 * ends I = closed-size k I in
    let other : nodes (closed k J) ≤ nodes J + 2 * ends J = closed-size k J in
    omega (arith, one, other)
closed-size k (If i r g I J) =
    cond_both (empty I && empty J) (told (is_in k (If i r g I J)) (If i r g I J) r k) (If i r g (closed k I) (closed k J))
    (λ T. nodes T ≤ suc (nodes I + nodes J) + 2 * (if empty I && empty J then 1 else ends I + ends J))
    (λ yes. rw yes (told-size (is_in k (If i r g I J)) (If i r g I J) r k))
    (λ no.
    let one : nodes (closed k I) ≤ nodes I + 2 * ends I = closed-size k I in
    let other : nodes (closed k J) ≤ nodes J + 2 * ends J = closed-size k J in
    rw no (omega (arith, one, other)))
closed-size k (While i r g I) = told-size (is_in k (While i r g I)) (While i r g I) r k
closed-size k (Scope i r I extra props level) = told-size (is_in k (Scope i r I extra props level)) (Scope i r I extra props level) r k

opened-size : (k : Role) (I : Term) → nodes (opened k I) ≤ nodes I + 2 * starts I
opened-size k Skip = omega arith
opened-size k (Com i o a e b x) = asked-size (role_eq k a) (Com i o a e b x) a k
opened-size k (Set i x r e) = asked-size (role_eq k r) (Set i x r e) r k
opened-size k (Input i x r) = asked-size (role_eq k r) (Input i x r) r k
opened-size k (Seq I J) = cond_both (empty I) (Seq I (opened k J)) (Seq (opened k I) J) (λ T. nodes T ≤ suc (nodes I + nodes J) + 2 * (if empty I then starts J else starts I))
    (λ yes. let one : nodes (opened k J) ≤ nodes J + 2 * starts J = opened-size k J in rw yes (omega (arith, one)))
    (λ no. let one : nodes (opened k I) ≤ nodes I + 2 * starts I = opened-size k I in rw no (omega (arith, one)))
opened-size k (Par I J) =
    let one : nodes (opened k I) ≤ nodes I + 2 * starts I = opened-size k I in
    let other : nodes (opened k J) ≤ nodes J + 2 * starts J = opened-size k J in
    omega (arith, one, other)
opened-size k (If i r g I J) = asked-size (role_eq k r) (If i r g I J) r k
opened-size k (While i r g I) = asked-size (role_eq k r) (While i r g I) r k
opened-size k (Scope i r I extra props level) = asked-size (role_eq k r) (Scope i r I extra props level) r k

opened-ends : (k : Role) (I : Term) → ends (opened k I) ≤ ends I
opened-ends k Skip = omega arith
opened-ends k (Com i o a e b x) = asked-ends (role_eq k a) (Com i o a e b x) a k 1 refl (omega arith)
opened-ends k (Set i x r e) = asked-ends (role_eq k r) (Set i x r e) r k 1 refl (omega arith)
opened-ends k (Input i x r) = asked-ends (role_eq k r) (Input i x r) r k 1 refl (omega arith)
opened-ends k (Seq I J) = cond_both (empty I) (Seq I (opened k J)) (Seq (opened k I) J) (λ T. ends T ≤ (if empty J then ends I else ends J))
    (λ yes. either (empty (opened k J)) (empty J) (ends I) (ends (opened k J)) (ends I) (ends J) (opened-empty k J) (omega arith) (opened-ends k J))
    (λ no. either (empty J) (empty J) (ends (opened k I)) (ends J) (ends I) (ends J) refl (opened-ends k I) (omega arith))
opened-ends k (Par I J) =
    let one : ends (opened k I) ≤ ends I = opened-ends k I in
    let other : ends (opened k J) ≤ ends J = opened-ends k J in
    omega (arith, one, other)
opened-ends k (If i r g I J) = asked-ends (role_eq k r) (If i r g I J) r k (ends (If i r g I J)) refl (omega arith)
opened-ends k (While i r g I) = asked-ends (role_eq k r) (While i r g I) r k 1 refl (omega arith)
opened-ends k (Scope i r I extra props level) = asked-ends (role_eq k r) (Scope i r I extra props level) r k 1 refl (omega arith)

closed-starts : (k : Role) (I : Term) → starts (closed k I) ≤ starts I
closed-starts k Skip = omega arith
closed-starts k (Com i o a e b x) = told-starts (is_in k (Com i o a e b x)) (Com i o a e b x) b k refl (omega arith)
closed-starts k (Set i x r e) = told-starts (role_eq k r) (Set i x r e) r k refl (omega arith)
closed-starts k (Input i x r) = told-starts (role_eq k r) (Input i x r) r k refl (omega arith)
closed-starts k (Seq I J) = cond_both (empty J) (Seq (closed k I) J) (Seq I (closed k J)) (λ T. starts T ≤ (if empty I then starts J else starts I))
    (λ yes. either (empty (closed k I)) (empty I) (starts J) (starts (closed k I)) (starts J) (starts I) (closed-empty k I) (omega arith) (closed-starts k I))
    (λ no. either (empty I) (empty I) (starts (closed k J)) (starts I) (starts J) (starts I) refl (closed-starts k J) (omega arith))
closed-starts k (Par I J) =
    let one : starts (closed k I) ≤ starts I = closed-starts k I in
    let other : starts (closed k J) ≤ starts J = closed-starts k J in
    omega (arith, one, other)
closed-starts k (If i r g I J) =
    cond_both (empty I && empty J) (told (is_in k (If i r g I J)) (If i r g I J) r k) (If i r g (closed k I) (closed k J)) (λ T. starts T ≤ 1)
    (λ yes. told-starts (is_in k (If i r g I J)) (If i r g I J) r k refl (omega arith)) (λ no. omega arith)
closed-starts k (While i r g I) = told-starts (is_in k (While i r g I)) (While i r g I) r k refl (omega arith)
closed-starts k (Scope i r I extra props level) = told-starts (is_in k (Scope i r I extra props level)) (Scope i r I extra props level) r k refl (omega arith)

-- Joining
seq-ends : (I J : Term) → ends (Seq I J) ≤ ends I + ends J
seq-ends I J = one_of (empty J) (ends I) (ends J)

seq-starts : (I J : Term) → starts (Seq I J) ≤ starts J + starts I
seq-starts I J = one_of (empty I) (starts J) (starts I)

through-ends : (m : Option Role) (I J : Term) → ends (through m I J) ≤ ends I + ends J
through-ends None I J = seq-ends I J
through-ends (Some k) I J =
    let whole : ends (Seq (closed k I) (opened k J)) ≤ ends (closed k I) + ends (opened k J) = seq-ends (closed k I) (opened k J) in
    let one : ends (closed k I) ≤ ends I = closed-ends k I in
    let other : ends (opened k J) ≤ ends J = opened-ends k J in
    omega (arith, whole, one, other)

through-starts : (m : Option Role) (I J : Term) → starts (through m I J) ≤ starts J + starts I
through-starts None I J = seq-starts I J
through-starts (Some k) I J =
    let whole : starts (Seq (closed k I) (opened k J)) ≤ starts (opened k J) + starts (closed k I) = seq-starts (closed k I) (opened k J) in
    let one : starts (closed k I) ≤ starts I = closed-starts k I in
    let other : starts (opened k J) ≤ starts J = opened-starts k J in
    omega (arith, whole, one, other)

through-size : (m : Option Role) (I J : Term) → nodes (through m I J) ≤ suc (nodes I + nodes J) + (2 * ends I + 2 * starts J)
through-size None I J = omega arith
through-size (Some k) I J =
    let one : nodes (closed k I) ≤ nodes I + 2 * ends I = closed-size k I in
    let other : nodes (opened k J) ≤ nodes J + 2 * starts J = opened-size k J in
    omega (arith, one, other)

-- what is known of a joined term, from how many sequences the term has
record IsSmall (I A : Term) : Type 0 where
  few_ends : ends A ≤ nodes I
  few_starts : starts A ≤ nodes I

join-small : (cast : List Role) (I J A B : Term) → IsSmall I A → IsSmall J B → IsSmall (Seq I J) (join cast A B)
join-small cast I J A B one other = record {
  few_ends = cond_both (linked A B) (Seq A B) (through (first_starter cast B) A B) (λ T. ends T ≤ suc (nodes I + nodes J))
      (λ yes. let whole : ends (Seq A B) ≤ ends A + ends B = seq-ends A B in omega (arith, whole, one.few_ends, other.few_ends))
      (λ no. let whole : ends (through (first_starter cast B) A B) ≤ ends A + ends B = through-ends (first_starter cast B) A B in
      omega (arith, whole, one.few_ends, other.few_ends));
  few_starts = cond_both (linked A B) (Seq A B) (through (first_starter cast B) A B) (λ T. starts T ≤ suc (nodes I + nodes J))
      (λ yes. let whole : starts (Seq A B) ≤ starts B + starts A = seq-starts A B in omega (arith, whole, one.few_starts, other.few_starts))
      (λ no. let whole : starts (through (first_starter cast B) A B) ≤ starts B + starts A = through-starts (first_starter cast B) A B in
      omega (arith, whole, one.few_starts, other.few_starts));
}

choice-ends : (t : Bool) (m n : ℕ) → (if t then 1 else m + n) ≤ suc (m + n)
choice-ends true m n = omega arith
choice-ends false m n = omega arith

joined-small : (cast : List Role) (I : Term) → IsSmall I (relinked cast I)
joined-small cast Skip = record { few_ends = omega arith; few_starts = omega arith }
joined-small cast (Com i o a e b x) = record { few_ends = omega arith; few_starts = omega arith }
joined-small cast (Set i x r e) = record { few_ends = omega arith; few_starts = omega arith }
joined-small cast (Input i x r) = record { few_ends = omega arith; few_starts = omega arith }
joined-small cast (Seq I J) = join-small cast I J (relinked cast I) (relinked cast J) (joined-small cast I) (joined-small cast J)
joined-small cast (Par I J) =
    let one : IsSmall I (relinked cast I) = joined-small cast I in
    let other : IsSmall J (relinked cast J) = joined-small cast J in
    record { few_ends = omega (arith, one.few_ends, other.few_ends); few_starts = omega (arith, one.few_starts, other.few_starts) }
joined-small cast (If i r g I J) =
    let one : IsSmall I (relinked cast I) = joined-small cast I in
    let other : IsSmall J (relinked cast J) = joined-small cast J in
    let whole : ends (If i r g (relinked cast I) (relinked cast J)) ≤ suc (ends (relinked cast I) + ends (relinked cast J))
    = choice-ends (empty (relinked cast I) && empty (relinked cast J)) (ends (relinked cast I)) (ends (relinked cast J)) in
    record { few_ends = omega (arith, whole, one.few_ends, other.few_ends); few_starts = omega arith }
joined-small cast (While i r g I) = record { few_ends = omega arith; few_starts = omega arith }
joined-small cast (Scope i r I extra props level) = record { few_ends = omega arith; few_starts = omega arith }

-- how many sequences
abbrev sequences : Term → ℕ
sequences (Seq I J) = suc (sequences I + sequences J)
sequences (Par I J) = sequences I + sequences J
sequences (If i r g I J) = sequences I + sequences J
sequences (While i r g I) = sequences I
sequences (Scope i r I extra props level) = sequences I
sequences _ = 0

sequences-few : (I : Term) → sequences I ≤ nodes I
sequences-few Skip = omega arith
sequences-few (Com i o a e b x) = omega arith
sequences-few (Set i x r e) = omega arith
sequences-few (Input i x r) = omega arith
sequences-few (Seq I J) =
    let one : sequences I ≤ nodes I = sequences-few I in
    let other : sequences J ≤ nodes J = sequences-few J in
    omega (arith, one, other)
sequences-few (Par I J) =
    let one : sequences I ≤ nodes I = sequences-few I in
    let other : sequences J ≤ nodes J = sequences-few J in
    omega (arith, one, other)
sequences-few (If i r g I J) =
    let one : sequences I ≤ nodes I = sequences-few I in
    let other : sequences J ≤ nodes J = sequences-few J in
    omega (arith, one, other)
sequences-few (While i r g I) = let one : sequences I ≤ nodes I = sequences-few I in omega (arith, one)
sequences-few (Scope i r I extra props level) = let one : sequences I ≤ nodes I = sequences-few I in omega (arith, one)

-- each sequence of a term of at most 5,000 nodes grows by at most 20,000 nodes
join-size : (cast : List Role) (I J A B : Term) → nodes I + nodes J ≤ 5000 → IsSmall I A → IsSmall J B
    → nodes (join cast A B) ≤ suc (nodes A + nodes B) + 20000
join-size cast I J A B few one other = cond_both (linked A B) (Seq A B) (through (first_starter cast B) A B) (λ T. nodes T ≤ suc (nodes A + nodes B) + 20000)
    (λ yes. omega arith)
    (λ no. let whole : nodes (through (first_starter cast B) A B) ≤ suc (nodes A + nodes B) + (2 * ends A + 2 * starts B) = through-size (first_starter cast B) A B in
    omega (arith, whole, one.few_ends, other.few_starts))

joined-size : (cast : List Role) (I : Term) → nodes I ≤ 5000 → nodes (relinked cast I) ≤ nodes I + 20000 * sequences I
joined-size cast Skip few = omega arith
joined-size cast (Com i o a e b x) few = omega arith
joined-size cast (Set i x r e) few = omega arith
joined-size cast (Input i x r) few = omega arith
joined-size cast (Seq I J) few =
    let one : nodes (relinked cast I) ≤ nodes I + 20000 * sequences I = joined-size cast I (omega arith) in
    let other : nodes (relinked cast J) ≤ nodes J + 20000 * sequences J = joined-size cast J (omega arith) in
    let whole : nodes (join cast (relinked cast I) (relinked cast J)) ≤ suc (nodes (relinked cast I) + nodes (relinked cast J)) + 20000
    = join-size cast I J (relinked cast I) (relinked cast J) (omega arith) (joined-small cast I) (joined-small cast J) in
    omega (arith, one, other, whole)
joined-size cast (Par I J) few =
    let one : nodes (relinked cast I) ≤ nodes I + 20000 * sequences I = joined-size cast I (omega arith) in
    let other : nodes (relinked cast J) ≤ nodes J + 20000 * sequences J = joined-size cast J (omega arith) in
    omega (arith, one, other)
joined-size cast (If i r g I J) few =
    let one : nodes (relinked cast I) ≤ nodes I + 20000 * sequences I = joined-size cast I (omega arith) in
    let other : nodes (relinked cast J) ≤ nodes J + 20000 * sequences J = joined-size cast J (omega arith) in
    omega (arith, one, other)
joined-size cast (While i r g I) few = let one : nodes (relinked cast I) ≤ nodes I + 20000 * sequences I = joined-size cast I (omega arith) in omega (arith, one)
joined-size cast (Scope i r I extra props level) few =
    let one : nodes (relinked cast I) ≤ nodes I + 20000 * sequences I = joined-size cast I (omega arith) in omega (arith, one)

pub joined_fits : (cast : List Role) (I : Term) → nodes I ≤ 5000 → nodes (relinked cast I) ≤ 4294967295
joined_fits cast I few =
    let whole : nodes (relinked cast I) ≤ nodes I + 20000 * sequences I = joined-size cast I few in
    let most : sequences I ≤ nodes I = sequences-few I in
    omega (arith, whole, most)

-- Numbers and marks leave the size
nodes-numbered : (n : ℕ) (I : Term) → nodes (with_numbers n I) ≡ nodes I
nodes-numbered n Skip = refl
nodes-numbered n (Com i o a e b x) = refl
nodes-numbered n (Set i x r e) = refl
nodes-numbered n (Input i x r) = refl
nodes-numbered n (Seq I J) = ap₂ (λ s t. suc (s + t)) (nodes-numbered n I) (nodes-numbered (n + added_messages I) J)
nodes-numbered n (Par I J) = ap₂ (λ s t. suc (s + t)) (nodes-numbered n I) (nodes-numbered (n + added_messages I) J)
nodes-numbered n (If i r g I J) = ap₂ (λ s t. suc (s + t)) (nodes-numbered n I) (nodes-numbered (n + added_messages I) J)
nodes-numbered n (While i r g I) = ap suc (nodes-numbered n I)
nodes-numbered n (Scope i r I extra props level) = ap suc (nodes-numbered n I)

nodes-indexed : (n : ℕ) (I : Term) → nodes (indexed_from n I) ≡ nodes I
nodes-indexed n Skip = refl
nodes-indexed n (Com i o a e b x) = refl
nodes-indexed n (Set i x r e) = refl
nodes-indexed n (Input i x r) = refl
nodes-indexed n (Seq I J) = ap₂ (λ s t. suc (s + t)) (nodes-indexed n I) (nodes-indexed (n + constructs I) J)
nodes-indexed n (Par I J) = ap₂ (λ s t. suc (s + t)) (nodes-indexed n I) (nodes-indexed (n + constructs I) J)
nodes-indexed n (If i r g I J) = ap₂ (λ s t. suc (s + t)) (nodes-indexed (suc n) I) (nodes-indexed (suc n + constructs I) J)
nodes-indexed n (While i r g I) = ap suc (nodes-indexed (suc n) I)
nodes-indexed n (Scope i r I extra props level) = ap suc (nodes-indexed (suc n) I)

pub numbered_size : (I : Term) → nodes (with_numbers 0 I) ≡ nodes I
numbered_size I = nodes-numbered 0 I

pub same_size : (cast : List Role) (I : Term) → nodes (mended cast I) ≡ nodes (relinked cast I)
same_size cast I = nodes-indexed 0 (with_numbers 0 (relinked cast I)) ∙ nodes-numbered 0 (relinked cast I)

pub mended_fits : (cast : List Role) (I : Term) → nodes I ≤ 5000 → nodes (mended cast I) ≤ 4294967295
mended_fits cast I few = let fits : nodes (relinked cast I) ≤ 4294967295 = joined_fits cast I few in rw (same_size cast I) fits

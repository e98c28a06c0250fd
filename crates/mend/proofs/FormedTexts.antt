-- A mended text is formed: its marks, its names, its roles, and which scopes name roles.
use Rattle.std.proofs.Common.{◌≡◌, ◌∙◌, ◌≤◌, ◌<◌, ◌+◌, ◌%◌, ◌^◌, ℕ, suc, List, [], ◌∷◌, ◌++◌, Bool, true, false, ◌&&◌, ◌||◌, not, if◌then◌else◌, Option, Some, None, length, decimal, refl, sym, ap, ap₂, arith, ⊎_elim}
use Rattle.std.specs.Prelude.{find, codes, filter}
use Rattle.std.specs.List.{list_all}
use Rattle.std.proofs.lemmas.Bool.{and_from, and_parts, or_left, or_right, cases_Bool, cond-true, cond-false, cond_both, le-leb}
use Rattle.std.proofs.lemmas.Fmt.{decimal_by_steps, length-decimal-le}
use Rattle.std.proofs.lemmas.List.Folds.{list_all-append}
use Rattle.dioc_terms.specs.declared.names.Role.{Role}
use Rattle.dioc_terms.specs.declared.values.Value.TheVariants.{Nil}
use Rattle.dioc_terms.specs.Bundles.{is_identifier, is_formed_role, is_formed_step, is_formed_binding, has_formed_parts, names_no_roles}
use Rattle.dioc_terms.specs.Equality.{role_eq, member}
use Rattle.dioc_terms.specs.Expressions.{Const}
use Rattle.dioc_terms.specs.Names.{is_letter, is_digit, is_word, is_name, is_reserved, reserved_words}
use Rattle.dioc_terms.specs.Terms.{Term, Skip, Com, Set, Input, Seq, Par, If, While, Scope, empty, is_in, mentions, first_appearances, cast_of, constructs, index_at, indexed_from, indexed, nodes}
use Rattle.connectedness.specs.Connected.{starters, linked}
use Rattle.mend.specs.Mended.{message, told, led_in, closed, opened, first_starter, through, join, relinked, added_messages, with_numbers, mended}
use Rattle.mend.specs.Names.{begins_sq, sq_name}
use Rattle.mend.proofs.BundleSizes.{added-within}

-- Marks that a text gives are given again
constructs-indexed : (n : ℕ) (I : Term) → constructs (indexed_from n I) ≡ constructs I
constructs-indexed n Skip = refl
constructs-indexed n (Com i o a e b x) = refl
constructs-indexed n (Set i x r e) = refl
constructs-indexed n (Input i x r) = refl
constructs-indexed n (Seq I J) = ap₂ (λ s t. s + t) (constructs-indexed n I) (constructs-indexed (n + constructs I) J)
constructs-indexed n (Par I J) = ap₂ (λ s t. s + t) (constructs-indexed n I) (constructs-indexed (n + constructs I) J)
constructs-indexed n (If i r g I J) = ap₂ (λ s t. suc (s + t)) (constructs-indexed (suc n) I) (constructs-indexed (suc n + constructs I) J)
constructs-indexed n (While i r g I) = ap suc (constructs-indexed (suc n) I)
constructs-indexed n (Scope i r I extra props level) = ap suc (constructs-indexed (suc n) I)

indexed_twice : (n : ℕ) (I : Term) → indexed_from n (indexed_from n I) ≡ indexed_from n I
indexed_twice n Skip = refl
indexed_twice n (Com i o a e b x) = refl
indexed_twice n (Set i x r e) = refl
indexed_twice n (Input i x r) = refl
indexed_twice n (Seq I J) = ap₂ (λ s t. Seq s t) (indexed_twice n I)
    (ap (λ m. indexed_from (n + m) (indexed_from (n + constructs I) J)) (constructs-indexed n I) ∙ indexed_twice (n + constructs I) J)
indexed_twice n (Par I J) = ap₂ (λ s t. Par s t) (indexed_twice n I)
    (ap (λ m. indexed_from (n + m) (indexed_from (n + constructs I) J)) (constructs-indexed n I) ∙ indexed_twice (n + constructs I) J)
indexed_twice n (If i r g I J) = ap₂ (λ s t. If (index_at n) r g s t) (indexed_twice (suc n) I)
    (ap (λ m. indexed_from (suc n + m) (indexed_from (suc n + constructs I) J)) (constructs-indexed (suc n) I) ∙ indexed_twice (suc n + constructs I) J)
indexed_twice n (While i r g I) = ap (λ s. While (index_at n) r g s) (indexed_twice (suc n) I)
indexed_twice n (Scope i r I extra props level) = ap (λ s. Scope (index_at n) r s extra props 0) (indexed_twice (suc n) I)

pub mended-marks : (cast : List Role) (I : Term) → mended cast I ≡ indexed (mended cast I)
mended-marks cast I = sym (indexed_twice 0 (with_numbers 0 (relinked cast I)))

-- The names of added messages
digit-is_word : (n : ℕ) → n < 10 → is_word (48 + n) ≡ true
digit-is_word n h = or_left (is_letter (48 + n) || is_digit (48 + n)) _
    (or_right (is_letter (48 + n)) (is_digit (48 + n)) (and_from _ _ (le-leb 48 (48 + n) (omega arith)) (le-leb (48 + n) 57 (omega arith))))

decimal-words : (n : ℕ) → n < 2 ^ 64 → list_all is_word (decimal n) ≡ true
decimal-words n h = decimal_by_steps (λ m ds. list_all is_word ds ≡ true)
    (λ m small. and_from (is_word (48 + m)) true (digit-is_word m small) refl)
    (λ m ds big rest. list_all-append is_word ds ((48 + m % 10) ∷ [])
    ∙ and_from (list_all is_word ds) _ rest (and_from (is_word (48 + m % 10)) true (digit-is_word (m % 10) (omega arith)) refl))
    n h

sq_name-is_name : (n : ℕ) → n < 2 ^ 32 → is_name (sq_name n) ≡ true
sq_name-is_name n h =
    let short : length (decimal n) ≤ 10 = length-decimal-le 10 n (omega arith) (omega arith) (omega arith) in
    and_from _ _ (decimal-words n (omega arith)) (le-leb (suc (suc (length (decimal n)))) 63 (omega (arith, short)))

-- no word of the grammar begins with `sq_`
not_reserved : (rest : List ℕ) → is_reserved (codes "sq_" ++ rest) ≡ false
unfolding is_reserved reserved_words
not_reserved rest = refl

sq_name-identifier : (n : ℕ) → n < 2 ^ 32 → is_identifier (sq_name n) ≡ true
sq_name-identifier n h = and_from (is_name (sq_name n)) (not (is_reserved (sq_name n))) (sq_name-is_name n h) (ap not (not_reserved (decimal n)))

sq-identifier : is_identifier (codes "sq_") ≡ true
sq-identifier = and_from (is_name (codes "sq_")) (not (is_reserved (codes "sq_"))) refl (ap not (not_reserved []))

sq_v-identifier : is_identifier (codes "sq_v") ≡ true
sq_v-identifier = and_from (is_name (codes "sq_v")) (not (is_reserved (codes "sq_v"))) refl (ap not (not_reserved (codes "v")))

-- Parts of a chain of tests
all_five : (p q r s t : Bool) → p ≡ true → q ≡ true → r ≡ true → s ≡ true → t ≡ true → (p && q && r && s && t) ≡ true
all_five p q r s t a b c d e = and_from (p && q && r && s) t (and_from (p && q && r) s (and_from (p && q) r (and_from p q a b) c) d) e

message-formed : (a b : Role) → is_formed_role a ≡ true → is_formed_role b ≡ true → has_formed_parts (message a b) ≡ true
message-formed a b f g =
    all_five (is_identifier (codes "sq_")) (is_formed_role a) (is_formed_step (Const Nil)) (is_formed_role b) (is_identifier (codes "sq_v"))
    sq-identifier f refl g sq_v-identifier

told-formed : (t : Bool) (W : Term) (r k : Role) → has_formed_parts W ≡ true → is_formed_role r ≡ true → is_formed_role k ≡ true
    → has_formed_parts (told t W r k) ≡ true
told-formed true W r k h f g = h
told-formed false W r k h f g = and_from (has_formed_parts W) (has_formed_parts (message r k)) h (message-formed r k f g)

asked-formed : (t : Bool) (W : Term) (r k : Role) → has_formed_parts W ≡ true → is_formed_role r ≡ true → is_formed_role k ≡ true
    → has_formed_parts (led_in t W r k) ≡ true
asked-formed true W r k h f g = h
asked-formed false W r k h f g = and_from (has_formed_parts (message k r)) (has_formed_parts W) (message-formed k r g f) h

-- the roles of a message, and who leads
sender : (p q r s t : Bool) → (p && q && r && s && t) ≡ true → q ≡ true
sender p q r s t h =
    (and_parts p q (and_parts (p && q) r (and_parts (p && q && r) s (and_parts (p && q && r && s) t h).0).0).0).1

receiver : (p q r s t : Bool) → (p && q && r && s && t) ≡ true → s ≡ true
receiver p q r s t h = (and_parts (p && q && r) s (and_parts (p && q && r && s) t h).0).1

middle : (p q r : Bool) → (p && q && r) ≡ true → q ≡ true
middle p q r h = (and_parts p q (and_parts (p && q) r h).0).1

first_of_three : (p q r : Bool) → (p && q && r) ≡ true → p ≡ true
first_of_three p q r h = (and_parts p q (and_parts (p && q) r h).0).0

first_of_four : (p q r s : Bool) → (p && q && r && s) ≡ true → p ≡ true
first_of_four p q r s h = first_of_three p q r (and_parts (p && q && r) s h).0

module _ (k : Role) (formed : is_formed_role k ≡ true) where
  closed-formed : (I : Term) → has_formed_parts I ≡ true → has_formed_parts (closed k I) ≡ true
  closed-formed Skip h = refl
  closed-formed (Com i o a e b x) h = told-formed (is_in k (Com i o a e b x)) (Com i o a e b x) b k h
      (receiver (is_identifier o) (is_formed_role a) (is_formed_step e) (is_formed_role b) (is_identifier x) h) formed
  closed-formed (Set i x r e) h =
      told-formed (role_eq k r) (Set i x r e) r k h (middle (is_identifier x) (is_formed_role r) (is_formed_step e) h) formed
  closed-formed (Input i x r) h =
      told-formed (role_eq k r) (Input i x r) r k h (and_parts (is_identifier x) (is_formed_role r) h).1 formed
  closed-formed (Seq I J) h =
      let parts = and_parts (has_formed_parts I) (has_formed_parts J) h in
      cond_both (empty J) (Seq (closed k I) J) (Seq I (closed k J)) (λ T. has_formed_parts T ≡ true)
      (λ yes. and_from (has_formed_parts (closed k I)) (has_formed_parts J) (closed-formed I parts.0) parts.1)
      (λ no. and_from (has_formed_parts I) (has_formed_parts (closed k J)) parts.0 (closed-formed J parts.1))
  closed-formed (Par I J) h =
      let parts = and_parts (has_formed_parts I) (has_formed_parts J) h in
      and_from (has_formed_parts (closed k I)) (has_formed_parts (closed k J)) (closed-formed I parts.0) (closed-formed J parts.1)
  closed-formed (If i r g I J) h =
      let parts = and_parts (is_formed_role r && is_formed_step g && has_formed_parts I) (has_formed_parts J) h in
      let front = and_parts (is_formed_role r && is_formed_step g) (has_formed_parts I) parts.0 in
      cond_both (empty I && empty J) (told (is_in k (If i r g I J)) (If i r g I J) r k) (If i r g (closed k I) (closed k J)) (λ T. has_formed_parts T ≡ true)
      (λ yes. told-formed (is_in k (If i r g I J)) (If i r g I J) r k h
      (first_of_four (is_formed_role r) (is_formed_step g) (has_formed_parts I) (has_formed_parts J) h) formed)
      (λ no. and_from (is_formed_role r && is_formed_step g && has_formed_parts (closed k I)) (has_formed_parts (closed k J))
      (and_from (is_formed_role r && is_formed_step g) (has_formed_parts (closed k I)) front.0 (closed-formed I front.1))
      (closed-formed J parts.1))
  closed-formed (While i r g I) h = told-formed (is_in k (While i r g I)) (While i r g I) r k h
      (first_of_three (is_formed_role r) (is_formed_step g) (has_formed_parts I) h) formed
  closed-formed (Scope i r I extra props level) h = told-formed (is_in k (Scope i r I extra props level)) (Scope i r I extra props level) r k h
      (first_of_four (is_formed_role r) (has_formed_parts I) (list_all is_formed_role extra) (list_all is_formed_binding props) h) formed

  opened-formed : (I : Term) → has_formed_parts I ≡ true → has_formed_parts (opened k I) ≡ true
  opened-formed Skip h = refl
  opened-formed (Com i o a e b x) h = asked-formed (role_eq k a) (Com i o a e b x) a k h
      (sender (is_identifier o) (is_formed_role a) (is_formed_step e) (is_formed_role b) (is_identifier x) h) formed
  opened-formed (Set i x r e) h =
      asked-formed (role_eq k r) (Set i x r e) r k h (middle (is_identifier x) (is_formed_role r) (is_formed_step e) h) formed
  opened-formed (Input i x r) h =
      asked-formed (role_eq k r) (Input i x r) r k h (and_parts (is_identifier x) (is_formed_role r) h).1 formed
  opened-formed (Seq I J) h =
      let parts = and_parts (has_formed_parts I) (has_formed_parts J) h in
      cond_both (empty I) (Seq I (opened k J)) (Seq (opened k I) J) (λ T. has_formed_parts T ≡ true)
      (λ yes. and_from (has_formed_parts I) (has_formed_parts (opened k J)) parts.0 (opened-formed J parts.1))
      (λ no. and_from (has_formed_parts (opened k I)) (has_formed_parts J) (opened-formed I parts.0) parts.1)
  opened-formed (Par I J) h =
      let parts = and_parts (has_formed_parts I) (has_formed_parts J) h in
      and_from (has_formed_parts (opened k I)) (has_formed_parts (opened k J)) (opened-formed I parts.0) (opened-formed J parts.1)
  opened-formed (If i r g I J) h = asked-formed (role_eq k r) (If i r g I J) r k h
      (first_of_four (is_formed_role r) (is_formed_step g) (has_formed_parts I) (has_formed_parts J) h) formed
  opened-formed (While i r g I) h = asked-formed (role_eq k r) (While i r g I) r k h
      (first_of_three (is_formed_role r) (is_formed_step g) (has_formed_parts I) h) formed
  opened-formed (Scope i r I extra props level) h = asked-formed (role_eq k r) (Scope i r I extra props level) r k h
      (first_of_four (is_formed_role r) (has_formed_parts I) (list_all is_formed_role extra) (list_all is_formed_binding props) h) formed

-- The role that a sequence goes through is one of the cast
some_same : {A : Type 0} {x y : A} → Some x ≡ Some y → x ≡ y
some_same h = cc

found-formed : (p : Role → Bool) (cast : List Role) → list_all is_formed_role cast ≡ true → (k : Role) → find p cast ≡ Some k → is_formed_role k ≡ true
found-formed p [] h k is = cc
found-formed p (q ∷ qs) h k is =
    let parts = and_parts (is_formed_role q) (list_all is_formed_role qs) h in
    ⊎_elim
    (λ yes. ap is_formed_role (sym (some_same (sym (cond-true (p q) (Some q) (find p qs) yes) ∙ is))) ∙ parts.0)
    (λ no. found-formed p qs parts.1 k (sym (cond-false (p q) (Some q) (find p qs) no) ∙ is))
    (cases_Bool (p q))

through-formed : (m : Option Role) (I J : Term) → ((k : Role) → m ≡ Some k → is_formed_role k ≡ true) → has_formed_parts I ≡ true → has_formed_parts J ≡ true
    → has_formed_parts (through m I J) ≡ true
through-formed None I J f h j = and_from (has_formed_parts I) (has_formed_parts J) h j
through-formed (Some k) I J f h j =
    and_from (has_formed_parts (closed k I)) (has_formed_parts (opened k J)) (closed-formed k (f k refl) I h) (opened-formed k (f k refl) J j)

module _ (cast : List Role) (formed : list_all is_formed_role cast ≡ true) where
  join-formed : (I J : Term) → has_formed_parts I ≡ true → has_formed_parts J ≡ true → has_formed_parts (join cast I J) ≡ true
  join-formed I J h j = cond_both (linked I J) (Seq I J) (through (first_starter cast J) I J) (λ T. has_formed_parts T ≡ true)
      (λ yes. and_from (has_formed_parts I) (has_formed_parts J) h j)
      (λ no. through-formed (first_starter cast J) I J (found-formed (λ q. member q (starters J)) cast formed) h j)

  joined-formed : (I : Term) → has_formed_parts I ≡ true → has_formed_parts (relinked cast I) ≡ true
  joined-formed Skip h = h
  joined-formed (Com i o a e b x) h = h
  joined-formed (Set i x r e) h = h
  joined-formed (Input i x r) h = h
  joined-formed (Seq I J) h =
      let parts = and_parts (has_formed_parts I) (has_formed_parts J) h in
      join-formed (relinked cast I) (relinked cast J) (joined-formed I parts.0) (joined-formed J parts.1)
  joined-formed (Par I J) h =
      let parts = and_parts (has_formed_parts I) (has_formed_parts J) h in
      and_from (has_formed_parts (relinked cast I)) (has_formed_parts (relinked cast J)) (joined-formed I parts.0) (joined-formed J parts.1)
  joined-formed (If i r g I J) h =
      let parts = and_parts (is_formed_role r && is_formed_step g && has_formed_parts I) (has_formed_parts J) h in
      let front = and_parts (is_formed_role r && is_formed_step g) (has_formed_parts I) parts.0 in
      and_from (is_formed_role r && is_formed_step g && has_formed_parts (relinked cast I)) (has_formed_parts (relinked cast J))
      (and_from (is_formed_role r && is_formed_step g) (has_formed_parts (relinked cast I)) front.0 (joined-formed I front.1))
      (joined-formed J parts.1)
  joined-formed (While i r g I) h =
      let parts = and_parts (is_formed_role r && is_formed_step g) (has_formed_parts I) h in
      and_from (is_formed_role r && is_formed_step g) (has_formed_parts (relinked cast I)) parts.0 (joined-formed I parts.1)
  joined-formed (Scope i r I extra props level) h =
      let parts = and_parts (is_formed_role r && has_formed_parts I && list_all is_formed_role extra) (list_all is_formed_binding props) h in
      let front = and_parts (is_formed_role r && has_formed_parts I) (list_all is_formed_role extra) parts.0 in
      let first = and_parts (is_formed_role r) (has_formed_parts I) front.0 in
      and_from (is_formed_role r && has_formed_parts (relinked cast I) && list_all is_formed_role extra) (list_all is_formed_binding props)
      (and_from (is_formed_role r && has_formed_parts (relinked cast I)) (list_all is_formed_role extra)
      (and_from (is_formed_role r) (has_formed_parts (relinked cast I)) first.0 (joined-formed I first.1)) front.1) parts.1

-- Numbers
op-formed : (t : Bool) (n : ℕ) (o : List ℕ) → n + (if t then 1 else 0) ≤ 4294967296 → is_identifier o ≡ true → is_identifier (if t then sq_name n else o) ≡ true
op-formed true n o few h = sq_name-identifier n (omega (arith, few))
op-formed false n o few h = h

other_first : (p c q r s t : Bool) → (p && q && r && s && t) ≡ true → c ≡ true → (c && q && r && s && t) ≡ true
other_first p c q r s t h k =
    let four = and_parts (p && q && r && s) t h in
    let three = and_parts (p && q && r) s four.0 in
    let two = and_parts (p && q) r three.0 in
    all_five c q r s t k (and_parts p q two.0).1 two.1 three.1 four.1

first_of_five : (p q r s t : Bool) → (p && q && r && s && t) ≡ true → p ≡ true
first_of_five p q r s t h = first_of_four p q r s (and_parts (p && q && r && s) t h).0

numbered-formed : (n : ℕ) (I : Term) → n + added_messages I ≤ 4294967296 → has_formed_parts I ≡ true → has_formed_parts (with_numbers n I) ≡ true
numbered-formed n Skip few h = h
numbered-formed n (Com i o a e b x) few h =
    other_first (is_identifier o) (is_identifier (if begins_sq o then sq_name n else o)) (is_formed_role a) (is_formed_step e) (is_formed_role b) (is_identifier x) h
    (op-formed (begins_sq o) n o few (first_of_five (is_identifier o) (is_formed_role a) (is_formed_step e) (is_formed_role b) (is_identifier x) h))
numbered-formed n (Set i x r e) few h = h
numbered-formed n (Input i x r) few h = h
numbered-formed n (Seq I J) few h =
    let parts = and_parts (has_formed_parts I) (has_formed_parts J) h in
    and_from (has_formed_parts (with_numbers n I)) (has_formed_parts (with_numbers (n + added_messages I) J)) (numbered-formed n I (omega (arith, few)) parts.0)
    (numbered-formed (n + added_messages I) J (omega (arith, few)) parts.1)
numbered-formed n (Par I J) few h =
    let parts = and_parts (has_formed_parts I) (has_formed_parts J) h in
    and_from (has_formed_parts (with_numbers n I)) (has_formed_parts (with_numbers (n + added_messages I) J)) (numbered-formed n I (omega (arith, few)) parts.0)
    (numbered-formed (n + added_messages I) J (omega (arith, few)) parts.1)
numbered-formed n (If i r g I J) few h =
    let parts = and_parts (is_formed_role r && is_formed_step g && has_formed_parts I) (has_formed_parts J) h in
    let front = and_parts (is_formed_role r && is_formed_step g) (has_formed_parts I) parts.0 in
    and_from (is_formed_role r && is_formed_step g && has_formed_parts (with_numbers n I)) (has_formed_parts (with_numbers (n + added_messages I) J))
    (and_from (is_formed_role r && is_formed_step g) (has_formed_parts (with_numbers n I)) front.0 (numbered-formed n I (omega (arith, few)) front.1))
    (numbered-formed (n + added_messages I) J (omega (arith, few)) parts.1)
numbered-formed n (While i r g I) few h =
    let parts = and_parts (is_formed_role r && is_formed_step g) (has_formed_parts I) h in
    and_from (is_formed_role r && is_formed_step g) (has_formed_parts (with_numbers n I)) parts.0 (numbered-formed n I few parts.1)
numbered-formed n (Scope i r I extra props level) few h =
    let parts = and_parts (is_formed_role r && has_formed_parts I && list_all is_formed_role extra) (list_all is_formed_binding props) h in
    let front = and_parts (is_formed_role r && has_formed_parts I) (list_all is_formed_role extra) parts.0 in
    let first = and_parts (is_formed_role r) (has_formed_parts I) front.0 in
    and_from (is_formed_role r && has_formed_parts (with_numbers n I) && list_all is_formed_role extra) (list_all is_formed_binding props)
    (and_from (is_formed_role r && has_formed_parts (with_numbers n I)) (list_all is_formed_role extra)
    (and_from (is_formed_role r) (has_formed_parts (with_numbers n I)) first.0 (numbered-formed n I few first.1)) front.1) parts.1

-- Marks
indexed-formed : (n : ℕ) (I : Term) → has_formed_parts (indexed_from n I) ≡ has_formed_parts I
indexed-formed n Skip = refl
indexed-formed n (Com i o a e b x) = refl
indexed-formed n (Set i x r e) = refl
indexed-formed n (Input i x r) = refl
indexed-formed n (Seq I J) = ap₂ (λ s t. s && t) (indexed-formed n I) (indexed-formed (n + constructs I) J)
indexed-formed n (Par I J) = ap₂ (λ s t. s && t) (indexed-formed n I) (indexed-formed (n + constructs I) J)
indexed-formed n (If i r g I J) =
    ap₂ (λ s t. is_formed_role r && is_formed_step g && s && t) (indexed-formed (suc n) I) (indexed-formed (suc n + constructs I) J)
indexed-formed n (While i r g I) = ap (λ s. is_formed_role r && is_formed_step g && s) (indexed-formed (suc n) I)
indexed-formed n (Scope i r I extra props level) =
    ap (λ s. is_formed_role r && s && list_all is_formed_role extra && list_all is_formed_binding props) (indexed-formed (suc n) I)

pub mended-formed : (cast : List Role) (I : Term) → list_all is_formed_role cast ≡ true → has_formed_parts I ≡ true → nodes (mended cast I) ≤ 4294967295
    → has_formed_parts (mended cast I) ≡ true
mended-formed cast I formed h small =
    let few : added_messages (relinked cast I) ≤ nodes (mended cast I) = added-within cast I in
    indexed-formed 0 (with_numbers 0 (relinked cast I)) ∙ numbered-formed 0 (relinked cast I) (omega (arith, few, small)) (joined-formed cast formed I h)

-- The roles of a formed text are formed, and so is its cast
both_formed : (xs ys : List Role) → list_all is_formed_role xs ≡ true → list_all is_formed_role ys ≡ true → list_all is_formed_role (xs ++ ys) ≡ true
both_formed xs ys h k = list_all-append is_formed_role xs ys ∙ and_from (list_all is_formed_role xs) (list_all is_formed_role ys) h k

mentions-formed : (I : Term) → has_formed_parts I ≡ true → list_all is_formed_role (mentions I) ≡ true
mentions-formed Skip h = refl
mentions-formed (Com i o a e b x) h =
    and_from (is_formed_role a) (is_formed_role b && true)
    (sender (is_identifier o) (is_formed_role a) (is_formed_step e) (is_formed_role b) (is_identifier x) h)
    (and_from (is_formed_role b) true (receiver (is_identifier o) (is_formed_role a) (is_formed_step e) (is_formed_role b) (is_identifier x) h) refl)
mentions-formed (Set i x r e) h = and_from (is_formed_role r) true (middle (is_identifier x) (is_formed_role r) (is_formed_step e) h) refl
mentions-formed (Input i x r) h = and_from (is_formed_role r) true (and_parts (is_identifier x) (is_formed_role r) h).1 refl
mentions-formed (Seq I J) h =
    let parts = and_parts (has_formed_parts I) (has_formed_parts J) h in
    both_formed (mentions I) (mentions J) (mentions-formed I parts.0) (mentions-formed J parts.1)
mentions-formed (Par I J) h =
    let parts = and_parts (has_formed_parts I) (has_formed_parts J) h in
    both_formed (mentions I) (mentions J) (mentions-formed I parts.0) (mentions-formed J parts.1)
mentions-formed (If i r g I J) h =
    let parts = and_parts (is_formed_role r && is_formed_step g && has_formed_parts I) (has_formed_parts J) h in
    let front = and_parts (is_formed_role r && is_formed_step g) (has_formed_parts I) parts.0 in
    and_from (is_formed_role r) (list_all is_formed_role (mentions I ++ mentions J)) (and_parts (is_formed_role r) (is_formed_step g) front.0).0
    (both_formed (mentions I) (mentions J) (mentions-formed I front.1) (mentions-formed J parts.1))
mentions-formed (While i r g I) h =
    let parts = and_parts (is_formed_role r && is_formed_step g) (has_formed_parts I) h in
    and_from (is_formed_role r) (list_all is_formed_role (mentions I)) (and_parts (is_formed_role r) (is_formed_step g) parts.0).0 (mentions-formed I parts.1)
mentions-formed (Scope i r I extra props level) h =
    let parts = and_parts (is_formed_role r && has_formed_parts I && list_all is_formed_role extra) (list_all is_formed_binding props) h in
    let front = and_parts (is_formed_role r && has_formed_parts I) (list_all is_formed_role extra) parts.0 in
    let first = and_parts (is_formed_role r) (has_formed_parts I) front.0 in
    and_from (is_formed_role r) (list_all is_formed_role (mentions I ++ extra)) first.0 (both_formed (mentions I) extra (mentions-formed I first.1) front.1)

filter-formed : (p : Role → Bool) (qs : List Role) → list_all is_formed_role qs ≡ true → list_all is_formed_role (filter p qs) ≡ true
filter-formed p [] h = refl
filter-formed p (q ∷ qs) h =
    let parts = and_parts (is_formed_role q) (list_all is_formed_role qs) h in
    cond_both (p q) (q ∷ filter p qs) (filter p qs) (λ l. list_all is_formed_role l ≡ true)
    (λ yes. and_from (is_formed_role q) (list_all is_formed_role (filter p qs)) parts.0 (filter-formed p qs parts.1)) (λ no. filter-formed p qs parts.1)

first-formed : (qs : List Role) → list_all is_formed_role qs ≡ true → list_all is_formed_role (first_appearances qs) ≡ true
first-formed [] h = refl
first-formed (q ∷ qs) h =
    let parts = and_parts (is_formed_role q) (list_all is_formed_role qs) h in
    and_from (is_formed_role q) (list_all is_formed_role (filter (λ r. not (role_eq r q)) (first_appearances qs))) parts.0
    (filter-formed (λ r. not (role_eq r q)) (first_appearances qs) (first-formed qs parts.1))

pub cast-formed : (I : Term) → has_formed_parts I ≡ true → list_all is_formed_role (cast_of I) ≡ true
cast-formed I h = first-formed (mentions I) (mentions-formed I h)

-- Which scopes name roles
told-plain : (t : Bool) (W : Term) (r k : Role) → names_no_roles W ≡ true → names_no_roles (told t W r k) ≡ true
told-plain true W r k h = h
told-plain false W r k h = and_from (names_no_roles W) true h refl

asked-plain : (t : Bool) (W : Term) (r k : Role) → names_no_roles W ≡ true → names_no_roles (led_in t W r k) ≡ true
asked-plain true W r k h = h
asked-plain false W r k h = h

module _ (k : Role) where
  closed-plain : (I : Term) → names_no_roles I ≡ true → names_no_roles (closed k I) ≡ true
  closed-plain Skip h = h
  closed-plain (Com i o a e b x) h = told-plain (is_in k (Com i o a e b x)) (Com i o a e b x) b k h
  closed-plain (Set i x r e) h = told-plain (role_eq k r) (Set i x r e) r k h
  closed-plain (Input i x r) h = told-plain (role_eq k r) (Input i x r) r k h
  closed-plain (Seq I J) h =
      let parts = and_parts (names_no_roles I) (names_no_roles J) h in
      cond_both (empty J) (Seq (closed k I) J) (Seq I (closed k J)) (λ T. names_no_roles T ≡ true)
      (λ yes. and_from (names_no_roles (closed k I)) (names_no_roles J) (closed-plain I parts.0) parts.1)
      (λ no. and_from (names_no_roles I) (names_no_roles (closed k J)) parts.0 (closed-plain J parts.1))
  closed-plain (Par I J) h =
      let parts = and_parts (names_no_roles I) (names_no_roles J) h in
      and_from (names_no_roles (closed k I)) (names_no_roles (closed k J)) (closed-plain I parts.0) (closed-plain J parts.1)
  closed-plain (If i r g I J) h =
      let parts = and_parts (names_no_roles I) (names_no_roles J) h in
      cond_both (empty I && empty J) (told (is_in k (If i r g I J)) (If i r g I J) r k) (If i r g (closed k I) (closed k J)) (λ T. names_no_roles T ≡ true)
      (λ yes. told-plain (is_in k (If i r g I J)) (If i r g I J) r k h)
      (λ no. and_from (names_no_roles (closed k I)) (names_no_roles (closed k J)) (closed-plain I parts.0) (closed-plain J parts.1))
  closed-plain (While i r g I) h = told-plain (is_in k (While i r g I)) (While i r g I) r k h
  closed-plain (Scope i r I extra props level) h = told-plain (is_in k (Scope i r I extra props level)) (Scope i r I extra props level) r k h

  opened-plain : (I : Term) → names_no_roles I ≡ true → names_no_roles (opened k I) ≡ true
  opened-plain Skip h = h
  opened-plain (Com i o a e b x) h = asked-plain (role_eq k a) (Com i o a e b x) a k h
  opened-plain (Set i x r e) h = asked-plain (role_eq k r) (Set i x r e) r k h
  opened-plain (Input i x r) h = asked-plain (role_eq k r) (Input i x r) r k h
  opened-plain (Seq I J) h =
      let parts = and_parts (names_no_roles I) (names_no_roles J) h in
      cond_both (empty I) (Seq I (opened k J)) (Seq (opened k I) J) (λ T. names_no_roles T ≡ true)
      (λ yes. and_from (names_no_roles I) (names_no_roles (opened k J)) parts.0 (opened-plain J parts.1))
      (λ no. and_from (names_no_roles (opened k I)) (names_no_roles J) (opened-plain I parts.0) parts.1)
  opened-plain (Par I J) h =
      let parts = and_parts (names_no_roles I) (names_no_roles J) h in
      and_from (names_no_roles (opened k I)) (names_no_roles (opened k J)) (opened-plain I parts.0) (opened-plain J parts.1)
  opened-plain (If i r g I J) h = asked-plain (role_eq k r) (If i r g I J) r k h
  opened-plain (While i r g I) h = asked-plain (role_eq k r) (While i r g I) r k h
  opened-plain (Scope i r I extra props level) h = asked-plain (role_eq k r) (Scope i r I extra props level) r k h

through-plain : (m : Option Role) (I J : Term) → names_no_roles I ≡ true → names_no_roles J ≡ true → names_no_roles (through m I J) ≡ true
through-plain None I J h j = and_from (names_no_roles I) (names_no_roles J) h j
through-plain (Some k) I J h j = and_from (names_no_roles (closed k I)) (names_no_roles (opened k J)) (closed-plain k I h) (opened-plain k J j)

module _ (cast : List Role) where
  joined-plain : (I : Term) → names_no_roles I ≡ true → names_no_roles (relinked cast I) ≡ true
  joined-plain Skip h = h
  joined-plain (Com i o a e b x) h = h
  joined-plain (Set i x r e) h = h
  joined-plain (Input i x r) h = h
  joined-plain (Seq I J) h =
      let parts = and_parts (names_no_roles I) (names_no_roles J) h in
      let one : names_no_roles (relinked cast I) ≡ true = joined-plain I parts.0 in
      let other : names_no_roles (relinked cast J) ≡ true = joined-plain J parts.1 in
      cond_both (linked (relinked cast I) (relinked cast J)) (Seq (relinked cast I) (relinked cast J))
      (through (first_starter cast (relinked cast J)) (relinked cast I) (relinked cast J)) (λ T. names_no_roles T ≡ true)
      (λ yes. and_from (names_no_roles (relinked cast I)) (names_no_roles (relinked cast J)) one other)
      (λ no. through-plain (first_starter cast (relinked cast J)) (relinked cast I) (relinked cast J) one other)
  joined-plain (Par I J) h =
      let parts = and_parts (names_no_roles I) (names_no_roles J) h in
      and_from (names_no_roles (relinked cast I)) (names_no_roles (relinked cast J)) (joined-plain I parts.0) (joined-plain J parts.1)
  joined-plain (If i r g I J) h =
      let parts = and_parts (names_no_roles I) (names_no_roles J) h in
      and_from (names_no_roles (relinked cast I)) (names_no_roles (relinked cast J)) (joined-plain I parts.0) (joined-plain J parts.1)
  joined-plain (While i r g I) h = joined-plain I h
  joined-plain (Scope i r I [] props level) h = joined-plain I h
  joined-plain (Scope i r I (q ∷ qs) props level) h = h

numbered-plain : (n : ℕ) (I : Term) → names_no_roles (with_numbers n I) ≡ names_no_roles I
numbered-plain n Skip = refl
numbered-plain n (Com i o a e b x) = refl
numbered-plain n (Set i x r e) = refl
numbered-plain n (Input i x r) = refl
numbered-plain n (Seq I J) = ap₂ (λ s t. s && t) (numbered-plain n I) (numbered-plain (n + added_messages I) J)
numbered-plain n (Par I J) = ap₂ (λ s t. s && t) (numbered-plain n I) (numbered-plain (n + added_messages I) J)
numbered-plain n (If i r g I J) = ap₂ (λ s t. s && t) (numbered-plain n I) (numbered-plain (n + added_messages I) J)
numbered-plain n (While i r g I) = numbered-plain n I
numbered-plain n (Scope i r I [] props level) = numbered-plain n I
numbered-plain n (Scope i r I (q ∷ qs) props level) = refl

indexed-plain : (n : ℕ) (I : Term) → names_no_roles (indexed_from n I) ≡ names_no_roles I
indexed-plain n Skip = refl
indexed-plain n (Com i o a e b x) = refl
indexed-plain n (Set i x r e) = refl
indexed-plain n (Input i x r) = refl
indexed-plain n (Seq I J) = ap₂ (λ s t. s && t) (indexed-plain n I) (indexed-plain (n + constructs I) J)
indexed-plain n (Par I J) = ap₂ (λ s t. s && t) (indexed-plain n I) (indexed-plain (n + constructs I) J)
indexed-plain n (If i r g I J) = ap₂ (λ s t. s && t) (indexed-plain (suc n) I) (indexed-plain (suc n + constructs I) J)
indexed-plain n (While i r g I) = indexed-plain (suc n) I
indexed-plain n (Scope i r I [] props level) = indexed-plain (suc n) I
indexed-plain n (Scope i r I (q ∷ qs) props level) = refl

pub mended-plain : (cast : List Role) (I : Term) → names_no_roles I ≡ true → names_no_roles (mended cast I) ≡ true
mended-plain cast I h =
    indexed-plain 0 (with_numbers 0 (relinked cast I)) ∙ (numbered-plain 0 (relinked cast I) ∙ joined-plain cast I h)

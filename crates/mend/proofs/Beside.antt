-- The mended text lies beside the input's, with its own marks and as an update.
use Rattle.std.proofs.Common.{◌≡◌, ℕ, suc, ◌+◌, List, [], ◌∷◌, ◌++◌, length, Bool, true, false, ◌&&◌, Option, Some, None, refl, sym, ap, ap₂, ◌∙◌, subst, arith}
use Rattle.std.specs.Prelude.{codes, slice_get, unwrap_or}
use Rattle.std.proofs.lemmas.Bool.{cond-true, cond-false, cond_both}
use Rattle.std.proofs.lemmas.List.{length-append}
use Rattle.dioc_terms.specs.declared.names.Role.{Role}
use Rattle.dioc_terms.specs.declared.names.Index.{Index}
use Rattle.dioc_terms.specs.declared.values.Value.TheVariants.{Nil}
use Rattle.dioc_terms.specs.Equality.{role_eq}
use Rattle.dioc_terms.specs.Expressions.{Const}
use Rattle.dioc_terms.specs.TermLaws.{MentionsAreRoles, StampedBodies}
use Rattle.dioc_terms.specs.Terms.{Term, Skip, Com, Set, Input, Seq, Par, If, While, Scope, empty, is_in, at_epoch, index_at, indexed, indexed_from, stamped, constructs}
use Rattle.connectedness.specs.Connected.{linked}
use Rattle.connectedness.specs.Laws.{RolesAtEnds}
use Rattle.index_marks.specs.Indices.{indices}
use Rattle.mend.specs.Names.{begins_sq, sq_name, variables_of, names_in, taken_name}
use Rattle.mend.specs.Mended.{message, told, led_in, closed, opened, first_starter, through, join, relinked, added_messages, with_numbers, mended}
use Rattle.mend.specs.Traces.{index_before}
use Rattle.mend.proofs.Connecting.{joined-roles}
use Rattle.mend.proofs.Dropping.{sq_name_begins, find_parts, first_free, rest_free}
use Rattle.mend.proofs.Erased.{nameless, erased-indexed, erased-numbered, is_in-erased}
use Rattle.mend.proofs.Keeping.{marked_stamped}
use Rattle.mend.proofs.Lessening.{AddedTerm, added_seq, added_com, Mends, m_skip, m_com, m_set, m_input, m_seq, m_par, m_if, m_while, m_scope, m_before, m_behind}

message_added : (r k : Role) → AddedTerm (message r k)
message_added r k = added_com (index_at 0) (codes "sq_") r (Const Nil) k (codes "sq_v") refl refl

told_added : (t : Bool) (W : Term) (r k : Role) → AddedTerm W → AddedTerm (told t W r k)
told_added true W r k h = h
told_added false W r k h = added_seq W (message r k) h (message_added r k)

asked_added : (t : Bool) (W : Term) (r k : Role) → AddedTerm W → AddedTerm (led_in t W r k)
asked_added true W r k h = h
asked_added false W r k h = added_seq (message k r) W (message_added k r) h

closed_added : (k : Role) (X : Term) → AddedTerm X → AddedTerm (closed k X)
closed_added k X (added_seq A B a b) = cond_both (empty B) (Seq (closed k A) B) (Seq A (closed k B)) AddedTerm
    (λ yes. added_seq (closed k A) B (closed_added k A a) b) (λ no. added_seq A (closed k B) a (closed_added k B b))
closed_added k X (added_com i o a e b x os xs) = told_added (is_in k (Com i o a e b x)) (Com i o a e b x) b k (added_com i o a e b x os xs)

opened_added : (k : Role) (X : Term) → AddedTerm X → AddedTerm (opened k X)
opened_added k X (added_seq A B a b) = cond_both (empty A) (Seq A (opened k B)) (Seq (opened k A) B) AddedTerm
    (λ yes. added_seq A (opened k B) a (opened_added k B b)) (λ no. added_seq (opened k A) B (opened_added k A a) b)
opened_added k X (added_com i o a e b x os xs) = asked_added (role_eq k a) (Com i o a e b x) a k (added_com i o a e b x os xs)

module _ {f : Index → Index} where
  told_mends : (t : Bool) (W I : Term) (r k : Role) → Mends f W I → Mends f (told t W r k) I
  told_mends true W I r k h = h
  told_mends false W I r k h = m_behind W (message r k) I h (message_added r k)

  asked_mends : (t : Bool) (W I : Term) (r k : Role) → Mends f W I → Mends f (led_in t W r k) I
  asked_mends true W I r k h = h
  asked_mends false W I r k h = m_before (message k r) W I (message_added k r) h

  closed_mends : (k : Role) (X I : Term) → Mends f X I → Mends f (closed k X) I
  closed_mends k X I m_skip = m_skip
  closed_mends k X I (m_com i j o a e b x at os free) = told_mends (is_in k (Com i o a e b x)) (Com i o a e b x) (Com j o a e b x) b k (m_com i j o a e b x at os free)
  closed_mends k X I (m_set i j x r e at free) = told_mends (role_eq k r) (Set i x r e) (Set j x r e) r k (m_set i j x r e at free)
  closed_mends k X I (m_input i j x r at) = told_mends (role_eq k r) (Input i x r) (Input j x r) r k (m_input i j x r at)
  closed_mends k X I (m_seq A B C D p q) = cond_both (empty B) (Seq (closed k A) B) (Seq A (closed k B)) (λ T. Mends f T (Seq C D))
      (λ yes. m_seq (closed k A) B C D (closed_mends k A C p) q) (λ no. m_seq A (closed k B) C D p (closed_mends k B D q))
  closed_mends k X I (m_par A B C D p q) = m_par (closed k A) (closed k B) C D (closed_mends k A C p) (closed_mends k B D q)
  closed_mends k X I (m_if i j r g A B C D at free p q) =
      cond_both (empty A && empty B) (told (is_in k (If i r g A B)) (If i r g A B) r k) (If i r g (closed k A) (closed k B)) (λ T. Mends f T (If j r g C D))
      (λ yes. told_mends (is_in k (If i r g A B)) (If i r g A B) (If j r g C D) r k (m_if i j r g A B C D at free p q))
      (λ no. m_if i j r g (closed k A) (closed k B) C D at free (closed_mends k A C p) (closed_mends k B D q))
  closed_mends k X I (m_while i j r g A C at free p) =
      told_mends (is_in k (While i r g A)) (While i r g A) (While j r g C) r k (m_while i j r g A C at free p)
  closed_mends k X I (m_scope i j r A C extra props level at roles p) =
      told_mends (is_in k (Scope i r A extra props level)) (Scope i r A extra props level) (Scope j r C extra props level) r k
      (m_scope i j r A C extra props level at roles p)
  closed_mends k X I (m_before A B C a q) = cond_both (empty B) (Seq (closed k A) B) (Seq A (closed k B)) (λ T. Mends f T C)
      (λ yes. m_before (closed k A) B C (closed_added k A a) q) (λ no. m_before A (closed k B) C a (closed_mends k B C q))
  closed_mends k X I (m_behind B A C q a) = cond_both (empty A) (Seq (closed k B) A) (Seq B (closed k A)) (λ T. Mends f T C)
      (λ yes. m_behind (closed k B) A C (closed_mends k B C q) a) (λ no. m_behind B (closed k A) C q (closed_added k A a))

  opened_mends : (k : Role) (X I : Term) → Mends f X I → Mends f (opened k X) I
  opened_mends k X I m_skip = m_skip
  opened_mends k X I (m_com i j o a e b x at os free) = asked_mends (role_eq k a) (Com i o a e b x) (Com j o a e b x) a k (m_com i j o a e b x at os free)
  opened_mends k X I (m_set i j x r e at free) = asked_mends (role_eq k r) (Set i x r e) (Set j x r e) r k (m_set i j x r e at free)
  opened_mends k X I (m_input i j x r at) = asked_mends (role_eq k r) (Input i x r) (Input j x r) r k (m_input i j x r at)
  opened_mends k X I (m_seq A B C D p q) = cond_both (empty A) (Seq A (opened k B)) (Seq (opened k A) B) (λ T. Mends f T (Seq C D))
      (λ yes. m_seq A (opened k B) C D p (opened_mends k B D q)) (λ no. m_seq (opened k A) B C D (opened_mends k A C p) q)
  opened_mends k X I (m_par A B C D p q) = m_par (opened k A) (opened k B) C D (opened_mends k A C p) (opened_mends k B D q)
  opened_mends k X I (m_if i j r g A B C D at free p q) = asked_mends (role_eq k r) (If i r g A B) (If j r g C D) r k (m_if i j r g A B C D at free p q)
  opened_mends k X I (m_while i j r g A C at free p) = asked_mends (role_eq k r) (While i r g A) (While j r g C) r k (m_while i j r g A C at free p)
  opened_mends k X I (m_scope i j r A C extra props level at roles p) =
      asked_mends (role_eq k r) (Scope i r A extra props level) (Scope j r C extra props level) r k (m_scope i j r A C extra props level at roles p)
  opened_mends k X I (m_before A B C a q) = cond_both (empty A) (Seq A (opened k B)) (Seq (opened k A) B) (λ T. Mends f T C)
      (λ yes. m_before A (opened k B) C a (opened_mends k B C q)) (λ no. m_before (opened k A) B C (opened_added k A a) q)
  opened_mends k X I (m_behind B A C q a) = cond_both (empty B) (Seq B (opened k A)) (Seq (opened k B) A) (λ T. Mends f T C)
      (λ yes. m_behind B (opened k A) C q (opened_added k A a)) (λ no. m_behind (opened k B) A C (opened_mends k B C q) a)

  through_mends : (m : Option Role) (X Y I J : Term) → Mends f X I → Mends f Y J → Mends f (through m X Y) (Seq I J)
  through_mends None X Y I J p q = m_seq X Y I J p q
  through_mends (Some k) X Y I J p q = m_seq (closed k X) (opened k Y) I J (closed_mends k X I p) (opened_mends k Y J q)

  join_mends : (cast : List Role) (X Y I J : Term) → Mends f X I → Mends f Y J → Mends f (join cast X Y) (Seq I J)
  join_mends cast X Y I J p q = cond_both (linked X Y) (Seq X Y) (through (first_starter cast Y) X Y) (λ T. Mends f T (Seq I J))
      (λ yes. m_seq X Y I J p q) (λ no. through_mends (first_starter cast Y) X Y I J p q)

-- Joining alone, which keeps the indices
module _ (ends : RolesAtEnds) where
  pub joined_mends : (cast : List Role) (I : Term) → taken_name I ≡ None → Mends (λ i. i) (relinked cast I) I
  joined_mends cast Skip h = m_skip
  joined_mends cast (Com i o a e b x) h = m_com i i o a e b x refl (first_free begins_sq o (variables_of e ++ x ∷ []) h)
      (find_parts begins_sq (variables_of e) (x ∷ []) (rest_free begins_sq o (variables_of e ++ x ∷ []) h)).0
  joined_mends cast (Set i x r e) h = m_set i i x r e refl (rest_free begins_sq x (variables_of e) h)
  joined_mends cast (Input i x r) h = m_input i i x r refl
  joined_mends cast (Seq I J) h =
      let parts = find_parts begins_sq (names_in I) (names_in J) h in
      join_mends cast (relinked cast I) (relinked cast J) I J (joined_mends cast I parts.0) (joined_mends cast J parts.1)
  joined_mends cast (Par I J) h =
      let parts = find_parts begins_sq (names_in I) (names_in J) h in
      m_par (relinked cast I) (relinked cast J) I J (joined_mends cast I parts.0) (joined_mends cast J parts.1)
  joined_mends cast (If i r g I J) h =
      let both = find_parts begins_sq (variables_of g) (names_in I ++ names_in J) h in
      let parts = find_parts begins_sq (names_in I) (names_in J) both.1 in
      m_if i i r g (relinked cast I) (relinked cast J) I J refl both.0 (joined_mends cast I parts.0) (joined_mends cast J parts.1)
  joined_mends cast (While i r g I) h =
      let both = find_parts begins_sq (variables_of g) (names_in I) h in
      m_while i i r g (relinked cast I) I refl both.0 (joined_mends cast I both.1)
  joined_mends cast (Scope i r I extra props level) h =
      m_scope i i r (relinked cast I) I extra props level refl (joined-roles ends cast I) (joined_mends cast I h)

-- The marks of the mended text
-- the map gives back, for each place from m on, the next of these indices
abbrev pub Finds : (Index → Index) → ℕ → ℕ → List Index → Type 0
Finds f n m [] = Unit {0}
Finds f n m (i ∷ is) = (f (at_epoch n (index_at m)) ≡ at_epoch n i) × Finds f n (suc m) is

finds_parts : (f : Index → Index) (n m : ℕ) (is js : List Index) → Finds f n m (is ++ js) → Finds f n m is × Finds f n (m + length is) js
finds_parts f n m [] js h = (tt, subst (λ k. Finds f n k js) (omega arith) h)
finds_parts f n m (i ∷ is) js h =
    let parts = finds_parts f n (suc m) is js h.1 in
    ((h.0, parts.0), subst (λ k. Finds f n k js) (omega arith) parts.1)

found_each : (f : Index → Index) (n m : ℕ) (is : List Index)
    → ((p : ℕ) → f (at_epoch n (index_at (m + p))) ≡ at_epoch n (unwrap_or (slice_get is p) (index_at 0))) → Finds f n m is
found_each f n m [] h = tt
found_each f n m (i ∷ is) h = (
  ap (λ k. f (at_epoch n (index_at k))) (omega arith) ∙ h 0,
  found_each f n (suc m) is (λ p. ap (λ k. f (at_epoch n (index_at k))) (omega arith) ∙ h (suc p)),
)

length_indices : (I : Term) → length (indices I) ≡ constructs I
length_indices Skip = refl
length_indices (Com i o a e b x) = refl
length_indices (Set i x r e) = refl
length_indices (Input i x r) = refl
length_indices (Seq I J) = length-append (indices I) (indices J) ∙ ap₂ (λ s t. s + t) (length_indices I) (length_indices J)
length_indices (Par I J) = length-append (indices I) (indices J) ∙ ap₂ (λ s t. s + t) (length_indices I) (length_indices J)
length_indices (If i r g I J) = ap suc (length-append (indices I) (indices J) ∙ ap₂ (λ s t. s + t) (length_indices I) (length_indices J))
length_indices (While i r g I) = ap suc (length_indices I)
length_indices (Scope i r I extra props level) = ap suc (length_indices I)

constructs_numbered : (k : ℕ) (I : Term) → constructs (with_numbers k I) ≡ constructs I
constructs_numbered k Skip = refl
constructs_numbered k (Com i o a e b x) = refl
constructs_numbered k (Set i x r e) = refl
constructs_numbered k (Input i x r) = refl
constructs_numbered k (Seq I J) = ap₂ (λ s t. s + t) (constructs_numbered k I) (constructs_numbered (k + added_messages I) J)
constructs_numbered k (Par I J) = ap₂ (λ s t. s + t) (constructs_numbered k I) (constructs_numbered (k + added_messages I) J)
constructs_numbered k (If i r g I J) = ap₂ (λ s t. suc (s + t)) (constructs_numbered k I) (constructs_numbered (k + added_messages I) J)
constructs_numbered k (While i r g I) = ap suc (constructs_numbered k I)
constructs_numbered k (Scope i r I extra props level) = ap suc (constructs_numbered k I)

module _ (mentioned : MentionsAreRoles) (bodies : StampedBodies) where
  marked_roles : (q : Role) (m k n level : ℕ) (X I : Term) → is_in q X ≡ is_in q I
      → is_in q (stamped (indexed_from m (with_numbers k X)) n level) ≡ is_in q (stamped I n level)
  marked_roles q m k n level X I h =
      bodies.named q (indexed_from m (with_numbers k X)) n level ∙ sym (is_in-erased mentioned nameless q (indexed_from m (with_numbers k X)))
      ∙ ap (is_in q) (erased-indexed nameless m (with_numbers k X) ∙ erased-numbered k X) ∙ is_in-erased mentioned nameless q X ∙ h ∙ sym (bodies.named q I n level)

  added_marked : (n level m k : ℕ) (X : Term) → AddedTerm X → AddedTerm (stamped (indexed_from m (with_numbers k X)) n level)
  added_marked n level m k X (added_seq A B a b) =
      added_seq (stamped (indexed_from m (with_numbers k A)) n level) (stamped (indexed_from (m + constructs (with_numbers k A)) (with_numbers (k + added_messages A) B)) n level)
      (added_marked n level m k A a) (added_marked n level (m + constructs (with_numbers k A)) (k + added_messages A) B b)
  added_marked n level m k X (added_com i o a e b x os xs) =
      subst (λ op. AddedTerm (Com (at_epoch n (index_at m)) op a e b x)) (sym (cond-true (begins_sq o) (sq_name k) o os))
      (added_com (at_epoch n (index_at m)) (sq_name k) a e b x (sq_name_begins k) xs)

  module _ (f : Index → Index) (n level : ℕ) where
    second_finds : (m k : ℕ) (A : Term) (js : List Index) → Finds f n (m + length (indices A)) js → Finds f n (m + constructs (with_numbers k A)) js
    second_finds m k A js h = subst (λ c. Finds f n (m + c) js) (length_indices A ∙ sym (constructs_numbered k A)) h

    marks_mend : (X I : Term) → Mends (λ i. i) X I → (m k : ℕ) → Finds f n m (indices X)
        → Mends f (stamped (indexed_from m (with_numbers k X)) n level) (stamped I n level)
    marks_mend X I m_skip m k h = m_skip
    marks_mend X I (m_com i j o a e b x at os free) m k h =
        subst (λ op. Mends f (Com (at_epoch n (index_at m)) op a e b x) (Com (at_epoch n j) o a e b x)) (sym (cond-false (begins_sq o) (sq_name k) o os))
        (m_com (at_epoch n (index_at m)) (at_epoch n j) o a e b x (h.0 ∙ ap (at_epoch n) at) os free)
    marks_mend X I (m_set i j x r e at free) m k h = m_set (at_epoch n (index_at m)) (at_epoch n j) x r e (h.0 ∙ ap (at_epoch n) at) free
    marks_mend X I (m_input i j x r at) m k h = m_input (at_epoch n (index_at m)) (at_epoch n j) x r (h.0 ∙ ap (at_epoch n) at)
    marks_mend X I (m_seq A B C D p q) m k h =
        let parts = finds_parts f n m (indices A) (indices B) h in
        m_seq _ _ _ _ (marks_mend A C p m k parts.0)
        (marks_mend B D q (m + constructs (with_numbers k A)) (k + added_messages A) (second_finds m k A (indices B) parts.1))
    marks_mend X I (m_par A B C D p q) m k h =
        let parts = finds_parts f n m (indices A) (indices B) h in
        m_par _ _ _ _ (marks_mend A C p m k parts.0)
        (marks_mend B D q (m + constructs (with_numbers k A)) (k + added_messages A) (second_finds m k A (indices B) parts.1))
    marks_mend X I (m_if i j r g A B C D at free p q) m k h =
        let parts = finds_parts f n (suc m) (indices A) (indices B) h.1 in
        m_if (at_epoch n (index_at m)) (at_epoch n j) r g _ _ _ _ (h.0 ∙ ap (at_epoch n) at) free (marks_mend A C p (suc m) k parts.0)
        (marks_mend B D q (suc m + constructs (with_numbers k A)) (k + added_messages A) (second_finds (suc m) k A (indices B) parts.1))
    marks_mend X I (m_while i j r g A C at free p) m k h =
        m_while (at_epoch n (index_at m)) (at_epoch n j) r g _ _ (h.0 ∙ ap (at_epoch n) at) free (marks_mend A C p (suc m) k h.1)
    marks_mend X I (m_scope i j r A C extra props l at roles p) m k h =
        m_scope (at_epoch n (index_at m)) (at_epoch n j) r _ _ extra props level (h.0 ∙ ap (at_epoch n) at)
        (λ q. marked_roles q (suc m) k n level A C (roles q)) (marks_mend A C p (suc m) k h.1)
    marks_mend X I (m_before A B C a q) m k h =
        let parts = finds_parts f n m (indices A) (indices B) h in
        m_before _ _ _ (added_marked n level m k A a)
        (marks_mend B C q (m + constructs (with_numbers k A)) (k + added_messages A) (second_finds m k A (indices B) parts.1))
    marks_mend X I (m_behind B A C q a) m k h =
        let parts = finds_parts f n m (indices B) (indices A) h in
        m_behind _ _ _ (marks_mend B C q m k parts.0) (added_marked n level (m + constructs (with_numbers k B)) (k + added_messages B) A a)

    -- the mended body beside the input's, as an update
    pub stamped_beside : RolesAtEnds → (cast : List Role) (I : Term) → taken_name I ≡ None
        → ((p : ℕ) → f (at_epoch n (index_at p)) ≡ at_epoch n (index_before cast I p)) → Mends f (stamped (mended cast I) n level) (stamped I n level)
    stamped_beside ends cast I free h = marks_mend (relinked cast I) I (joined_mends ends cast I free) 0 0
        (found_each f n 0 (indices (relinked cast I)) (λ p. ap (λ k. f (at_epoch n (index_at k))) (omega arith) ∙ h p))

  -- and the mended program beside the input's
  pub program_beside : RolesAtEnds → (f : Index → Index) (cast : List Role) (I : Term) → I ≡ indexed I → taken_name I ≡ None
      → ((p : ℕ) → f (index_at p) ≡ at_epoch 0 (index_before cast I p)) → Mends f (mended cast I) I
  program_beside ends f cast I marks free h =
      subst (λ X. Mends f X I) (marked_stamped 0 (with_numbers 0 (relinked cast I)))
      (subst (λ J. Mends f (stamped (mended cast I) 0 0) J) (ap (λ J. stamped J 0 0) marks ∙ marked_stamped 0 I ∙ sym marks)
      (stamped_beside f 0 0 ends cast I free h))

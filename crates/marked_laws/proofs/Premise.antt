-- What the proofs ask of terms, from what is asked of a sound bundle.
use Rattle.std.proofs.Common.{◌≡◌, ◌⊎◌, ◌≤◌, ◌<◌, ℕ, suc, ◌+◌, List, [], ◌∷◌, ◌++◌, Bool, true, false, ◌&&◌, refl, sym, ap, ap₂, ◌∙◌, subst, inl, inr, ⊎_elim, arith}
use Rattle.std.specs.List.{list_all}
use Rattle.std.proofs.lemmas.Bool.{and_parts, or_cases, cases_Bool, cond-true, both_ways}
use Rattle.dioc_terms.specs.declared.names.Role.{Role}
use Rattle.dioc_terms.specs.declared.names.Index.{Index}
use Rattle.dioc_terms.specs.Equality.{role_eq, member}
use Rattle.dioc_terms.specs.TermLaws.{MentionsAreRoles, CastsAreRoles, StampedBodies}
use Rattle.dioc_terms.specs.Terms.{Term, Skip, Com, Set, Input, Seq, Par, If, While, Scope, is_in, stamped, at_epoch, self_messages, constructs, index_at, indexed_from, indexed}
use Rattle.connectedness.specs.Connected.{linked, connected}
use Rattle.connectedness.specs.Laws.{RolesAtEnds, StampedConnected}
use Rattle.marked_laws.proofs.Equality.{role_same}
use Rattle.marked_laws.proofs.Keeps.{stamped_new}
use Rattle.marked_laws.proofs.Proper.{Connected, NoSelf, Within, Distinct, Proper}
use Rattle.marked_laws.proofs.Shapes.{some_nil}

-- what the crates below prove of terms
abbrev pub Known : Type 0
Known = record { mentions : MentionsAreRoles; casts : CastsAreRoles; bodies : StampedBodies; ends : RolesAtEnds; stamps : StampedConnected }

-- a test that holds of all roles of a list
pub all_member : (f : Role → Bool) (rs : List Role) (q : Role) → list_all f rs ≡ true → member q rs ≡ true → f q ≡ true
all_member f [] q h k = absurd (both_ways false refl k)
all_member f (r ∷ rs) q h k =
    let parts = and_parts (f r) (list_all f rs) h in
    ⊎_elim (λ is. subst (λ y. f y ≡ true) (sym (role_same q r is)) parts.0) (λ later. all_member f rs q parts.1 later) (or_cases (role_eq q r) (member q rs) k)

both_nil : {A : Type 0} (xs ys : List A) → xs ++ ys ≡ [] → (xs ≡ []) × (ys ≡ [])
both_nil [] ys h = (refl, h)
both_nil (x ∷ xs) ys h = cc

pub no_self_is : (I : Term) → self_messages I ≡ [] → NoSelf I
no_self_is (Com i o a e b x) h = ⊎_elim (λ yes. absurd (some_nil (sym (cond-true (role_eq a b) (i ∷ []) [] yes) ∙ h))) (λ no. no) (cases_Bool (role_eq a b))
no_self_is (Seq I J) h = let parts = both_nil (self_messages I) (self_messages J) h in (no_self_is I parts.0, no_self_is J parts.1)
no_self_is (Par I J) h = let parts = both_nil (self_messages I) (self_messages J) h in (no_self_is I parts.0, no_self_is J parts.1)
no_self_is (If i r g I J) h = let parts = both_nil (self_messages I) (self_messages J) h in (no_self_is I parts.0, no_self_is J parts.1)
no_self_is (While i r g I) h = no_self_is I h
no_self_is (Scope i r I extra props level) h = no_self_is I h
no_self_is Skip h = tt
no_self_is (Set i x r e) h = tt
no_self_is (Input i x r) h = tt

-- among so many places from one on
abbrev Among : ℕ → ℕ → ℕ → Type 0
Among p n count = (n ≤ p) × (p < n + count)

among_one : (p n : ℕ) → p ≡ n → Among p n 1
among_one p n h = (omega (arith, h), omega (arith, h))

among_two : (p n a b : ℕ) → Among p n a ⊎ Among p (n + a) b → Among p n (a + b)
among_two p n a b (inl h) = (h.0, omega (arith, h.1))
among_two p n a b (inr h) = (omega (arith, h.0), omega (arith, h.1))

among_more : (p n a : ℕ) → (p ≡ n) ⊎ Among p (suc n) a → Among p n (suc a)
among_more p n a (inl h) = (omega (arith, h), omega (arith, h))
among_more p n a (inr h) = (omega (arith, h.0), omega (arith, h.1))

among_apart : (p n a b : ℕ) → Among p n a → Among p (n + a) b → ⊥
among_apart p n a b h k = omega (arith, h.1, k.0)

among_own : (p n a : ℕ) → p ≡ n → Among p (suc n) a → ⊥
among_own p n a is h = omega (arith, is, h.0)

-- Marking gives places in order: those of a part are in a row.
placed : (I : Term) (n m level : ℕ) (j : Index) → Within j (stamped (indexed_from n I) m level) → Among j.place n (constructs I)
placed Skip n m level j h = absurd h
placed (Com i o a e b x) n m level j h = among_one j.place n (ap (λ (k : Index). k.place) h)
placed (Set i x r e) n m level j h = among_one j.place n (ap (λ (k : Index). k.place) h)
placed (Input i x r) n m level j h = among_one j.place n (ap (λ (k : Index). k.place) h)
placed (Seq I J) n m level j h = among_two j.place n (constructs I) (constructs J)
    (⊎_elim (λ k. inl (placed I n m level j k)) (λ k. inr (placed J (n + constructs I) m level j k)) h)
placed (Par I J) n m level j h = among_two j.place n (constructs I) (constructs J)
    (⊎_elim (λ k. inl (placed I n m level j k)) (λ k. inr (placed J (n + constructs I) m level j k)) h)
placed (If i r g I J) n m level j h = among_more j.place n (constructs I + constructs J)
    (⊎_elim (λ k. inl (ap (λ (l : Index). l.place) k))
    (λ k. inr (among_two j.place (suc n) (constructs I) (constructs J)
    (⊎_elim (λ l. inl (placed I (suc n) m level j l)) (λ l. inr (placed J (suc n + constructs I) m level j l)) k))) h)
placed (While i r g I) n m level j h = among_more j.place n (constructs I)
    (⊎_elim (λ k. inl (ap (λ (l : Index). l.place) k)) (λ k. inr (placed I (suc n) m level j k)) h)
placed (Scope i r I extra props _) n m level j h = among_more j.place n (constructs I)
    (⊎_elim (λ k. inl (ap (λ (l : Index). l.place) k)) (λ k. inr (placed I (suc n) m level j k)) h)

-- so no two constructs of a marked term have one index, whatever the update
distinct_marked : (I : Term) (n m level : ℕ) → Distinct (stamped (indexed_from n I) m level)
distinct_marked Skip n m level = tt
distinct_marked (Com i o a e b x) n m level = tt
distinct_marked (Set i x r e) n m level = tt
distinct_marked (Input i x r) n m level = tt
distinct_marked (Seq I J) n m level = (
  λ j h k. among_apart j.place n (constructs I) (constructs J) (placed I n m level j h) (placed J (n + constructs I) m level j k),
  distinct_marked I n m level,
  distinct_marked J (n + constructs I) m level,
)
distinct_marked (Par I J) n m level = (
  λ j h k. among_apart j.place n (constructs I) (constructs J) (placed I n m level j h) (placed J (n + constructs I) m level j k),
  distinct_marked I n m level,
  distinct_marked J (n + constructs I) m level,
)
distinct_marked (If i r g I J) n m level = (
  λ j h k. among_apart j.place (suc n) (constructs I) (constructs J) (placed I (suc n) m level j h) (placed J (suc n + constructs I) m level j k),
  λ h. among_own n n (constructs I) refl (placed I (suc n) m level (at_epoch m (index_at n)) h),
  λ h. among_own n n (constructs I + constructs J) refl
      (among_two n (suc n) (constructs I) (constructs J) (inr (placed J (suc n + constructs I) m level (at_epoch m (index_at n)) h))),
  distinct_marked I (suc n) m level,
  distinct_marked J (suc n + constructs I) m level,
)
distinct_marked (While i r g I) n m level =
    (λ h. among_own n n (constructs I) refl (placed I (suc n) m level (at_epoch m (index_at n)) h), distinct_marked I (suc n) m level)
distinct_marked (Scope i r I extra props _) n m level =
    (λ h. among_own n n (constructs I) refl (placed I (suc n) m level (at_epoch m (index_at n)) h), distinct_marked I (suc n) m level)

-- a marked text is as it were the update of number 0
marked_stamped : (I : Term) (n : ℕ) → stamped (indexed_from n I) 0 0 ≡ indexed_from n I
marked_stamped Skip n = refl
marked_stamped (Com i o a e b x) n = refl
marked_stamped (Set i x r e) n = refl
marked_stamped (Input i x r) n = refl
marked_stamped (Seq I J) n = ap₂ Seq (marked_stamped I n) (marked_stamped J (n + constructs I))
marked_stamped (Par I J) n = ap₂ Par (marked_stamped I n) (marked_stamped J (n + constructs I))
marked_stamped (If i r g I J) n = ap₂ (If (index_at n) r g) (marked_stamped I (suc n)) (marked_stamped J (suc n + constructs I))
marked_stamped (While i r g I) n = ap (While (index_at n) r g) (marked_stamped I (suc n))
marked_stamped (Scope i r I extra props level) n = ap (λ B. Scope (index_at n) r B extra props 0) (marked_stamped I (suc n))

module _ (known : Known) where
  connected_is : (I : Term) → connected I ≡ true → Connected I
  connected_is (Seq I J) h =
      let last = and_parts (linked I J && connected I) (connected J) h in
      let first = and_parts (linked I J) (connected I) last.0 in
      (known.ends.links I J first.0, connected_is I first.1, connected_is J last.1)
  connected_is (Par I J) h = let parts = and_parts (connected I) (connected J) h in (connected_is I parts.0, connected_is J parts.1)
  connected_is (If i r g I J) h = let parts = and_parts (connected I) (connected J) h in (connected_is I parts.0, connected_is J parts.1)
  connected_is (While i r g I) h = connected_is I h
  connected_is (Scope i r I extra props level) h = connected_is I h
  connected_is Skip h = tt
  connected_is (Com i o a e b x) h = tt
  connected_is (Set i x r e) h = tt
  connected_is (Input i x r) h = tt

  -- a choreography of a text is proper, and its indices are of epoch 0
  pub proper_text : (cast : List Role) (I : Term) → I ≡ indexed I → connected I ≡ true → self_messages I ≡ []
      → ((q : Role) → is_in q I ≡ true → member q cast ≡ true) → Proper cast I
  proper_text cast I marks joined none roles = record {
    connected = connected_is I joined;
    no_self = no_self_is I none;
    distinct = subst Distinct (marked_stamped I 0 ∙ sym marks) (distinct_marked I 0 0 0);
    in_cast = roles;
  }

  -- a rule's body is proper once it is stamped
  pub proper_update : (cast : List Role) (I : Term) (m level : ℕ) → I ≡ indexed I → connected I ≡ true → self_messages I ≡ []
      → ((q : Role) → is_in q I ≡ true → member q cast ≡ true) → Proper cast (stamped I m level)
  proper_update cast I m level marks joined none roles = record {
    connected = connected_is (stamped I m level) (known.stamps.as_connected I m level ∙ joined);
    no_self = no_self_is (stamped I m level) (known.bodies.none_to_self I m level none);
    distinct = subst (λ B. Distinct (stamped B m level)) (sym marks) (distinct_marked I 0 m level);
    in_cast = λ q h. roles q (sym (known.bodies.named q I m level) ∙ h);
  }

pub text_epoch : (I : Term) → I ≡ indexed I → (n : Index) → Within n I → n.epoch ≡ 0
text_epoch I marks n h = stamped_new (indexed_from 0 I) 0 0 n (subst (Within n) (marks ∙ sym (marked_stamped I 0)) h)

-- The pending messages as a map.
use Rattle.std.proofs.Common.{◌≡◌, List, [], ◌∷◌, ◌++◌, map, Bool, true, false, ◌||◌, not, Option, Some, None, if◌then◌else◌, refl, sym, ap, ◌∙◌, subst, ⊎_elim}
use Rattle.std.proofs.lemmas.Bool.{and_parts, and_from, both_ways, cases_Bool, cond-true, cond-false, not-true, not_from_false, or_parts, or_from, false_from_ne_true}
use Rattle.dioc_terms.specs.declared.processes.Key.{Key}
use Rattle.dioc_terms.specs.Equality.{key_eq}
use Rattle.dioc_terms.specs.Processes.{Load}
use Rattle.marked_laws.specs.Laws.{key_among, distinct_keys}
use Rattle.marked_laws.specs.MailLaws.{HasDistinctKeys, MailIsAMap}
use Rattle.network_steps.specs.Network.{pending_at, without, no_message}
use Rattle.marked_laws.proofs.Equality.{key_same, key_itself}

some_none : {A : Type 0} {x : A} → Some x ≡ None → ⊥
some_none h = cc

abbrev keys_of : List (Key × Load) → List Key
keys_of pending = map (λ message. message.0) pending

-- a key that isn't among those of the messages isn't pending
absent : (k : Key) (pending : List (Key × Load)) → key_among k (keys_of pending) ≡ false → pending_at k pending ≡ None
absent k [] h = refl
absent k (message ∷ rest) h =
    let parts = or_parts (key_eq k message.0) (key_among k (keys_of rest)) h in
    cond-false (key_eq k message.0) (Some message.1) (pending_at k rest) parts.0 ∙ absent k rest parts.1

-- a key that isn't pending is none of theirs
unpending : (k : Key) (message : Key × Load) (rest : List (Key × Load)) → pending_at k (message ∷ rest) ≡ None
    → (key_eq k message.0 ≡ false) × (pending_at k rest ≡ None)
unpending k message rest h = ⊎_elim
    (λ yes. absurd (some_none (sym (cond-true (key_eq k message.0) (Some message.1) (pending_at k rest) yes) ∙ h)))
    (λ no. (no, sym (cond-false (key_eq k message.0) (Some message.1) (pending_at k rest) no) ∙ h))
    (cases_Bool (key_eq k message.0))

module _ (k : Key) (l : Load) where
  after_put : (pending : List (Key × Load)) (other : Key) → pending_at k pending ≡ None
      → pending_at other (pending ++ (k, l) ∷ []) ≡ (if key_eq other k then Some l else pending_at other pending)
  after_put [] other h = refl
  after_put (message ∷ rest) other h =
      let none = unpending k message rest h in
      ap (λ m. if key_eq other message.0 then Some message.1 else m) (after_put rest other none.1)
      ∙ swapped (key_eq other k) (key_eq other message.0) (λ same. subst (λ j. key_eq j message.0 ≡ false) (sym (key_same other k same)) none.0)
    where
      swapped : (put here : Bool) → (put ≡ true → here ≡ false)
          → (if here then Some message.1 else if put then Some l else pending_at other rest)
          ≡ (if put then Some l else if here then Some message.1 else pending_at other rest)
      swapped true here apart = cond-false here (Some message.1) (Some l) (apart refl)
      swapped false here apart = refl

  among_put : (other : Key) (pending : List (Key × Load)) → key_among other (keys_of (pending ++ (k, l) ∷ [])) ≡ (key_among other (keys_of pending) || key_eq other k)
  among_put other [] = or_none (key_eq other k)
    where
      or_none : (b : Bool) → (b || false) ≡ b
      or_none true = refl
      or_none false = refl
  among_put other (message ∷ rest) = ap (λ b. key_eq other message.0 || b) (among_put other rest) ∙ regroup (key_eq other message.0) _ _
    where
      regroup : (a b c : Bool) → (a || (b || c)) ≡ ((a || b) || c)
      regroup true b c = refl
      regroup false b c = refl

  put_distinct : (pending : List (Key × Load)) → HasDistinctKeys pending → pending_at k pending ≡ None → HasDistinctKeys (pending ++ (k, l) ∷ [])
  put_distinct [] h none = refl
  put_distinct (message ∷ rest) h none =
      let parts = and_parts (not (key_among message.0 (keys_of rest))) (distinct_keys (keys_of rest)) h in
      let apart = unpending k message rest none in
      and_from (not (key_among message.0 (keys_of (rest ++ (k, l) ∷ [])))) _
      (not_from_false _ (among_put message.0 rest
      ∙ or_from _ _ (not-true _ parts.0)
      (false_from_ne_true (key_eq message.0 k) (λ same. both_ways (key_eq k message.0) apart.0 (subst (λ j. key_eq j message.0 ≡ true) (key_same message.0 k same) (key_itself message.0))))))
      (put_distinct rest parts.1 apart.1)

module _ (k : Key) where
  without_here : (message : Key × Load) (rest : List (Key × Load)) → key_eq k message.0 ≡ true → without k (message ∷ rest) ≡ rest
  without_here message rest h = cond-true (key_eq k message.0) rest (message ∷ without k rest) h

  without_there : (message : Key × Load) (rest : List (Key × Load)) → key_eq k message.0 ≡ false → without k (message ∷ rest) ≡ message ∷ without k rest
  without_there message rest h = cond-false (key_eq k message.0) rest (message ∷ without k rest) h

  after_take : (pending : List (Key × Load)) (other : Key) → HasDistinctKeys pending
      → pending_at other (without k pending) ≡ (if key_eq other k then None else pending_at other pending)
  after_take [] other h = either_none (key_eq other k)
    where
      either_none : (b : Bool) → ◌≡◌ {A = Option Load} None (if b then None else None)
      either_none true = refl
      either_none false = refl
  after_take (message ∷ rest) other h =
      let parts = and_parts (not (key_among message.0 (keys_of rest))) (distinct_keys (keys_of rest)) h in
      ⊎_elim
      (λ here. ap (pending_at other) (without_here message rest here)
      ∙ gone (key_eq other k) (key_eq other message.0)
      (λ same. subst (λ j. pending_at j rest ≡ None) (sym (key_same k message.0 here) ∙ sym (key_same other k same)) (absent message.0 rest (not-true _ parts.0)))
      (λ differs. subst (λ j. key_eq other j ≡ false) (key_same k message.0 here) differs))
      (λ there. ap (pending_at other) (without_there message rest there)
      ∙ ap (λ m. if key_eq other message.0 then Some message.1 else m) (after_take rest other parts.1)
      ∙ kept (key_eq other k) (key_eq other message.0) (λ same. subst (λ j. key_eq j message.0 ≡ false) (sym (key_same other k same)) there))
      (cases_Bool (key_eq k message.0))
    where
      gone : (taken here : Bool) → (taken ≡ true → pending_at other rest ≡ None) → (taken ≡ false → here ≡ false)
          → pending_at other rest ≡ (if taken then None else if here then Some message.1 else pending_at other rest)
      gone true here none apart = none refl
      gone false here none apart = sym (cond-false here (Some message.1) (pending_at other rest) (apart refl))

      kept : (taken here : Bool) → (taken ≡ true → here ≡ false)
          → (if here then Some message.1 else if taken then None else pending_at other rest)
          ≡ (if taken then None else if here then Some message.1 else pending_at other rest)
      kept true here apart = cond-false here (Some message.1) None (apart refl)
      kept false here apart = refl

  among_without : (other : Key) (pending : List (Key × Load)) → key_among other (keys_of pending) ≡ false → key_among other (keys_of (without k pending)) ≡ false
  among_without other [] h = refl
  among_without other (message ∷ rest) h =
      let parts = or_parts (key_eq other message.0) (key_among other (keys_of rest)) h in
      ⊎_elim
      (λ here. ap (λ p. key_among other (keys_of p)) (without_here message rest here) ∙ parts.1)
      (λ there. ap (λ p. key_among other (keys_of p)) (without_there message rest there)
      ∙ or_from (key_eq other message.0) (key_among other (keys_of (without k rest))) parts.0 (among_without other rest parts.1))
      (cases_Bool (key_eq k message.0))

  take_distinct : (pending : List (Key × Load)) → HasDistinctKeys pending → HasDistinctKeys (without k pending)
  take_distinct [] h = refl
  take_distinct (message ∷ rest) h =
      let parts = and_parts (not (key_among message.0 (keys_of rest))) (distinct_keys (keys_of rest)) h in
      ⊎_elim
      (λ here. ap (λ p. distinct_keys (keys_of p)) (without_here message rest here) ∙ parts.1)
      (λ there. ap (λ p. distinct_keys (keys_of p)) (without_there message rest there)
      ∙ and_from (not (key_among message.0 (keys_of (without k rest)))) (distinct_keys (keys_of (without k rest)))
      (not_from_false _ (among_without message.0 rest (not-true _ parts.0))) (take_distinct rest parts.1))
      (cases_Bool (key_eq k message.0))

none_pending : (pending : List (Key × Load)) → ((k : Key) → pending_at k pending ≡ None) → no_message pending ≡ true
none_pending [] h = refl
none_pending (message ∷ rest) h = absurd (both_ways (key_eq message.0 message.0) (unpending message.0 message rest (h message.0)).0 (key_itself message.0))

pub mail-is_a_map : MailIsAMap
mail-is_a_map = record {
  put = λ pending k l other none. after_put k l pending other none;
  taken = λ pending k x l other distinct. after_take k pending other distinct;
  put_distinct = λ pending k l distinct none. put_distinct k l pending distinct none;
  take_distinct = λ pending k x l distinct. take_distinct k pending distinct;
  empty = none_pending;
}

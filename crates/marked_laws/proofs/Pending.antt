-- The pending messages, seen as the payloads of each key in their order: a mark has at most one of each key.
use Rattle.std.proofs.Common.{◌≡◌, List, [], ◌∷◌, ◌++◌, map, Bool, true, false, if◌then◌else◌, Option, Some, None, refl, sym, ap, ◌∙◌, subst, ⊎_elim, append-nil}
use Rattle.std.proofs.lemmas.Bool.{cases_Bool, cond-true, cond-false, both_ways, or_from, and_from, not_from_false}
use Rattle.dioc_terms.specs.declared.processes.Key.{Key}
use Rattle.dioc_terms.specs.Equality.{key_eq}
use Rattle.dioc_terms.specs.Processes.{Load}
use Rattle.process_steps.specs.Steps.{Deed, Puts, Takes, Sets, Inputs, Picks, Chooses}
use Rattle.marked_laws.specs.Laws.{key_among, distinct_keys}
use Rattle.network_steps.specs.Network.{pending_at, without, pending_after}
use Rattle.marked_laws.proofs.Shapes.{some_nil}
use Rattle.marked_laws.proofs.Equality.{key_same, key_itself}
use Rattle.marked_laws.proofs.Mails.{mail_after, MailFits}

-- the payloads of a key, in their order
abbrev pub loads : Key → List (Key × Load) → List Load
loads k [] = []
loads k (message ∷ rest) = if key_eq k message.0 then message.1 ∷ loads k rest else loads k rest

abbrev pub queued : Option Load → List Load
queued None = []
queued (Some l) = l ∷ []

abbrev pub first_load : List Load → Option Load
first_load [] = None
first_load (l ∷ ls) = Some l

abbrev pub later_loads : List Load → List Load
later_loads [] = []
later_loads (l ∷ ls) = ls

pending_first : (k : Key) (p : List (Key × Load)) → pending_at k p ≡ first_load (loads k p)
pending_first k [] = refl
pending_first k (message ∷ rest) = ⊎_elim
    (λ yes. cond-true (key_eq k message.0) _ _ yes ∙ sym (ap first_load (cond-true (key_eq k message.0) _ (loads k rest) yes)))
    (λ no. cond-false (key_eq k message.0) _ _ no ∙ pending_first k rest ∙ sym (ap first_load (cond-false (key_eq k message.0) _ (loads k rest) no)))
    (cases_Bool (key_eq k message.0))

-- where at most one message of a key is pending, it is found
pub pending_is : (k : Key) (p : List (Key × Load)) (o : Option Load) → loads k p ≡ queued o → pending_at k p ≡ o
pending_is k p o h = pending_first k p ∙ ap first_load h ∙ first_queued o
  where
    first_queued : (o : Option Load) → first_load (queued o) ≡ o
    first_queued None = refl
    first_queued (Some l) = refl

loads-put : (k : Key) (p : List (Key × Load)) (j : Key) (l : Load) → loads k (p ++ (j, l) ∷ []) ≡ loads k p ++ (if key_eq k j then l ∷ [] else [])
loads-put k [] j l = refl
loads-put k (message ∷ rest) j l =
    ap (λ ls. if key_eq k message.0 then message.1 ∷ ls else ls) (loads-put k rest j l) ∙ over_test (key_eq k message.0)
  where
    over_test : (b : Bool) → (if b then message.1 ∷ (loads k rest ++ (if key_eq k j then l ∷ [] else [])) else loads k rest ++ (if key_eq k j then l ∷ [] else []))
        ≡ (if b then message.1 ∷ loads k rest else loads k rest) ++ (if key_eq k j then l ∷ [] else [])
    over_test true = refl
    over_test false = refl

-- a take removes the first payload of its key
loads-take : (k j : Key) (p : List (Key × Load)) → loads k (without j p) ≡ (if key_eq k j then later_loads (loads k p) else loads k p)
loads-take k j [] = by_test (key_eq k j)
  where
    none : List Load
    none = []

    by_test : (b : Bool) → none ≡ (if b then none else none)
    by_test true = refl
    by_test false = refl
loads-take k j (message ∷ rest) = ⊎_elim
    (λ first.
    ap (loads k) (cond-true (key_eq j message.0) rest (message ∷ without j rest) first)
    ∙ by_test (key_eq k j)
    ∙ ap (λ n. if key_eq k j then later_loads (if key_eq k n then message.1 ∷ loads k rest else loads k rest) else if key_eq k n then message.1 ∷ loads k rest else loads k rest)
    (key_same j message.0 first))
    (λ later.
    ap (loads k) (cond-false (key_eq j message.0) rest (message ∷ without j rest) later)
    ∙ ap (λ ls. if key_eq k message.0 then message.1 ∷ ls else ls) (loads-take k j rest)
    ∙ other (key_eq k j) (key_eq k message.0) (λ is at. both_ways (key_eq j message.0) later
    (subst (λ n. key_eq n message.0 ≡ true) (key_same k j is) at)))
    (cases_Bool (key_eq j message.0))
  where
    by_test : (b : Bool) → loads k rest ≡ (if b then later_loads (if b then message.1 ∷ loads k rest else loads k rest) else if b then message.1 ∷ loads k rest else loads k rest)
    by_test true = refl
    by_test false = refl

    other : (b t : Bool) → (b ≡ true → t ≡ true → ⊥)
        → (if t then message.1 ∷ (if b then later_loads (loads k rest) else loads k rest) else if b then later_loads (loads k rest) else loads k rest)
        ≡ (if b then later_loads (if t then message.1 ∷ loads k rest else loads k rest) else if t then message.1 ∷ loads k rest else loads k rest)
    other true true h = absurd (h refl refl)
    other true false h = refl
    other false t h = refl

-- the pending messages after a deed are those of the mail after it
pub pending_step : (d : Deed) (mails : Key → Option Load) (p : List (Key × Load)) → MailFits d mails → ((k : Key) → loads k p ≡ queued (mails k))
    → (k : Key) → loads k (pending_after d p) ≡ queued (mail_after d k (mails k))
pending_step (Puts j l) mails p fits h k =
    loads-put k p j l ∙ ap (λ ls. ls ++ (if key_eq k j then l ∷ [] else [])) (h k)
    ∙ ⊎_elim
    (λ is. ap (λ t. queued (mails k) ++ (if t then l ∷ [] else [])) is
    ∙ ap (λ o. queued o ++ l ∷ []) (ap mails (key_same k j is) ∙ fits)
    ∙ sym (ap (λ t. queued (if t then Some l else mails k)) is))
    (λ no. ap (λ t. queued (mails k) ++ (if t then l ∷ [] else [])) no ∙ append-nil (queued (mails k)) ∙ sym (ap (λ t. queued (if t then Some l else mails k)) no))
    (cases_Bool (key_eq k j))
pending_step (Takes j x l) mails p fits h k =
    loads-take k j p ∙ ap (λ ls. if key_eq k j then later_loads ls else ls) (h k) ∙ by_test (key_eq k j) (mails k)
  where
    by_test : (t : Bool) (o : Option Load) → (if t then later_loads (queued o) else queued o) ≡ queued (if t then None else o)
    by_test true None = refl
    by_test true (Some m) = refl
    by_test false o = refl
pending_step (Sets i r x v) mails p fits h k = h k
pending_step (Inputs i r x v) mails p fits h k = h k
pending_step (Picks i r b) mails p fits h k = h k
pending_step (Chooses i r c) mails p fits h k = h k

-- where no key has a message none is pending
pub no_loads : (p : List (Key × Load)) → ((k : Key) → loads k p ≡ []) → p ≡ []
no_loads [] h = refl
no_loads (message ∷ rest) h = absurd (some_nil
    (sym (cond-true (key_eq message.0 message.0) (message.1 ∷ loads message.0 rest) (loads message.0 rest) (key_itself message.0)) ∙ h message.0))

-- a key without a message isn't among the keys of the messages
none_among : (k : Key) (p : List (Key × Load)) → loads k p ≡ [] → key_among k (map (λ message. message.0) p) ≡ false
none_among k [] h = refl
none_among k (message ∷ rest) h = ⊎_elim
    (λ yes. absurd (some_nil (sym (cond-true (key_eq k message.0) (message.1 ∷ loads k rest) (loads k rest) yes) ∙ h)))
    (λ no. or_from (key_eq k message.0) _ no (none_among k rest (sym (cond-false (key_eq k message.0) (message.1 ∷ loads k rest) (loads k rest) no) ∙ h)))
    (cases_Bool (key_eq k message.0))

one_queued : (l : Load) (ls : List Load) (o : Option Load) → l ∷ ls ≡ queued o → ls ≡ []
one_queued l ls None h = absurd (some_nil h)
one_queued l ls (Some m) h = cc

-- where each key has at most one message no two have one key
pub pending_distinct : (p : List (Key × Load)) → ((k : Key) → (o : Option Load) × (loads k p ≡ queued o)) → distinct_keys (map (λ message. message.0) p) ≡ true
pending_distinct [] h = refl
pending_distinct (message ∷ rest) h =
    let here = h message.0 in
    and_from _ _
    (not_from_false _ (none_among message.0 rest (one_queued message.1 (loads message.0 rest) here.0
    (sym (cond-true (key_eq message.0 message.0) (message.1 ∷ loads message.0 rest) (loads message.0 rest) (key_itself message.0)) ∙ here.1))))
    (pending_distinct rest (λ k. later k (h k)))
  where
    later : (k : Key) → (o : Option Load) × (loads k (message ∷ rest) ≡ queued o) → (o : Option Load) × (loads k rest ≡ queued o)
    later k at = ⊎_elim
        (λ yes. (None, one_queued message.1 (loads k rest) at.0 (sym (cond-true (key_eq k message.0) (message.1 ∷ loads k rest) (loads k rest) yes) ∙ at.1)))
        (λ no. (at.0, sym (cond-false (key_eq k message.0) (message.1 ∷ loads k rest) (loads k rest) no) ∙ at.1))
        (cases_Bool (key_eq k message.0))

-- Where messages arrive, found from the last entry to the first.
use Rattle.std.proofs.Common.{◌≡◌, ◌⊎◌, ℕ, ◌+◌, ◌<◌, ◌≤◌, Bool, true, false, List, [], ◌∷◌, length, drop, get_or, Option, Some, None, IfSome, inl, inr, if◌then◌else◌, refl, sym, ap, subst, ◌∙◌, arith, length-drop}
use Rattle.std.proofs.Math.ListN.{set, drop_of_length-le}
use Rattle.std.proofs.lemmas.Grind.{get_or-set_at}
use Rattle.std.proofs.lemmas.Bool.{cases_eq}
use Rattle.std.proofs.lemmas.List.{at_drop_more, get_or_default, get_or-set_other, length-set}
use Rattle.dioc_terms.specs.declared.entries.Entry.{Entry}
use Rattle.dioc_terms.specs.declared.entries.Entry.TheVariants as entry
use Rattle.dioc_terms.specs.declared.processes.Key.{Key}
use Rattle.trace_picture.specs.Arrivals.{takes, taken_from, found_by, arrival, AreArrivals}

-- what is known when the entries from a row on have been gone over
pub record Noted (entries : List Entry) (row : ℕ) (row_of : Key → Option ℕ) (arrivals : List (Option ℕ)) : Type 0 where
  pub within : row ≤ length entries
  pub as_many : length arrivals ≡ length entries
  pub next : (key : Key) → row_of key ≡ taken_from key row (drop row entries)
  pub at : (i : ℕ) (e : Entry) → row ≤ i → i < length entries → e ≡ get_or entries i e → get_or arrivals i None ≡ arrival entries i e

-- rows that are alike give an entry the same one
found_alike : (f g : Key → Option ℕ) (e : Entry) → ((key : Key) → f key ≡ g key) → found_by f e ≡ found_by g e
found_alike f g (entry.Put k n) same = same k
found_alike f g (entry.Take k x) same = refl
found_alike f g (entry.Set i r x v) same = refl
found_alike f g (entry.Input i r x v) same = refl
found_alike f g (entry.Pick i r b) same = refl
found_alike f g (entry.Scope i r c) same = refl
found_alike f g (entry.Add name) same = refl
found_alike f g (entry.Drop name) same = refl
found_alike f g (entry.Env key v) same = refl

-- nothing has been gone over
pub noted_none : (entries : List Entry) (row : ℕ) (row_of : Key → Option ℕ) (arrivals : List (Option ℕ)) → row ≡ length entries → length arrivals ≡ length entries
    → ((key : Key) → row_of key ≡ None) → Noted entries row row_of arrivals
noted_none entries row row_of arrivals end many none = record {
  within = omega arith;
  as_many = many;
  next = λ key. none key ∙ sym (ap (taken_from key row) (drop_of_length-le entries (omega arith)));
  at = λ i e low high is. absurd (omega arith);
}

-- one entry more has been gone over
one_more : (entries : List Entry) (row : ℕ) (e : Entry) (before after : Key → Option ℕ) (arrivals : List (Option ℕ)) → row < length entries → e ≡ get_or entries row e
    → Noted entries (row + 1) before arrivals → ((key : Key) → after key ≡ (if takes key e then Some row else before key))
    → Noted entries row after (set arrivals row (found_by before e))
one_more entries row e before after arrivals high is noted step = record {
  within = omega arith;
  as_many = length-set arrivals row (found_by before e) ∙ noted.as_many;
  next = λ key.
      step key ∙ ap (λ rest. if takes key e then Some row else rest) (noted.next key)
      ∙ ap (λ x. if takes key x then Some row else taken_from key (row + 1) (drop (row + 1) entries)) is
      ∙ sym (at_drop_more (taken_from key row) entries row e high);
  at = λ i x low below there. by i x low below there (cases_eq i row);
}
  where
    by : (i : ℕ) (x : Entry) → row ≤ i → i < length entries → x ≡ get_or entries i x → (i ≡ row) ⊎ (i ≡ row → ⊥)
        → get_or (set arrivals row (found_by before e)) i None ≡ arrival entries i x
    by i x low below there (inl here) =
        let same : x ≡ e = there ∙ ap (λ k. get_or entries k x) here ∙ get_or_default entries row x e high ∙ sym is in
        get_or-set_at arrivals row i (found_by before e) None here (omega (arith, noted.as_many))
        ∙ found_alike before (λ key. taken_from key (row + 1) (drop (row + 1) entries)) e noted.next
        ∙ ap (λ k. arrival entries k e) (sym here) ∙ ap (arrival entries i) (sym same)
    by i x low below there (inr other) =
        get_or-set_other arrivals row i (found_by before e) None other ∙ noted.at i x (omega (arith, other)) below there

pub noted_more : (entries : List Entry) (row above : ℕ) (e : Entry) (before after : Key → Option ℕ) (arrivals : List (Option ℕ)) (found : Option ℕ) → above ≡ row + 1 → row < length entries → e ≡ get_or entries row e
    → found ≡ found_by before e → Noted entries above before arrivals → ((key : Key) → after key ≡ (if takes key e then Some row else before key))
    → Noted entries row after (set arrivals row found)
noted_more entries row above e before after arrivals found one high is by noted step =
    subst (λ it. Noted entries row after (set arrivals row it)) (sym by)
    (one_more entries row e before after arrivals high is (subst (λ r. Noted entries r before arrivals) one noted) step)

-- all have been gone over
pub noted_all : (entries : List Entry) (row : ℕ) (row_of : Key → Option ℕ) (arrivals : List (Option ℕ)) → row ≡ 0 → Noted entries row row_of arrivals → AreArrivals entries arrivals
noted_all entries row row_of arrivals none noted = record {
  as_many = noted.as_many;
  at = λ i e below is. noted.at i e (omega arith) below is;
}

-- a message arrives in a row of the entries
taken_within : (key : Key) (row : ℕ) (entries : List Entry) → IfSome (taken_from key row entries) (λ taken. taken < row + length entries)
taken_within key row [] = tt
taken_within key row (e ∷ later) = by (takes key e) (taken_within key (row + 1) later)
  where
    wider : (found : Option ℕ) → IfSome found (λ taken. taken < row + 1 + length later) → IfSome found (λ taken. taken < row + length (e ∷ later))
    wider None is = tt
    wider (Some taken) is = omega arith

    by : (b : Bool) → IfSome (taken_from key (row + 1) later) (λ taken. taken < row + 1 + length later)
        → IfSome (if b then Some row else taken_from key (row + 1) later) (λ taken. taken < row + length (e ∷ later))
    by true is = omega arith
    by false is = wider (taken_from key (row + 1) later) is

pub arrives_within : (entries : List Entry) (row : ℕ) (e : Entry) → row < length entries → IfSome (arrival entries row e) (λ taken. taken < length entries)
arrives_within entries row (entry.Put k n) below = shift (taken_from k (row + 1) (drop (row + 1) entries)) (taken_within k (row + 1) (drop (row + 1) entries))
  where
    shift : (found : Option ℕ) → IfSome found (λ taken. taken < row + 1 + length (drop (row + 1) entries)) → IfSome found (λ taken. taken < length entries)
    shift None is = tt
    shift (Some taken) is = let rest = length-drop (row + 1) entries in omega arith
arrives_within entries row (entry.Take k x) below = tt
arrives_within entries row (entry.Set i r x v) below = tt
arrives_within entries row (entry.Input i r x v) below = tt
arrives_within entries row (entry.Pick i r b) below = tt
arrives_within entries row (entry.Scope i r c) below = tt
arrives_within entries row (entry.Add name) below = tt
arrives_within entries row (entry.Drop name) below = tt
arrives_within entries row (entry.Env key v) below = tt

-- what is read in the list of an entry's row is where its message arrives
pub read_arrival : (entries : List Entry) (arrivals : List (Option ℕ)) (row : ℕ) (e : Entry) (found : Option ℕ) → AreArrivals entries arrivals → row < length entries → e ≡ get_or entries row e
    → found ≡ get_or arrivals row found → found ≡ arrival entries row e
read_arrival entries arrivals row e found known below is read =
    read ∙ get_or_default arrivals row found None (omega (arith, known.as_many)) ∙ known.at row e below is

-- and so below what is more than the entries
pub arrives_below : (entries : List Entry) (arrivals : List (Option ℕ)) (row limit : ℕ) (e : Entry) (found : Option ℕ) → AreArrivals entries arrivals → row < length entries → e ≡ get_or entries row e
    → found ≡ get_or arrivals row found → length entries < limit → IfSome found (λ taken. taken < limit)
arrives_below entries arrivals row limit e found known below is read small =
    subst (λ it. IfSome it (λ taken. taken < limit)) (sym (read_arrival entries arrivals row e found known below is read)) (wider (arrival entries row e) (arrives_within entries row e below))
  where
    wider : (it : Option ℕ) → IfSome it (λ taken. taken < length entries) → IfSome it (λ taken. taken < limit)
    wider None is = tt
    wider (Some taken) is = omega arith

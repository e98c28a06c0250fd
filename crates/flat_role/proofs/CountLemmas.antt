-- Of messages and keys, so many of which are done.
use Rattle.std.proofs.Common.{◌≡◌, ◌∷◌, [], ℕ, zero, suc, List, Bool, true, false, nat_lt, drop, length, refl, ap, ◌∙◌, arith}
use Rattle.std.proofs.lemmas.Bool.Decides.{nat_tests}
use Rattle.dioc_terms.specs.declared.names.Role.{Role}
use Rattle.dioc_terms.specs.declared.names.Index.{Index}
use Rattle.dioc_terms.specs.declared.processes.Key.{Key}
use Rattle.dioc_terms.specs.declared.processes.Tag.{Tag}
use Rattle.dioc_terms.specs.Processes.{Letters, Nothing, More, Load}
use Rattle.flat_role.specs.KeptMarks.{letters_from}
use Rattle.process_steps.specs.Steps.{letters_to}
use Rattle.role_statuses.specs.Statuses.{keys_of}

abbrev pub letters_len : Letters → ℕ
letters_len Nothing = 0
letters_len (More k l ms) = suc (letters_len ms)

pub from_nothing : (n : ℕ) → letters_from n Nothing ≡ Nothing
from_nothing zero = refl
from_nothing (suc n) = refl

pub from_none : (n : ℕ) (ks : List Key) → ks ≡ [] → drop n ks ≡ []
from_none zero ks h = h
from_none (suc n) [] h = refl
from_none (suc n) (k ∷ ks) h = cc

-- once the first of the rest is done
pub next_letters : (n : ℕ) (ms : Letters) {k : Key} {l : Load} {rest : Letters}
    → letters_from n ms ≡ More k l rest → letters_from (suc n) ms ≡ rest
next_letters zero Nothing h = cc
next_letters zero (More k l ms) h = cc
next_letters (suc n) Nothing h = cc
next_letters (suc n) (More k l ms) h = next_letters n ms h

pub next_keys : (n : ℕ) (ks : List Key) {k : Key} {rest : List Key} → drop n ks ≡ k ∷ rest
    → drop (suc n) ks ≡ rest
next_keys zero [] h = cc
next_keys zero (k ∷ ks) h = cc
next_keys (suc n) [] h = cc
next_keys (suc n) (k ∷ ks) h = next_keys n ks h

-- there is a rest exactly where the number is below theirs
abbrev pub is_more : Letters → Bool
is_more Nothing = false
is_more (More k l ms) = true

abbrev pub is_some_key : List Key → Bool
is_some_key [] = false
is_some_key (k ∷ ks) = true

below_suc : (n m : ℕ) → nat_lt (suc n) (suc m) ≡ nat_lt n m
below_suc n m = grind (arith, nat_tests)

below_none : (n : ℕ) → nat_lt n 0 ≡ false
below_none n = grind (arith, nat_tests)

above_none : (n : ℕ) → nat_lt 0 (suc n) ≡ true
above_none n = grind (arith, nat_tests)

pub more_letters : (n : ℕ) (ms : Letters) → nat_lt n (letters_len ms) ≡ is_more (letters_from n ms)
more_letters zero Nothing = below_none 0
more_letters zero (More k l ms) = above_none (letters_len ms)
more_letters (suc n) Nothing = below_none (suc n)
more_letters (suc n) (More k l ms) = below_suc n (letters_len ms) ∙ more_letters n ms

pub more_keys : (n : ℕ) (ks : List Key) → nat_lt n (length ks) ≡ is_some_key (drop n ks)
more_keys zero [] = below_none 0
more_keys zero (k ∷ ks) = above_none (length ks)
more_keys (suc n) [] = below_none (suc n)
more_keys (suc n) (k ∷ ks) = below_suc n (length ks) ∙ more_keys n ks

-- one for each role
pub len_letters : (me : Role) (others : List Role) (i : Index) (tag : Tag) (carries : Role → Load)
    → letters_len (letters_to me others i tag carries) ≡ length others
len_letters me [] i tag carries = refl
len_letters me (q ∷ qs) i tag carries = ap suc (len_letters me qs i tag carries)

pub len_keys : (me : Role) (others : List Role) (i : Index) (tag : Tag)
    → length (keys_of me others i tag) ≡ length others
len_keys me [] i tag = refl
len_keys me (q ∷ qs) i tag = ap suc (len_keys me qs i tag)

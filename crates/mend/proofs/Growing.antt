-- One more item of a list, by its number.
use Rattle.std.proofs.Common.{◌≡◌, ◌∙◌, ◌+◌, ◌<◌, ℕ, zero, suc, List, [], ◌∷◌, ◌++◌, Option, Some, None, length, map, take, get_or, refl, sym, ap, arith}
use Rattle.std.specs.Prelude.{slice_get}
use Rattle.std.proofs.lemmas.List.{map-append}
use Rattle.dioc_terms.specs.declared.names.Role.{Role}
use Rattle.dioc_terms.specs.Plain.{PlainRule, PlainBundle}
use Rattle.mend.specs.Traces.{mended_rule}
use Rattle.mend.specs.Mendable.{mended_at}
use Rattle.mend.specs.Mended.{mended}
use Rattle.rule_checks.specs.Refusals.{body_too_big}
use Rattle.mend.specs.Refusals.{refused, rule_numbers, mended_body_refusal}
use Rattle.mend.proofs.Counted.{length-numbers, number-at}
use Rattle.mend.proofs.Passed.{body_of}

abbrev item_of : Option PlainRule → List PlainRule
item_of None = []
item_of (Some x) = x ∷ []

take-next : (xs : List PlainRule) (i : ℕ) → take (suc i) xs ≡ take i xs ++ item_of (slice_get xs i)
take-next [] zero = refl
take-next [] (suc i) = refl
take-next (x ∷ xs) zero = ap (λ l. x ∷ l) (nothing xs)
  where
    nothing : (ys : List PlainRule) → take 0 ys ≡ []
    nothing [] = refl
    nothing (y ∷ ys) = refl
take-next (x ∷ xs) (suc i) = ap (λ l. x ∷ l) (take-next xs i)

abbrev mended_of : List Role → Option PlainRule → List PlainRule
mended_of cast None = []
mended_of cast (Some rule) = mended_rule cast rule ∷ []

mended_item : (cast : List Role) (o : Option PlainRule) → map (mended_rule cast) (item_of o) ≡ mended_of cast o
mended_item cast None = refl
mended_item cast (Some rule) = refl

rules_more : (b : PlainBundle) (i : ℕ) → map (mended_rule b.cast) (take (i + 1) b.rules) ≡ map (mended_rule b.cast) (take i b.rules) ++ mended_at b i
rules_more b i =
    let more : i + 1 ≡ suc i = omega arith in
    ap (λ n. map (mended_rule b.cast) (take n b.rules)) more
    ∙ (ap (map (mended_rule b.cast)) (take-next b.rules i)
    ∙ (map-append (mended_rule b.cast) (take i b.rules) (item_of (slice_get b.rules i))
    ∙ ap (λ l. map (mended_rule b.cast) (take i b.rules) ++ l) (mended_item b.cast (slice_get b.rules i))))

-- what stands at a number, as the bundle has it
pub mended_there : (b : PlainBundle) (n : ℕ) (rule : PlainRule) → slice_get b.rules n ≡ Some rule → mended_at b n ≡ mended_rule b.cast rule ∷ []
mended_there b n rule e = ap (mended_of b.cast) e

pub mended_nowhere : (b : PlainBundle) (n : ℕ) → slice_get b.rules n ≡ None → mended_at b n ≡ []
mended_nowhere b n e = ap (mended_of b.cast) e

pub refusal_there : (b : PlainBundle) (n : ℕ) (rule : PlainRule) → slice_get b.rules n ≡ Some rule → mended_body_refusal b n ≡ refused (body_too_big n (mended b.cast rule.body))
refusal_there b n rule e = ap (body_of b.cast n) e

pub refusal_nowhere : (b : PlainBundle) (n : ℕ) → slice_get b.rules n ≡ None → mended_body_refusal b n ≡ None
refusal_nowhere b n e = ap (body_of b.cast n) e

-- the number at a place is that place
pub number_here : (b : PlainBundle) (numbers : List ℕ) (i n d : ℕ) → numbers ≡ rule_numbers b → i < length numbers → n ≡ get_or numbers i d → n ≡ i
number_here b numbers i n d all inside at =
    let many : length numbers ≡ length b.rules = ap length all ∙ length-numbers 0 (length b.rules) in
    at ∙ (ap (λ l. get_or l i d) all ∙ (number-at 0 (length b.rules) i d (omega (arith, inside, many)) ∙ from_zero))
  where
    from_zero : 0 + i ≡ i
    from_zero = omega arith

-- the mended rules so far, and the one of the next number
pub one_more_rule : (b : PlainBundle) (numbers : List ℕ) (i n d : ℕ) → numbers ≡ rule_numbers b → i < length numbers → n ≡ get_or numbers i d
    → map (mended_rule b.cast) (take i b.rules) ++ mended_at b n ≡ map (mended_rule b.cast) (take (i + 1) b.rules)
one_more_rule b numbers i n d all inside at =
    ap (λ m. map (mended_rule b.cast) (take i b.rules) ++ mended_at b m) (number_here b numbers i n d all inside at) ∙ sym (rules_more b i)

pub as_many : (b : PlainBundle) (numbers : List ℕ) → numbers ≡ rule_numbers b → length numbers ≡ length b.rules
as_many b numbers all = ap length all ∙ length-numbers 0 (length b.rules)

-- Names and numbers are the longest runs of their bytes.
use Rattle.std.proofs.Common.{◌≡◌, ℕ, zero, suc, ◌+◌, ◌≤◌, Bool, true, false, ◌&&◌, cond, List, [], ◌∷◌, length, take, refl, ap, sym, subst, arith, one-add, get_or}
use Rattle.std.specs.List.{list_all, prefix_len}
use Rattle.std.specs.Char.{is_ascii_alphabetic, is_ascii_digit}
use Rattle.std.proofs.lemmas.Bool.{and_from}
use Rattle.std.proofs.lemmas.Bool.Decides.{nat_tests}
use Rattle.std.proofs.lemmas.List.Sums.{prefix_len-le-length}
use Rattle.aioc_tokens.specs.declared.kinds.Kind.{Kind}
use Rattle.aioc_tokens.specs.declared.kinds.Kind.TheVariants.{Name, Number}
use Rattle.aioc_tokens.specs.Tokens.{is_name_byte, Spells, IsFront, IsLongestToken, BeginsComment}
use Rattle.aioc_tokens.proofs.Firsts.{same_kind}

-- a front of bytes that all pass is no longer than the run
all_within_run : (passes : ℕ → Bool) (text : List ℕ) (count : ℕ) → count ≤ length text → list_all passes (take count text) ≡ true → count ≤ prefix_len passes text
all_within_run passes text zero within all = omega arith
all_within_run passes [] (suc count) within all = absurd (omega arith)
all_within_run passes (byte ∷ others) (suc count) within all = go (passes byte) all (all_within_run passes others count (omega arith))
  where
    go : (pass : Bool) → (pass && list_all passes (take count others)) ≡ true → (list_all passes (take count others) ≡ true → count ≤ prefix_len passes others)
        → suc count ≤ cond pass (1 + prefix_len passes others) 0
    go true rest within_rest = omega (arith, within_rest rest)
    go false rest within_rest = cc

-- each byte of the run passes
run_passes : (passes : ℕ → Bool) (text : List ℕ) → list_all passes (take (prefix_len passes text) text) ≡ true
run_passes passes [] = refl
run_passes passes (byte ∷ others) = go (passes byte) refl (run_passes passes others)
  where
    go : (pass : Bool) → passes byte ≡ pass → list_all passes (take (prefix_len passes others) others) ≡ true
        → list_all passes (take (cond pass (1 + prefix_len passes others) 0) (byte ∷ others)) ≡ true
    go true is rest = rw one-add (and_from _ _ is rest)
    go false is rest = refl

-- no comment begins with a byte that isn't `/`
pub no_comment_by : (text : List ℕ) → (get_or text 0 0 ≡ 47 → ⊥) → BeginsComment text → ⊥
no_comment_by [] other begins = cc
no_comment_by (first ∷ others) other begins = other (ap (λ word. get_or word 0 0) begins)

module _ (kind : Kind) (passes : ℕ → Bool) (text : List ℕ) where
  -- Where each token of the kind is of bytes that pass, and the run is a token of the kind, the run is the longest.
  run_longest : ((bytes : List ℕ) → Spells kind bytes → list_all passes bytes ≡ true) → (¬ BeginsComment text) → Spells kind (take (prefix_len passes text) text)
      → IsLongestToken text kind (prefix_len passes text)
  run_longest all no_comment spells =
      let front : IsFront text kind (prefix_len passes text) = record { within = prefix_len-le-length passes text; spells = spells } in
      record {
        front = front;
        longest = λ other more that.
            let same = same_kind text kind other (prefix_len passes text) more front that in
            all_within_run passes text more that.within (all (take more text) (subst (λ other. Spells other (take more text)) (sym same) that.spells));
        no_comment = no_comment;
      }

letter_in_name : (byte : ℕ) → is_ascii_alphabetic byte ≡ true → is_name_byte byte ≡ true
letter_in_name byte letter = grind (arith, nat_tests)

pub name_bytes : (bytes : List ℕ) → Spells Name bytes → list_all is_name_byte bytes ≡ true
name_bytes [] spells = absurd spells
name_bytes (first ∷ others) spells = and_from _ _ (letter_in_name first spells.0) spells.1

-- where a letter stands, the name is the longest run of its bytes
pub name_longest : (text : List ℕ) → is_ascii_alphabetic (get_or text 0 0) ≡ true → IsLongestToken text Name (prefix_len is_name_byte text)
name_longest [] letter = absurd cc
name_longest (first ∷ others) letter =
    run_longest Name is_name_byte (first ∷ others) name_bytes (no_comment_by (first ∷ others) (λ slash. absurd (grind (arith, nat_tests))))
    (rw (letter_in_name first letter, one-add) (letter, run_passes is_name_byte others))

-- where a digit stands, the number is the longest run of digits
pub number_longest : (text : List ℕ) → is_ascii_digit (get_or text 0 0) ≡ true → IsLongestToken text Number (prefix_len is_ascii_digit text)
number_longest [] digit = absurd cc
number_longest (first ∷ others) digit =
    run_longest Number is_ascii_digit (first ∷ others) (λ bytes spells. spells.1) (no_comment_by (first ∷ others) (λ slash. absurd (grind (arith, nat_tests))))
    (rw (digit, one-add) (omega arith), run_passes is_ascii_digit (first ∷ others))

-- The value of a text in quotes.
use Rattle.std.proofs.Common.{◌≡◌, ℕ, suc, ◌+◌, ◌-◌, ◌*◌, ◌≤◌, Bool, true, false, ◌==◌, cond, List, [], ◌∷◌, ◌++◌, length, take, slice_range, refl, ap, sym, ◌∙◌, subst, arith, flat_map, length-append, take_at}
use Rattle.std.specs.List.{list_all}
use Rattle.std.proofs.lemmas.Bool.Decides.{nat_tests}
use Rattle.aioc_tokens.specs.declared.kinds.Kind.TheVariants.{Text}
use Rattle.aioc_tokens.specs.Tokens.{needs_pair, is_printable, escaped, quoted, Spells}
use Rattle.aioc_tokens.specs.Lexemes.{unescaped, value_of}

unescaped_escaped : (value : List ℕ) → unescaped false (flat_map escaped value) ≡ value
unescaped_escaped [] = refl
unescaped_escaped (byte ∷ value) = go (needs_pair byte) refl (unescaped_escaped value)
  where
    go : (pair : Bool) → needs_pair byte ≡ pair → unescaped false (flat_map escaped value) ≡ value → unescaped false (cond pair (92 ∷ byte ∷ []) (byte ∷ []) ++ flat_map escaped value) ≡ byte ∷ value
    go true pair rest = ap (λ others. byte ∷ others) rest
    go false pair rest =
        let backslash : (byte == 92) ≡ false = grind (arith, nat_tests) in
        rw backslash (ap (λ others. byte ∷ others) rest)

escaped_short : (value : List ℕ) → length (flat_map escaped value) ≤ 2 * length value
escaped_short [] = omega arith
escaped_short (byte ∷ value) = go (needs_pair byte) (escaped_short value)
  where
    go : (pair : Bool) → length (flat_map escaped value) ≤ 2 * length value → length (cond pair (92 ∷ byte ∷ []) (byte ∷ []) ++ flat_map escaped value) ≤ 2 * suc (length value)
    go true rest = omega arith
    go false rest = omega arith

escaped_long : (value : List ℕ) → length value ≤ length (flat_map escaped value)
escaped_long [] = omega arith
escaped_long (byte ∷ value) = go (needs_pair byte) (escaped_long value)
  where
    go : (pair : Bool) → length value ≤ length (flat_map escaped value) → suc (length value) ≤ length (cond pair (92 ∷ byte ∷ []) (byte ∷ []) ++ flat_map escaped value)
    go true rest = omega arith
    go false rest = omega arith

between_quotes : (inside : List ℕ) → slice_range (34 ∷ inside ++ 34 ∷ []) 1 (length (34 ∷ inside ++ 34 ∷ []) - 1) ≡ inside
between_quotes inside =
    let size : suc (length (inside ++ 34 ∷ [])) - 1 - 1 ≡ length inside = omega (arith, length-append inside (34 ∷ [])) in
    ap (λ count. take count (inside ++ 34 ∷ [])) size ∙ take_at inside (34 ∷ []) (length inside) refl

-- the value of a quoted value is that value
pub value_of-quoted : (value : List ℕ) → value_of (quoted value) ≡ value
value_of-quoted value = ap (unescaped false) (between_quotes (flat_map escaped value)) ∙ unescaped_escaped value

-- A token that is a text is its value in quotes, and takes one or two bytes for each of the value.
pub record IsQuoted (bytes : List ℕ) : Type 0 where
  pub whole : bytes ≡ quoted (value_of bytes)
  pub printable : list_all is_printable (value_of bytes) ≡ true
  pub short : length bytes ≤ 2 * length (value_of bytes) + 2
  pub long : length (value_of bytes) + 2 ≤ length bytes

pub text_quoted : (bytes : List ℕ) → Spells Text bytes → IsQuoted bytes
text_quoted bytes spells = subst IsQuoted (sym spells.2) (record {
  whole = ap quoted (sym (value_of-quoted spells.0));
  printable = ap (list_all is_printable) (value_of-quoted spells.0) ∙ spells.1;
  short = omega (arith, escaped_short spells.0, ap length (value_of-quoted spells.0), length-append (flat_map escaped spells.0) (34 ∷ []));
  long = omega (arith, escaped_long spells.0, ap length (value_of-quoted spells.0), length-append (flat_map escaped spells.0) (34 ∷ []));
})

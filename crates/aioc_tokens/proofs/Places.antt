-- What the sort at a place says of the list from there on: for readers, whose contracts speak of `drop at` of the list.
use Rattle.std.proofs.Common.{◌≡◌, ℕ, ◌+◌, List, ◌∷◌, drop, ap, sym, ◌∙◌, subst, drop-drop, add_assoc}
use Rattle.aioc_tokens.specs.declared.words.Word.{Word}
use Rattle.aioc_tokens.specs.declared.words.Punctuator.{Punctuator}
use Rattle.aioc_tokens.specs.declared.words.Sort.{Sort}
use Rattle.aioc_tokens.specs.declared.words.Sort.TheVariants as sorts
use Rattle.aioc_tokens.specs.Lexemes.{Lexeme, Name, Number, Text, Reserved, Symbol, sort_of, Begins}
use Rattle.aioc_tokens.proofs.Looks.{name_first, number_first, text_first, reserved_first, symbol_first}

module _ (all : List Lexeme) (at : ℕ) where
  -- what is left after one lexeme more
  pub one_more : drop 1 (drop at all) ≡ drop (at + 1) all
  one_more = drop-drop 1 at all

  pub name_at : sorts.Name ≡ sort_of (drop at all) → (bytes : List ℕ) × (drop at all ≡ Name bytes ∷ drop (at + 1) all)
  name_at sort = let (bytes, first) = name_first (drop at all) (sym sort) in (bytes, first ∙ ap (λ others. Name bytes ∷ others) one_more)

  pub number_at : sorts.Number ≡ sort_of (drop at all) → (digits : List ℕ) × (drop at all ≡ Number digits ∷ drop (at + 1) all)
  number_at sort = let (digits, first) = number_first (drop at all) (sym sort) in (digits, first ∙ ap (λ others. Number digits ∷ others) one_more)

  pub text_at : sorts.Text ≡ sort_of (drop at all) → (value : List ℕ) × (drop at all ≡ Text value ∷ drop (at + 1) all)
  text_at sort = let (value, first) = text_first (drop at all) (sym sort) in (value, first ∙ ap (λ others. Text value ∷ others) one_more)

  -- in the arm of a `match`: what the sort holds, and which word or symbol that is
  pub reserved_at : (field word : Word) → sorts.Reserved field ≡ sort_of (drop at all) → field ≡ word → drop at all ≡ Reserved word ∷ drop (at + 1) all
  reserved_at field word sort is = reserved_first (drop at all) word (sym sort ∙ ap sorts.Reserved is) ∙ ap (λ others. Reserved word ∷ others) one_more

  pub symbol_at : (field punctuator : Punctuator) → sorts.Symbol field ≡ sort_of (drop at all) → field ≡ punctuator → drop at all ≡ Symbol punctuator ∷ drop (at + 1) all
  symbol_at field punctuator sort is = symbol_first (drop at all) punctuator (sym sort ∙ ap sorts.Symbol is) ∙ ap (λ others. Symbol punctuator ∷ others) one_more

  -- the first of several sorts, and those after it, by the number of lexemes since the place
  pub begins_here : (first : Sort) (others : List Sort) → Begins (first ∷ others) (drop at all) → (first ≡ sort_of (drop at all)) × Begins others (drop (at + 1) all)
  begins_here first others both = (sym both.0, subst (Begins others) one_more both.1)

  pub begins_after : (count : ℕ) (first : Sort) (others : List Sort) → Begins (first ∷ others) (drop (at + count) all) → (first ≡ sort_of (drop (at + count) all)) × Begins others (drop (at + (count + 1)) all)
  begins_after count first others both =
      (sym both.0, subst (Begins others) (drop-drop 1 (at + count) all ∙ ap (λ place. drop place all) (add_assoc at count 1)) both.1)

-- What the sort at a place says of what a reader finds there.
use Rattle.std.proofs.Common.{◌≡◌, ◌≢◌, ℕ, ◌+◌, ◌<◌, Bool, true, false, cond, List, [], ◌∷◌, length, drop, Option, Some, None, Result, Ok, Err, refl, sym, ap, ◌∙◌, arith, length-drop, drop-drop}
use Rattle.std.specs.Str.{bytes_eq}
use Rattle.std.proofs.lemmas.Slice.Eq.{bytes_eq-Decides}
use Rattle.dioc_terms.specs.declared.processes.Tag.{Tag}
use Rattle.dioc_terms.specs.declared.processes.Tag.TheVariants as tag
use Rattle.aioc_tokens.specs.declared.words.Punctuator.{Punctuator}
use Rattle.aioc_tokens.specs.declared.words.Punctuator.TheVariants as punctuator
use Rattle.aioc_tokens.specs.declared.words.Word.{Word}
use Rattle.aioc_tokens.specs.declared.words.Word.TheVariants as word
use Rattle.aioc_tokens.specs.declared.words.Sort.TheVariants as sorts
use Rattle.aioc_tokens.specs.Words.{punctuator_spelling, punctuator_of}
use Rattle.aioc_tokens.specs.Lexemes.{Lexeme, Name, Long, Number, Reserved, Symbol, sort_of}
use Rattle.aioc_tokens.proofs.Spellings.{punctuator_found}
use Rattle.aioc_tokens.proofs.Places.{number_at}
use Rattle.expr_syntax.specs.Constants.{number}
use Rattle.trace_syntax.specs.Words.{auxiliary_of, line_word_of}
use Rattle.trace_syntax.specs.declared.words.LineWord.{LineWord}
use Rattle.trace_syntax.specs.Reading.{Found, behind_symbol, behind_word, first_name, first_number, first_truth, first_auxiliary, first_tag, first_rule, first_kept, first_choice, first_input, first_scope, line_behind, first_line, ReadsAt, PassesAt}
use Rattle.trace_syntax.specs.declared.words.LineFault.{LineFault}
use Rattle.trace_syntax.specs.declared.words.LineFault.TheVariants as fault

-- equal bytes test as equal
pub same_bytes : (bytes : List ℕ) → bytes_eq bytes bytes ≡ true
same_bytes bytes = (bytes_eq-Decides bytes bytes).1 refl

-- two symbols of one spelling are one
pub same_symbol : (one other : Punctuator) → punctuator_spelling one ≡ punctuator_spelling other → one ≡ other
same_symbol one other same = let found : Some one ≡ Some other = sym (punctuator_found one) ∙ ap punctuator_of same ∙ punctuator_found other in cc

pub symbol_passed : (sign : Punctuator) (others : List Lexeme) → behind_symbol sign (Symbol sign ∷ others) ≡ Some others
unfolding behind_symbol
symbol_passed sign others = rw (same_bytes (punctuator_spelling sign)) refl

other_symbol : (sign first : Punctuator) (others : List Lexeme) (same : Bool) → bytes_eq (punctuator_spelling first) (punctuator_spelling sign) ≡ same → first ≢ sign → cond same (Some others) None ≡ None
other_symbol sign first others true is apart = absurd (apart (same_symbol first sign ((bytes_eq-Decides (punctuator_spelling first) (punctuator_spelling sign)).0 is)))
other_symbol sign first others false is apart = refl

pub no_symbol : (sign : Punctuator) (from : List Lexeme) → sort_of from ≢ sorts.Symbol sign → behind_symbol sign from ≡ None
unfolding behind_symbol
no_symbol sign (Symbol first ∷ others) apart = other_symbol sign first others (bytes_eq (punctuator_spelling first) (punctuator_spelling sign)) refl (λ same. apart (ap sorts.Symbol same))
no_symbol sign [] apart = refl
no_symbol sign (Long ∷ others) apart = refl
no_symbol sign (_ ∷ others) apart = refl

pub word_passed : (word : List ℕ) (others : List Lexeme) → behind_word word (Name word ∷ others) ≡ Some others
unfolding behind_word
word_passed word others = rw (same_bytes word) refl

pub other_word : (word first : List ℕ) (others : List Lexeme) → bytes_eq first word ≡ false → behind_word word (Name first ∷ others) ≡ None
unfolding behind_word
other_word word first others other = rw other refl

pub no_word : (word : List ℕ) (from : List Lexeme) → sort_of from ≢ sorts.Name → behind_word word from ≡ None
unfolding behind_word
no_word word (Name first ∷ others) apart = absurd (apart refl)
no_word word [] apart = refl
no_word word (Long ∷ others) apart = refl
no_word word (_ ∷ others) apart = refl

pub name_found : (name : List ℕ) (others : List Lexeme) → first_name (Name name ∷ others) ≡ Some (name, others)
unfolding first_name
name_found name others = refl

pub no_name : (from : List Lexeme) → sort_of from ≢ sorts.Name → first_name from ≡ None
unfolding first_name
no_name (Name first ∷ others) apart = absurd (apart refl)
no_name [] apart = refl
no_name (Long ∷ others) apart = refl
no_name (_ ∷ others) apart = refl

pub no_number : (most : ℕ) (from : List Lexeme) → sort_of from ≢ sorts.Number → first_number most from ≡ None
unfolding first_number
no_number most (Number digits ∷ others) apart = absurd (apart refl)
no_number most [] apart = refl
no_number most (Long ∷ others) apart = refl
no_number most (_ ∷ others) apart = refl

pub great_number : (most : ℕ) (from : List Lexeme) → None ≡ number most from → first_number most from ≡ None
unfolding first_number
great_number most from none = rw (← none) refl

pub true_found : (others : List Lexeme) → first_truth (Reserved word.True ∷ others) ≡ Some (true, others)
unfolding first_truth
true_found others = refl

pub false_found : (others : List Lexeme) → first_truth (Reserved word.False ∷ others) ≡ Some (false, others)
unfolding first_truth
false_found others = refl

pub operation_found : (name : List ℕ) (others : List Lexeme) → first_tag (Name name ∷ others) ≡ Some (tag.Op name, others)
unfolding first_tag
operation_found name others = refl

pub auxiliary_found : (word : List ℕ) (aux : Tag) (others : List Lexeme) → auxiliary_of word ≡ Some aux → first_auxiliary (Name word ∷ others) ≡ Some (aux, others)
unfolding first_auxiliary first_name
auxiliary_found word aux others is = rw is refl

pub no_auxiliary : (word : List ℕ) (others : List Lexeme) → auxiliary_of word ≡ None → first_auxiliary (Name word ∷ others) ≡ None
unfolding first_auxiliary first_name
no_auxiliary word others none = rw none refl

pub no_auxiliary_name : (from : List Lexeme) → sort_of from ≢ sorts.Name → first_auxiliary from ≡ None
unfolding first_auxiliary
no_auxiliary_name from apart = rw (no_name from apart) refl

-- behind a `!`
pub bang_found : (others : List Lexeme) → first_tag (Symbol punctuator.Bang ∷ others) ≡ first_auxiliary others
unfolding first_tag
bang_found others = refl

pub rule_found : (others : List Lexeme) → first_choice (Reserved word.Rule ∷ others) ≡ first_rule others
unfolding first_choice
rule_found others = refl

no_rule : (first : Word) (others : List Lexeme) → first ≢ word.Rule → first_choice (Reserved first ∷ others) ≡ first_kept (Reserved first ∷ others)
unfolding first_choice
no_rule word.Rule others apart = absurd (apart refl)
no_rule word.Aioc others apart = refl
no_rule _ others apart = refl

pub kept_found : (from : List Lexeme) → sort_of from ≢ sorts.Reserved word.Rule → first_choice from ≡ first_kept from
unfolding first_choice
kept_found (Reserved first ∷ others) apart = no_rule first others (λ same. apart (ap sorts.Reserved same))
kept_found [] apart = refl
kept_found (Long ∷ others) apart = refl
kept_found (_ ∷ others) apart = refl

pub named_line : (first : List ℕ) (begin : LineWord) (others : List Lexeme) → line_word_of first ≡ Some begin → first_line (Name first ∷ others) ≡ line_behind begin others
unfolding first_line
named_line first begin others is = rw is refl

pub no_line_word : (first : List ℕ) (others : List Lexeme) → line_word_of first ≡ None → first_line (Name first ∷ others) ≡ None
unfolding first_line
no_line_word first others none = rw none refl

pub input_line : (others : List Lexeme) → first_line (Reserved word.Input ∷ others) ≡ first_input others
unfolding first_line
input_line others = refl

pub scope_line : (others : List Lexeme) → first_line (Reserved word.Scope ∷ others) ≡ first_scope others
unfolding first_line
scope_line others = refl

no_reserved_line : (first : Word) (others : List Lexeme) → first ≢ word.Input → first ≢ word.Scope → first_line (Reserved first ∷ others) ≡ None
unfolding first_line
no_reserved_line word.Input others input scope = absurd (input refl)
no_reserved_line word.Scope others input scope = absurd (scope refl)
no_reserved_line word.Aioc others input scope = refl
no_reserved_line _ others input scope = refl

pub no_line : (from : List Lexeme) → sort_of from ≢ sorts.Name → sort_of from ≢ sorts.Reserved word.Input → sort_of from ≢ sorts.Reserved word.Scope → first_line from ≡ None
unfolding first_line
no_line (Name first ∷ others) name input scope = absurd (name refl)
no_line (Reserved first ∷ others) name input scope = no_reserved_line first others (λ same. input (ap sorts.Reserved same)) (λ same. scope (ap sorts.Reserved same))
no_line [] name input scope = refl
no_line (Long ∷ others) name input scope = refl
no_line (_ ∷ others) name input scope = refl

-- what one reader finds where another finds the same
pub found_same : {A : Type 0} (finds further : List Lexeme → Found A) (text : List Lexeme) (at : ℕ) (result : Result (A × ℕ) LineFault) → finds (drop at text) ≡ further (drop at text) → ReadsAt further text at result
    → ReadsAt finds text at result
found_same finds further text at (Ok read) same found = (same ∙ found.0, found.1, found.2)
found_same finds further text at (Err fault.NoLine) same found = same ∙ found
found_same finds further text at (Err fault.Memory) same found = tt

module _ (text : List Lexeme) (at : ℕ) where
  -- where a lexeme stands
  inside : (first : Lexeme) → drop at text ≡ first ∷ drop (at + 1) text → at < length text
  inside first is = omega (arith, ap length is, length-drop at text)

  pub found_here : {A : Type 0} (finds : List Lexeme → Found A) (first : Lexeme) (value : A) → drop at text ≡ first ∷ drop (at + 1) text → finds (first ∷ drop (at + 1) text) ≡ Some (value, drop (at + 1) text)
      → ReadsAt finds text at (Ok (value, at + 1))
  found_here finds first value is found = let within = inside first is in (ap finds is ∙ found, omega arith, omega arith)

  pub passed_here : (leaves : List Lexeme → Option (List Lexeme)) (first : Lexeme) → drop at text ≡ first ∷ drop (at + 1) text → leaves (first ∷ drop (at + 1) text) ≡ Some (drop (at + 1) text)
      → PassesAt leaves text at (Ok (at + 1))
  passed_here leaves first is left = let within = inside first is in (ap leaves is ∙ left, omega arith, omega arith)

  -- what a reader finds one lexeme further
  pub found_behind : {A : Type 0} (finds further : List Lexeme → Found A) (first : Lexeme) (result : Result (A × ℕ) LineFault) → drop at text ≡ first ∷ drop (at + 1) text
      → finds (first ∷ drop (at + 1) text) ≡ further (drop (at + 1) text) → ReadsAt further text (at + 1) result → ReadsAt finds text at result
  found_behind finds further first (Ok read) is same found = (ap finds is ∙ same ∙ found.0, let after = found.1 in omega arith, found.2)
  found_behind finds further first (Err fault.NoLine) is same found = ap finds is ∙ same ∙ found
  found_behind finds further first (Err fault.Memory) is same found = tt

  -- a number that was read
  pub number_here : (most n : ℕ) → sort_of (drop at text) ≡ sorts.Number → Some n ≡ number most (drop at text) → ReadsAt (first_number most) text at (Ok (n, at + 1))
  unfolding first_number
  number_here most n sort found =
      let (digits, first) = number_at text at (sym sort) in
      let within = inside (Number digits) first in
      (rw (← found) (ap (λ rest. Some (n, rest)) (drop-drop 1 at text)), omega arith, omega arith)

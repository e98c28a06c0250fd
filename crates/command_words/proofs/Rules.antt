-- The arguments of a built command, and what a use of one comes to.
use Rattle.std.proofs.Common.{◌≡◌, ◌∙◌, ℕ, Bool, true, false, not, ◌&&◌, cond, List, [], ◌∷◌, ◌++◌, map, Option, Some, None, refl, sym, ap, codes}
use Rattle.std.specs.Prelude.{option_and_then}
use Rattle.std.specs.Str.{bytes_eq}
use Rattle.clap.specs.Walk.{Row, Rule, Text, at_row, has_row, used, with_values, without, more_values}
use Rattle.clap.specs.Simple.{new_rule}
use Rattle.clap.specs.Kinds.{Kinds, or_else}
use Rattle.clap.specs.Faults.{use_fault}
use Rattle.clap.specs.declared.builder.action.ArgAction.TheVariants.{Set, SetTrue}
use Rattle.clap.specs.declared.builder.value_parser.ValueParser.TheVariants as parser
use Rattle.clap.specs.declared.builder.value_parser.Reading.TheVariants as reading
use Rattle.clap.specs.declared.error.kind.ErrorKind.{ErrorKind}
use Rattle.clap.specs.declared.parser.matches.ValueSource.TheVariants.{CommandLine}
use Rattle.command_words.specs.Words.{GivenTexts, is_given, with_given}

-- no fault
abbrev pub passes : Kinds → Bool
passes [] = true
passes (kind ∷ kinds) = false

pub or_else-nil : (kinds : Kinds) → or_else kinds [] ≡ kinds
or_else-nil [] = refl
or_else-nil (kind ∷ kinds) = refl

pub cond-none : {X : Type 0} (b : Bool) → cond {A = Option X} b None None ≡ None
cond-none true = refl
cond-none false = refl

-- an option that takes a value, a flag, and the positional word of a place
abbrev pub option_rule : Text → Bool → Rule
option_rule name true = record (new_rule name) {
  long = Some name;
  action = Some Set;
  range = Some (record { start_inclusive = 1; end_inclusive = 1 });
  parser = Some parser.String;
}
option_rule name false = record (new_rule name) {
  long = Some name;
  action = Some SetTrue;
  range = Some (record { start_inclusive = 0; end_inclusive = 0 });
  defaults = codes "false" ∷ [];
  missing = codes "true" ∷ [];
  parser = Some parser.Bool;
}

abbrev pub word_rule : Text → ℕ → Rule
word_rule name place = record (new_rule name) {
  index = Some place;
  action = Some Set;
  range = Some (record { start_inclusive = 1; end_inclusive = 1 });
  parser = Some parser.String;
}

-- what is given, as rows
abbrev pub row_for : Text × Text → Row
row_for (name, text) = record {
  id = name;
  values = text ∷ [];
  count = None;
  source = Some CommandLine;
  reading = reading.AsWritten;
}

abbrev pub rows_for : GivenTexts → List Row
rows_for given = map row_for given

pub has_row-given : (given : GivenTexts) (name : Text) → has_row name (rows_for given) ≡ is_given given name
has_row-given [] name = refl
has_row-given (pair ∷ rest) name = ap (λ b. Rattle.std.specs.Prelude.◌||◌ (bytes_eq pair.0 name) b) (has_row-given rest name)

-- a row is changed where it stands, or joins at the end
pub at_row-missing : (id : Text) (change : Row → List Row) (missing rows : List Row) → has_row id rows ≡ false
    → at_row id change missing rows ≡ rows ++ missing
at_row-missing id change missing [] none = refl
at_row-missing id change missing (row ∷ rows) none = go (bytes_eq row.id id) none (at_row-missing id change missing rows)
  where
    go : (b : Bool) → (Rattle.std.specs.Prelude.◌||◌ b (has_row id rows)) ≡ false
        → (has_row id rows ≡ false → at_row id change missing rows ≡ rows ++ missing)
        → cond b (change row ++ rows) (row ∷ at_row id change missing rows) ≡ row ∷ (rows ++ missing)
    go true e later = cc
    go false e later = ap (λ rs. row ∷ rs) (later e)

-- the row of one more name
abbrev pub row_added : Text → Text → List Row → List Row
row_added name text rows =
    with_values name reading.AsWritten CommandLine (text ∷ []) (without name rows)

append-empty : {X : Type 0} (xs : List X) → xs ++ [] ≡ xs
append-empty [] = refl
append-empty (x ∷ xs) = ap (λ rest. x ∷ rest) (append-empty xs)

map-append : (xs ys : GivenTexts) → rows_for (xs ++ ys) ≡ rows_for xs ++ rows_for ys
map-append [] ys = refl
map-append (x ∷ xs) ys = ap (λ rest. row_for x ∷ rest) (map-append xs ys)

pub row_added-given : (given : GivenTexts) (name text : Text) → is_given given name ≡ false
    → row_added name text (rows_for given) ≡ rows_for (given ++ (name, text) ∷ [])
row_added-given given name text new =
    let none : has_row name (rows_for given) ≡ false = has_row-given given name ∙ new in
    let kept : without name (rows_for given) ≡ rows_for given =
    at_row-missing name (λ _. []) [] (rows_for given) none ∙ append-empty (rows_for given) in
    ap (with_values name reading.AsWritten CommandLine (text ∷ [])) kept
    ∙ at_row-missing name (more_values CommandLine (text ∷ [])) (row_for (name, text) ∷ []) (rows_for given) none
    ∙ sym (map-append given ((name, text) ∷ []))

-- a name is given once
once : (kind : ErrorKind) (b : Bool) → passes (or_else (cond (b && true) (kind ∷ []) []) []) ≡ not b
once kind true = refl
once kind false = refl

-- the use of an argument by one name and text, and what it leaves
pub record Uses (rule : Rule) (values : List Text) (name text : Text) : Type 0 where
  pub fault : (rows : List Row) → passes (use_fault false rule values rows) ≡ not (has_row name rows)
  pub rows : (rows : List Row) → used rule values rows ≡ row_added name text rows

pub option_uses : (name text : Text) → Uses (option_rule name true) (text ∷ []) name text
option_uses name text = record { fault = λ rows. once _ (has_row name rows); rows = λ rows. refl }

pub flag_uses : (name : Text) → Uses (option_rule name false) [] name (codes "true")
flag_uses name = record { fault = λ rows. once _ (has_row name rows); rows = λ rows. refl }

pub word_uses : (name text : Text) (place : ℕ) → Uses (word_rule name place) (text ∷ []) name text
word_uses name text place = record { fault = λ rows. once _ (has_row name rows); rows = λ rows. refl }

-- a walk that goes on after a use goes on from what is given then
pub use_given : (rule : Rule) (values : List Text) (name text : Text) (given : GivenTexts) (next : List Row → Option (List Row))
    → Uses rule values name text
    → cond (passes (use_fault false rule values (rows_for given))) (next (used rule values (rows_for given))) None
    ≡ option_and_then (λ more. next (rows_for more)) (with_given name text given)
use_given rule values name text given next uses =
    ap (λ b. cond b (next (used rule values (rows_for given))) None) (uses.fault (rows_for given) ∙ ap not (has_row-given given name))
    ∙ ap (λ rows. cond (not (is_given given name)) (next rows) None) (uses.rows (rows_for given))
    ∙ go (is_given given name) refl
  where
    go : (b : Bool) → is_given given name ≡ b → cond (not b) (next (row_added name text (rows_for given))) None
        ≡ option_and_then (λ more. next (rows_for more)) (cond b None (Some (given ++ (name, text) ∷ [])))
    go true e = refl
    go false e = ap next (row_added-given given name text e)

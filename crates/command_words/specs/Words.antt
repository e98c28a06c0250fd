-- How words are read as options, flags and positional words, for a table of options.
use Rattle.std.specs.Prelude.{ℕ, List, [], ◌∷◌, ◌++◌, map, Bool, true, false, ◌==◌, Option, Some, None, option_map, option_and_then, if◌then◌else◌, codes}
use Rattle.std.specs.List.{find, list_any, before_first, after_first}
use Rattle.std.specs.Str.{bytes_eq}

abbrev pub Text : Type 0
Text = List ℕ

-- the names of a command's options, and whether each takes a value; one that takes none is a flag
abbrev pub KnownOptions : Type 0
KnownOptions = List (Text × Bool)

-- whether the option of this name takes a value; none where there is no such option
abbrev pub takes_value : KnownOptions → Text → Option Bool
takes_value known name =
    option_map (λ option. option.1) (find (λ option. bytes_eq option.0 name) known)

-- what the words give: a name with its text, where a flag's text is `true`, or a positional word
pub data Item : Type 0 where
  named : Text → Text → Item
  word : Text → Item

-- ---- one word

-- a word by its hyphens: plain with none first, or as a hyphen alone; short with one; long with
-- two, and what follows them
pub data HyphenForm : Type 0 where
  plain : HyphenForm
  short : HyphenForm
  long : Text → HyphenForm

abbrev pub after_hyphen : Text → HyphenForm
after_hyphen [] = plain
after_hyphen (byte ∷ rest) = if byte == 45 then long rest else short

abbrev pub form : Text → HyphenForm
form [] = plain
form (byte ∷ rest) = if byte == 45 then after_hyphen rest else plain

abbrev pub is_plain_form : HyphenForm → Bool
is_plain_form plain = true
is_plain_form _ = false

abbrev pub is_plain : Text → Bool
is_plain text = is_plain_form (form text)

abbrev pub is_equals : ℕ → Bool
is_equals byte = byte == 61

-- what stands before the first `=`
abbrev pub name_in : Text → Text
name_in text = before_first is_equals text

-- what stands behind the first `=`, where there is one
abbrev pub value_behind_equals : Text → Option Text
value_behind_equals text =
    if list_any is_equals text then Some (after_first is_equals text) else None

-- what a word is, where options may stand: the end of the options, an item, the name of an option
-- whose value is the next word, or none of these
pub data Sight : Type 0 where
  ends : Sight
  whole : Item → Sight
  opens : Text → Sight
  wrong : Sight

-- `--name` or `--name=value`
abbrev pub long_sight : Text → Option Bool → Option Text → Sight
long_sight name (Some true) (Some value) = whole (named name value)
long_sight name (Some true) None = opens name
long_sight name (Some false) None = whole (named name (codes "true"))
long_sight name _ _ = wrong

abbrev pub sight_of : KnownOptions → Text → HyphenForm → Sight
sight_of known text plain = whole (word text)
sight_of known text short = wrong
sight_of known text (long []) = ends
sight_of known text (long (byte ∷ rest)) =
    let name = name_in (byte ∷ rest) in
    long_sight name (takes_value known name) (value_behind_equals (byte ∷ rest))

abbrev pub text_sight : KnownOptions → Text → Sight
text_sight known text = sight_of known text (form text)

-- ---- all words

abbrev pub put_first : Item → Option (List Item) → Option (List Item)
put_first item = option_map (λ items. item ∷ items)

-- by what a word is: all words behind `--` are positional
abbrev pub first : Sight → List Text → Option (List Item) → (Text → Option (List Item))
    → Option (List Item)
first ends rest items valued = Some (map word rest)
first (whole item) rest items valued = put_first item items
first (opens name) rest items valued = valued name
first wrong rest items valued = None

-- the items that the words spell; a value that is a word of its own is plain
abbrev pub items : KnownOptions → List Text → Option (List Item)
items known [] = Some []
items known (text ∷ []) = first (text_sight known text) [] (Some []) (λ name. None)
items known (text ∷ value ∷ rest) =
    first (text_sight known text) (value ∷ rest) (items known (value ∷ rest))
    (λ name. if is_plain value then put_first (named name value) (items known rest) else None)

-- ---- what is given

-- names, each with its text
abbrev pub GivenTexts : Type 0
GivenTexts = List (Text × Text)

abbrev pub is_given : GivenTexts → Text → Bool
is_given given name = list_any (λ pair. bytes_eq pair.0 name) given

abbrev pub text_of : GivenTexts → Text → Option Text
text_of given name = option_map (λ pair. pair.1) (find (λ pair. bytes_eq pair.0 name) given)

-- each name is given once at most
abbrev pub with_given : Text → Text → GivenTexts → Option GivenTexts
with_given name text given = if is_given given name then None else Some (given ++ (name, text) ∷ [])

-- a positional word goes to the next of the names, and there is none too many
abbrev pub with_positional : List Text → GivenTexts → List Item → Option GivenTexts
with_positional names given [] = Some given
with_positional names given (named name text ∷ rest) =
    option_and_then (λ more. with_positional names more rest) (with_given name text given)
with_positional [] given (word text ∷ rest) = None
with_positional (name ∷ names) given (word text ∷ rest) =
    option_and_then (λ more. with_positional names more rest) (with_given name text given)

-- what the words give, for these options and these names of positional words
abbrev pub given_by : KnownOptions → List Text → List Text → Option GivenTexts
given_by known names words = option_and_then (with_positional names []) (items known words)

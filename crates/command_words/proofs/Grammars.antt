-- What is read of words is what they spell.
use Rattle.std.proofs.Common.{◌≡◌, ◌∙◌, ℕ, ◌==◌, ◌+◌, Bool, true, false, not, ◌&&◌, ◌||◌, cond, List, [], ◌∷◌, ◌++◌, map, take, drop, Option, Some, None, refl, sym, ap, ap₂, subst, codes, arith, suc}
use Rattle.std.specs.Prelude.{option_map}
use Rattle.std.specs.List.{find, list_all, list_any, before_first, after_first, position_or_len}
use Rattle.std.specs.Str.{bytes_eq}
use Rattle.std.proofs.lemmas.Slice.Eq.{bytes_eq-Decides}
use Rattle.std.proofs.lemmas.Bool.Decides.{Decides-eqb}
use Rattle.command_words.specs.Words.{Text, KnownOptions, Item, named, word, HyphenForm, form, plain, short, long, is_plain, is_plain_form, is_equals, name_in, value_behind_equals, ends, whole, opens, wrong, long_sight, sight_of, text_sight, put_first, items, takes_value}
use Rattle.command_words.specs.Grammar.{Spells, IsGrammar, nothing, flag, one_word, two_words, positional, ended}
use Rattle.command_words.specs.Commands.{known_options}
use Rattle.command_words.specs.declared.commands.Verb.{Verb}
use Rattle.command_words.specs.declared.commands.Verb.TheVariants.{Run, Step, Check, Project, Replay, Gen, Upgrade, Mend, Drive, Resume, Monitor, Sessions}

-- ---- the first `=` of a text

some_more : (n : ℕ) → 1 + n ≡ suc n
some_more n = omega arith

next_place : (n : ℕ) → (1 + n) + 1 ≡ suc (n + 1)
next_place n = omega arith

no_equals : (text : Text) → list_any is_equals text ≡ false → before_first is_equals text ≡ text
no_equals [] none = refl
no_equals (byte ∷ rest) none = go (byte == 61) none (no_equals rest)
  where
    go : (b : Bool) → (b || list_any is_equals rest) ≡ false → (list_any is_equals rest ≡ false → before_first is_equals rest ≡ rest)
        → take (cond (not b) (1 + position_or_len is_equals rest) 0) (byte ∷ rest) ≡ byte ∷ rest
    go true e later = cc
    go false e later = rw some_more (ap (λ others. byte ∷ others) (later e))

some_equals : (text : Text) → list_any is_equals text ≡ true
    → text ≡ before_first is_equals text ++ (61 ∷ after_first is_equals text)
some_equals [] some = cc
some_equals (byte ∷ rest) some = go (byte == 61) refl some (some_equals rest)
  where
    go : (b : Bool) → (byte == 61) ≡ b → (b || list_any is_equals rest) ≡ true
        → (list_any is_equals rest ≡ true → rest ≡ before_first is_equals rest ++ (61 ∷ after_first is_equals rest))
        → byte ∷ rest ≡ take (cond (not b) (1 + position_or_len is_equals rest) 0) (byte ∷ rest)
        ++ (61 ∷ drop (cond (not b) (1 + position_or_len is_equals rest) 0 + 1) (byte ∷ rest))
    go true is e later = ap (λ n. n ∷ rest) ((Decides-eqb byte 61).0 is)
    go false is e later = rw (next_place, some_more) (ap (λ others. byte ∷ others) (later e))

-- of a name with no `=`, alone and before a value
name_before : (name value : Text) → list_any is_equals name ≡ false → before_first is_equals (name ++ (61 ∷ value)) ≡ name
name_before [] value none = refl
name_before (byte ∷ rest) value none = go (byte == 61) none (name_before rest value)
  where
    go : (b : Bool) → (b || list_any is_equals rest) ≡ false
        → (list_any is_equals rest ≡ false → before_first is_equals (rest ++ (61 ∷ value)) ≡ rest)
        → take (cond (not b) (1 + position_or_len is_equals (rest ++ (61 ∷ value))) 0) (byte ∷ (rest ++ (61 ∷ value))) ≡ byte ∷ rest
    go true e later = cc
    go false e later = rw some_more (ap (λ others. byte ∷ others) (later e))

value_behind : (name value : Text) → list_any is_equals name ≡ false → after_first is_equals (name ++ (61 ∷ value)) ≡ value
value_behind [] value none = refl
value_behind (byte ∷ rest) value none = go (byte == 61) none (value_behind rest value)
  where
    go : (b : Bool) → (b || list_any is_equals rest) ≡ false
        → (list_any is_equals rest ≡ false → after_first is_equals (rest ++ (61 ∷ value)) ≡ value)
        → drop (cond (not b) (1 + position_or_len is_equals (rest ++ (61 ∷ value))) 0 + 1) (byte ∷ (rest ++ (61 ∷ value))) ≡ value
    go true e later = cc
    go false e later = rw next_place (later e)

equals_inside : (name value : Text) → list_any is_equals (name ++ (61 ∷ value)) ≡ true
equals_inside [] value = refl
equals_inside (byte ∷ rest) value = go (byte == 61) (equals_inside rest value)
  where
    go : (b : Bool) → list_any is_equals (rest ++ (61 ∷ value)) ≡ true → (b || list_any is_equals (rest ++ (61 ∷ value))) ≡ true
    go true later = refl
    go false later = later

-- ---- one word

-- a word, by how it is written
data Written (known : KnownOptions) (text : Text) : Type 0 where
  end : text ≡ codes "--" → text_sight known text ≡ ends → Written known text
  flagged : (name : Text) → text ≡ codes "--" ++ name → takes_value known name ≡ Some false
      → text_sight known text ≡ whole (named name (codes "true")) → Written known text
  joined : (name value : Text) → text ≡ codes "--" ++ (name ++ (codes "=" ++ value)) → takes_value known name ≡ Some true
      → text_sight known text ≡ whole (named name value) → Written known text
  opened : (name : Text) → text ≡ codes "--" ++ name → takes_value known name ≡ Some true → text_sight known text ≡ opens name
      → Written known text
  bare : is_plain text ≡ true → text_sight known text ≡ whole (word text) → Written known text
  other : text_sight known text ≡ wrong → Written known text

written_long : (known : KnownOptions) (text rest : Text) → text ≡ codes "--" ++ rest
    → text_sight known text ≡ long_sight (name_in rest) (takes_value known (name_in rest)) (value_behind_equals rest) → Written known text
written_long known text rest is sees = by_equals (list_any is_equals rest) refl
  where
    by_value : (takes : Option Bool) → takes_value known (name_in rest) ≡ takes → (b : Bool) → list_any is_equals rest ≡ b
        → text_sight known text ≡ long_sight (name_in rest) takes (cond b (Some (after_first is_equals rest)) None) → Written known text
    by_value (Some true) has true equals sees =
        joined (name_in rest) (after_first is_equals rest) (is ∙ ap (λ t. codes "--" ++ t) (some_equals rest equals)) has sees
    by_value (Some true) has false equals sees =
        opened (name_in rest) (is ∙ sym (ap (λ t. codes "--" ++ t) (no_equals rest equals))) has sees
    by_value (Some false) has true equals sees = other sees
    by_value (Some false) has false equals sees =
        flagged (name_in rest) (is ∙ sym (ap (λ t. codes "--" ++ t) (no_equals rest equals))) has sees
    by_value None has b equals sees = other sees

    by_equals : (b : Bool) → list_any is_equals rest ≡ b → Written known text
    by_equals b equals =
        by_value (takes_value known (name_in rest)) refl b equals
        (sees ∙ ap (λ e. long_sight (name_in rest) (takes_value known (name_in rest)) (cond e (Some (after_first is_equals rest)) None)) equals)

written : (known : KnownOptions) (text : Text) → Written known text
written known [] = bare refl refl
written known (one ∷ rest) = by_first (one == 45) refl rest
  where
    by_third : (two : ℕ) (others : Text) → (one == 45) ≡ true → (two == 45) ≡ true → Written known (one ∷ two ∷ others)
    by_third two others a b = go others
      where
        spelled : (others : Text) → one ∷ two ∷ others ≡ codes "--" ++ others
        spelled others = ap₂ (λ x y. x ∷ y ∷ others) ((Decides-eqb one 45).0 a) ((Decides-eqb two 45).0 b)

        go : (others : Text) → Written known (one ∷ two ∷ others)
        go [] = end (spelled []) (rw (a, b) refl)
        go (three ∷ others) = written_long known (one ∷ two ∷ three ∷ others) (three ∷ others) (spelled (three ∷ others)) (rw (a, b) refl)

    by_second : (two : ℕ) (others : Text) (b : Bool) → (one == 45) ≡ true → (two == 45) ≡ b → Written known (one ∷ two ∷ others)
    by_second two others true a b = by_third two others a b
    by_second two others false a b = other (rw (a, b) refl)

    by_first : (b : Bool) → (one == 45) ≡ b → (others : Text) → Written known (one ∷ others)
    by_first false a others = bare (rw a refl) (rw a refl)
    by_first true a [] = bare (rw a refl) (rw a refl)
    by_first true a (two ∷ others) = by_second two others (two == 45) a refl

-- ---- from what is read to what is spelled

module _ (known : KnownOptions) where
  items_whole : (text : Text) (item : Item) (words : List Text) → text_sight known text ≡ whole item
      → items known (text ∷ words) ≡ put_first item (items known words)
  items_whole text item [] sees = rw sees refl
  items_whole text item (value ∷ rest) sees = rw sees refl

  items_ends : (text : Text) (words : List Text) → text_sight known text ≡ ends → items known (text ∷ words) ≡ Some (map word words)
  items_ends text [] sees = rw sees refl
  items_ends text (value ∷ rest) sees = rw sees refl

  items_wrong : (text : Text) (words : List Text) → text_sight known text ≡ wrong → items known (text ∷ words) ≡ None
  items_wrong text [] sees = rw sees refl
  items_wrong text (value ∷ rest) sees = rw sees refl

  -- an item before the others
  whole_spelled : (item : Item) (text : Text) (words : List Text) (found : List Item) (others : Option (List Item))
      → ((rest : List Item) → others ≡ Some rest → Spells known (text ∷ words) (item ∷ rest))
      → put_first item others ≡ Some found → Spells known (text ∷ words) found
  whole_spelled item text words found None spells e = cc
  whole_spelled item text words found (Some rest) spells e =
      let same : item ∷ rest ≡ found = cc in
      subst (Spells known (text ∷ words)) same (spells rest refl)

  value_spelled : (name text value : Text) (words : List Text) (found : List Item) (b : Bool) (others : Option (List Item))
      → text ≡ codes "--" ++ name → takes_value known name ≡ Some true → is_plain value ≡ b
      → ((rest : List Item) → others ≡ Some rest → Spells known words rest)
      → cond b (put_first (named name value) others) None ≡ Some found → Spells known (text ∷ value ∷ words) found
  value_spelled name text value words found false others is has plain_value spells e = cc
  value_spelled name text value words found true None is has plain_value spells e = cc
  value_spelled name text value words found true (Some rest) is has plain_value spells e =
      let same : named name value ∷ rest ≡ found = cc in
      subst (Spells known (text ∷ value ∷ words)) same
      (subst (λ t. Spells known (t ∷ value ∷ words) (named name value ∷ rest)) (sym is) (two_words has plain_value (spells rest refl)))

  -- a word, and then words whose reading is spelled
  word_spelled : (text : Text) (words : List Text) (found : List Item) → Written known text
      → items known (text ∷ words) ≡ Some found
      → ((rest : List Item) → items known words ≡ Some rest → Spells known words rest)
      → ((name : Text) → text_sight known text ≡ opens name → text ≡ codes "--" ++ name → takes_value known name ≡ Some true
      → Spells known (text ∷ words) found)
      → Spells known (text ∷ words) found
  word_spelled text words found (end is sees) e later opens_to =
      let same : map word words ≡ found = let all = sym (items_ends text words sees) ∙ e in cc in
      subst (Spells known (text ∷ words)) same (subst (λ t. Spells known (t ∷ words) (map word words)) (sym is) ended)
  word_spelled text words found (flagged name is has sees) e later opens_to =
      whole_spelled (named name (codes "true")) text words found (items known words)
      (λ rest reads. subst (λ t. Spells known (t ∷ words) (named name (codes "true") ∷ rest)) (sym is) (flag has (later rest reads)))
      (sym (items_whole text (named name (codes "true")) words sees) ∙ e)
  word_spelled text words found (joined name value is has sees) e later opens_to =
      whole_spelled (named name value) text words found (items known words)
      (λ rest reads. subst (λ t. Spells known (t ∷ words) (named name value ∷ rest)) (sym is) (one_word has (later rest reads)))
      (sym (items_whole text (named name value) words sees) ∙ e)
  word_spelled text words found (opened name is has sees) e later opens_to = opens_to name sees is has
  word_spelled text words found (bare plain_text sees) e later opens_to =
      whole_spelled (word text) text words found (items known words) (λ rest reads. positional plain_text (later rest reads))
      (sym (items_whole text (word text) words sees) ∙ e)
  word_spelled text words found (other sees) e later opens_to =
      let none = sym (items_wrong text words sees) ∙ e in cc

  nothing_spelled : (found : List Item) → Some [] ≡ Some found → Spells known [] found
  nothing_spelled found e = let same : [] ≡ found = cc in subst (Spells known []) same nothing

  pub spelled_as_read : (words : List Text) (found : List Item) → items known words ≡ Some found → Spells known words found
  spelled_as_read [] found e = nothing_spelled found e
  spelled_as_read (text ∷ []) found e =
      word_spelled text [] found (written known text) e nothing_spelled
      (λ name sees is has. let none : None ≡ Some found = rw sees at e in cc)
  spelled_as_read (text ∷ value ∷ rest) found e =
      word_spelled text (value ∷ rest) found (written known text) e (spelled_as_read (value ∷ rest))
      (λ name sees is has.
      let valued : cond (is_plain value) (put_first (named name value) (items known rest)) None ≡ Some found = rw sees at e in
      value_spelled name text value rest found (is_plain value) (items known rest) is has refl (spelled_as_read rest) valued)

-- ---- and back

-- a name has a byte, and no `=`
abbrev pub is_named : Text → Bool
is_named [] = false
is_named (byte ∷ rest) = not (list_any is_equals (byte ∷ rest))

abbrev pub are_named : KnownOptions → Bool
are_named known = list_all (λ one. is_named one.0) known

named_option : (known : KnownOptions) (name : Text) (takes : Bool) → are_named known ≡ true → takes_value known name ≡ Some takes
    → is_named name ≡ true
named_option [] name takes all has = cc
named_option (one ∷ known) name takes all has =
    go (named_option known name takes) (bytes_eq one.0 name) refl (is_named one.0) refl all has
  where
    first_true : (d : Bool) → (d && are_named known) ≡ true → d ≡ true
    first_true true e = refl
    first_true false e = e

    go : (are_named known ≡ true → takes_value known name ≡ Some takes → is_named name ≡ true) → (b : Bool) → bytes_eq one.0 name ≡ b → (d : Bool) → is_named one.0 ≡ d → (d && are_named known) ≡ true
        → option_map (λ c. c.1) (cond b (Some one) (find (λ c. bytes_eq c.0 name) known)) ≡ Some takes → is_named name ≡ true
    go later true same d named_first all has =
        ap is_named (sym ((bytes_eq-Decides one.0 name).0 same)) ∙ named_first ∙ first_true d all
    go later false same true named_first all has = later all has
    go later false same false named_first all has = cc

module _ (known : KnownOptions) (all : are_named known ≡ true) where
  -- what is seen of `--name` and `--name=value`
  sees_name : (name : Text) (takes : Bool) → is_named name ≡ true → takes_value known name ≡ Some takes
      → text_sight known (codes "--" ++ name) ≡ long_sight name (Some takes) None
  sees_name [] takes is has = cc
  sees_name (byte ∷ rest) takes is has =
      let none : list_any is_equals (byte ∷ rest) ≡ false = not_true (list_any is_equals (byte ∷ rest)) is in
      let same : name_in (byte ∷ rest) ≡ byte ∷ rest = no_equals (byte ∷ rest) none in
      rw same (rw (has, none) refl)
    where
      not_true : (b : Bool) → not b ≡ true → b ≡ false
      not_true true e = sym e
      not_true false e = refl

  sees_value : (name value : Text) → is_named name ≡ true → takes_value known name ≡ Some true
      → text_sight known (codes "--" ++ (name ++ (codes "=" ++ value))) ≡ whole (named name value)
  sees_value [] value is has = cc
  sees_value (byte ∷ rest) value is has =
      let none : list_any is_equals (byte ∷ rest) ≡ false = not_true (list_any is_equals (byte ∷ rest)) is in
      let same = name_before (byte ∷ rest) value none in
      let behind = value_behind (byte ∷ rest) value none in
      let inside = equals_inside (byte ∷ rest) value in
      rw same (rw (has, inside, behind) refl)
    where
      not_true : (b : Bool) → not b ≡ true → b ≡ false
      not_true true e = sym e
      not_true false e = refl

  sees_plain : (text : Text) (f : HyphenForm) → is_plain_form f ≡ true → sight_of known text f ≡ whole (word text)
  sees_plain text plain e = refl
  sees_plain text short e = cc
  sees_plain text (long rest) e = cc

  items_opens : (name text value : Text) (words : List Text) → text_sight known text ≡ opens name
      → items known (text ∷ value ∷ words) ≡ cond (is_plain value) (put_first (named name value) (items known words)) None
  items_opens name text value words sees = rw sees refl

  pub reads_spelled : {words : List Text} {found : List Item} → Spells known words found → items known words ≡ Some found
  reads_spelled nothing = refl
  reads_spelled (flag {name} {words} has others) =
      items_whole known (codes "--" ++ name) (named name (codes "true")) words (sees_name name false (named_option known name false all has) has)
      ∙ ap (put_first (named name (codes "true"))) (reads_spelled others)
  reads_spelled (one_word {name} {value} {words} has others) =
      items_whole known (codes "--" ++ (name ++ (codes "=" ++ value))) (named name value) words
      (sees_value name value (named_option known name true all has) has) ∙ ap (put_first (named name value)) (reads_spelled others)
  reads_spelled (two_words {name} {value} {words} has plain_value others) =
      items_opens name (codes "--" ++ name) value words (sees_name name true (named_option known name true all has) has)
      ∙ ap (λ b. cond b (put_first (named name value) (items known words)) None) plain_value
      ∙ ap (put_first (named name value)) (reads_spelled others)
  reads_spelled (positional {text} {words} plain_text others) =
      items_whole known text (word text) words (sees_plain text (form text) plain_text) ∙ ap (put_first (word text)) (reads_spelled others)
  reads_spelled (ended {words}) = items_ends known (codes "--") words refl

pub options_are_named : (verb : Verb) → are_named (known_options verb) ≡ true
options_are_named Run = refl
options_are_named Step = refl
options_are_named Check = refl
options_are_named Project = refl
options_are_named Replay = refl
options_are_named Gen = refl
options_are_named Upgrade = refl
options_are_named Mend = refl
options_are_named Drive = refl
options_are_named Resume = refl
options_are_named Monitor = refl
options_are_named Sessions = refl

pub is_grammar : (verb : Verb) → IsGrammar (known_options verb)
is_grammar verb words found = (spelled_as_read (known_options verb) words found, λ spells. reads_spelled (known_options verb) (options_are_named verb) spells)

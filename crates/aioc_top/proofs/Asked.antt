-- Words ask for no longer runs than they can say, and for threads only by their first.
use Rattle.std.proofs.Common.{◌≡◌, ◌≤◌, ℕ, List, [], ◌∷◌, Bool, true, false, true≢false, ◌≢◌, ◌&&◌, Option, Some, None, refl, sym, ap, ◌∙◌, subst, arith}
use Rattle.std.specs.Prelude.{option_map, option_and_then, unwrap_or, nat_le, codes, if◌then◌else◌}
use Rattle.std.specs.List.{find, list_all}
use Rattle.std.specs.Str.{bytes_eq, is_utf8}
use Rattle.std.specs.Str.Parse.{digits_value}
use Rattle.std.proofs.lemmas.Bool.{leb-true, or_parts}
use Rattle.marked_laws.proofs.Shapes.{none_some, some_same}
use Rattle.command_words.specs.Words.{Text, text_of, given_by}
use Rattle.command_words.specs.Commands.{Texts, named_first, command_by, command_with, options_of, monitor_by, number_or, number_within, optional_number, are_digits, known_options, positional_names, name_of, verb_of, verbs, most_steps, usual_steps, most_seed}
use Rattle.command_words.specs.declared.commands.Options.{Options}
use Rattle.command_words.specs.declared.commands.Command.{Command}
use Rattle.command_words.specs.declared.commands.Command.TheVariants as command
use Rattle.command_words.specs.declared.commands.Verb.{Verb}
use Rattle.command_words.specs.declared.commands.Verb.TheVariants.{Run, Step, Check, Project, Replay, Gen, Upgrade, Mend, Drive, Resume, Monitor, Sessions}
use Rattle.aioc_top.specs.Words.{asked, is_threaded, needs_threads, IsShort}

-- where a chain of two answers something, the first answered
first_answered : {A B : Type 0} (f : A → Option B) (o : Option A) (y : B) → option_and_then f o ≡ Some y → (x : A) × (o ≡ Some x) × (f x ≡ Some y)
first_answered f None y h = absurd (none_some h)
first_answered f (Some x) y h = (x, refl, h)

answered : {A B : Type 0} (f : A → B) (o : Option A) (y : B) → option_map f o ≡ Some y → (x : A) × (o ≡ Some x) × (f x ≡ y)
answered f None y h = absurd (none_some h)
answered f (Some x) y h = (x, refl, some_same h)

-- what is kept where a test holds
kept : {A : Type 0} (t : Bool) (x y : A) → (if t then Some x else None) ≡ Some y → (t ≡ true) × (x ≡ y)
kept true x y h = (refl, some_same h)
kept false x y h = absurd (none_some h)

second_true : (a b : Bool) → (a && b) ≡ true → b ≡ true
second_true true b h = h
second_true false b h = absurd cc

within : (least most : ℕ) (text : Text) (n : ℕ) → number_within least most text ≡ Some n → n ≤ most
within least most text n h =
    let number = digits_value 10 text in
    let is = kept (are_digits text && (nat_le least number && nat_le number most)) number n h in
    let bounded : nat_le number most ≡ true = second_true (nat_le least number) (nat_le number most) (second_true (are_digits text) (nat_le least number && nat_le number most) is.0) in
    subst (λ m. m ≤ most) is.1 (leb-true number most bounded)

first_true : (a b : Bool) → (a && b) ≡ true → a ≡ true
first_true true b h = refl
first_true false b h = absurd cc

at_least : (least most : ℕ) (text : Text) (n : ℕ) → number_within least most text ≡ Some n → least ≤ n
at_least least most text n h =
    let number = digits_value 10 text in
    let is = kept (are_digits text && (nat_le least number && nat_le number most)) number n h in
    let bounded : nat_le least number ≡ true = first_true (nat_le least number) (nat_le number most) (second_true (are_digits text) (nat_le least number && nat_le number most) is.0) in
    subst (λ m. least ≤ m) is.1 (leb-true least number bounded)

given_or_usual : (usual least most : ℕ) (text : Option Text) (n : ℕ) → usual ≤ most → number_or usual least most text ≡ Some n → n ≤ most
given_or_usual usual least most None n few h = subst (λ m. m ≤ most) (some_same h) few
given_or_usual usual least most (Some text) n few h =
    let first = answered (λ number. unwrap_or number usual) (option_map Some (number_within least most text)) n h in
    let second = answered Some (number_within least most text) first.0 first.1 in
    let same : second.0 ≡ n = ap (λ o. unwrap_or o usual) second.2 ∙ first.2 in
    subst (λ m. m ≤ most) same (within least most text second.0 second.1)

module _ (verb : Verb) (texts : Texts) (few : usual_steps verb ≤ most_steps verb) where
  bounded : (options : Options) → options_of verb texts ≡ Some options → options.steps ≤ most_steps verb
  bounded options h =
      let seed = first_answered _ (optional_number 0 most_seed (texts (codes "seed"))) options h in
      let steps = first_answered _ (number_or (usual_steps verb) 1 (most_steps verb) (texts (codes "steps"))) options seed.2 in
      let workers = answered _ (number_or 4 1 16 (texts (codes "workers"))) options steps.2 in
      subst (λ m. m ≤ most_steps verb) (ap (λ (o : Options). o.steps) workers.2)
      (given_or_usual (usual_steps verb) 1 (most_steps verb) (texts (codes "steps")) steps.0 few steps.1)

-- a number that may be left out lies in its bounds
number_bounds : (usual least most : ℕ) (text : Option Text) (n : ℕ) → least ≤ usual → usual ≤ most → number_or usual least most text ≡ Some n → (least ≤ n) × (n ≤ most)
number_bounds usual least most None n more few h = (subst (λ m. least ≤ m) (some_same h) more, subst (λ m. m ≤ most) (some_same h) few)
number_bounds usual least most (Some text) n more few h =
    let first = answered (λ number. unwrap_or number usual) (option_map Some (number_within least most text)) n h in
    let second = answered Some (number_within least most text) first.0 first.1 in
    let same : second.0 ≡ n = ap (λ o. unwrap_or o usual) second.2 ∙ first.2 in
    (subst (λ m. least ≤ m) same (at_least least most text second.0 second.1), subst (λ m. m ≤ most) same (within least most text second.0 second.1))

some_workers : (verb : Verb) (texts : Texts) (options : Options) → options_of verb texts ≡ Some options → (1 ≤ options.workers) × (options.workers ≤ 16)
some_workers verb texts options h =
    let seed = first_answered _ (optional_number 0 most_seed (texts (codes "seed"))) options h in
    let steps = first_answered _ (number_or (usual_steps verb) 1 (most_steps verb) (texts (codes "steps"))) options seed.2 in
    let workers = answered _ (number_or 4 1 16 (texts (codes "workers"))) options steps.2 in
    subst (λ m. (1 ≤ m) × (m ≤ 16)) (ap (λ (o : Options). o.workers) workers.2)
    (number_bounds 4 1 16 (texts (codes "workers")) workers.0 (omega arith) (omega arith) workers.1)

short_with : (verb : Verb) (texts : Texts) (found : Command) → command_with verb texts ≡ Some found → IsShort found
short_with Step texts found h =
    let its = answered command.Step (options_of Step texts) found h in
    subst IsShort its.2 (bounded Step texts (omega arith) its.0 its.1)
short_with Run texts found h =
    let its = answered command.Run (options_of Run texts) found h in
    subst IsShort its.2 (bounded Run texts (omega arith) its.0 its.1)
short_with Drive texts found h =
    let its = answered command.Drive (options_of Drive texts) found h in
    subst IsShort its.2 (bounded Drive texts (omega arith) its.0 its.1)
short_with Resume texts found h =
    let its = answered command.Resume (options_of Resume texts) found h in
    subst IsShort its.2 (bounded Resume texts (omega arith) its.0 its.1)
short_with Sessions texts found h =
    let its = answered command.Sessions (options_of Sessions texts) found h in
    let workers = some_workers Sessions texts its.0 its.1 in
    subst IsShort its.2 (bounded Sessions texts (omega arith) its.0 its.1, workers.0, workers.1)
short_with Check texts found h = subst IsShort (some_same h) tt
short_with Project texts found h = subst IsShort (some_same h) tt
short_with Replay texts found h = subst IsShort (some_same h) tt
short_with Upgrade texts found h = subst IsShort (some_same h) tt
short_with Mend texts found h = subst IsShort (some_same h) tt
short_with Gen texts found h =
    let number = first_answered _ (option_and_then (number_within 0 most_seed) (texts (codes "number"))) found h in
    let size = answered _ (option_and_then (number_within 1 400) (texts (codes "size"))) found number.2 in
    let given = first_answered (number_within 1 400) (texts (codes "size")) size.0 size.1 in
    subst IsShort size.2 (at_least 1 400 given.0 size.0 given.2, within 1 400 given.0 size.0 given.2)
short_with Monitor texts found h =
    let role = first_answered monitor_by (texts (codes "role")) found h in
    let its = kept _ _ found role.2 in
    subst IsShort its.1 tt

pub asked_short : (words : List (List ℕ)) (found : Command) → asked words ≡ Some found → IsShort found
asked_short words found h = by_words words (kept_words (list_all is_utf8 words) (named_first words) h)
  where
    kept_words : (t : Bool) (o : Option Command) → (if t then o else None) ≡ Some found → o ≡ Some found
    kept_words true o e = e
    kept_words false o e = absurd (none_some e)

    by_words : (rest : List Text) → named_first rest ≡ Some found → IsShort found
    by_words [] e = absurd (none_some e)
    by_words (name ∷ others) e =
        let verb = first_answered (command_by others) (verb_of name) found e in
        let given = first_answered (λ g. command_with verb.0 (text_of g)) (given_by (known_options verb.0) (positional_names verb.0) others) found verb.2 in
        short_with verb.0 (text_of given.0) found given.2

-- ---- words whose first is no word of threads ask for no command of theirs

alone_with : (verb : Verb) (texts : Texts) (found : Command) → verb ≢ Run → verb ≢ Sessions → command_with verb texts ≡ Some found → needs_threads found ≡ false
alone_with Sessions texts found first other h = absurd (other refl)
alone_with Run texts found first other h = absurd (first refl)
alone_with Step texts found first other h = let its = answered command.Step (options_of Step texts) found h in ap needs_threads (sym its.2)
alone_with Drive texts found first other h = let its = answered command.Drive (options_of Drive texts) found h in ap needs_threads (sym its.2)
alone_with Resume texts found first other h = let its = answered command.Resume (options_of Resume texts) found h in ap needs_threads (sym its.2)
alone_with Check texts found first other h = ap needs_threads (sym (some_same h))
alone_with Project texts found first other h = ap needs_threads (sym (some_same h))
alone_with Replay texts found first other h = ap needs_threads (sym (some_same h))
alone_with Upgrade texts found first other h = ap needs_threads (sym (some_same h))
alone_with Mend texts found first other h = ap needs_threads (sym (some_same h))
alone_with Gen texts found first other h =
    let number = first_answered _ (option_and_then (number_within 0 most_seed) (texts (codes "number"))) found h in
    let size = answered _ (option_and_then (number_within 1 400) (texts (codes "size"))) found number.2 in
    ap needs_threads (sym size.2)
alone_with Monitor texts found first other h =
    let role = first_answered monitor_by (texts (codes "role")) found h in
    let its = kept _ _ found role.2 in
    ap needs_threads (sym its.1)

found_holds : {A : Type 0} (p : A → Bool) (xs : List A) (y : A) → find p xs ≡ Some y → p y ≡ true
found_holds p [] y h = absurd (none_some h)
found_holds p (x ∷ xs) y h = by_test (p x) refl h (found_holds p xs y)
  where
    by_test : (t : Bool) → p x ≡ t → (if t then Some x else find p xs) ≡ Some y → (find p xs ≡ Some y → p y ≡ true) → p y ≡ true
    by_test true is e later = subst (λ z. p z ≡ true) (some_same e) is
    by_test false is e later = later e

-- the verb of a name that isn't a word of threads
other_verb : (name : Text) (verb wanted : Verb) → bytes_eq name (name_of wanted) ≡ false → verb_of name ≡ Some verb → verb ≢ wanted
unfolding verb_of
other_verb name verb wanted other h same =
    let named : bytes_eq name (name_of verb) ≡ true = found_holds (λ v. bytes_eq name (name_of v)) verbs verb h in
    true≢false (sym (subst (λ v. bytes_eq name (name_of v) ≡ true) same named) ∙ other)

pub asked_alone : (words : List (List ℕ)) (found : Command) → is_threaded words ≡ false → asked words ≡ Some found → needs_threads found ≡ false
asked_alone words found alone h = by_words words alone (kept_words (list_all is_utf8 words) (named_first words) h)
  where
    kept_words : (t : Bool) (o : Option Command) → (if t then o else None) ≡ Some found → o ≡ Some found
    kept_words true o e = e
    kept_words false o e = absurd (none_some e)

    by_words : (rest : List Text) → is_threaded rest ≡ false → named_first rest ≡ Some found → needs_threads found ≡ false
    by_words [] quiet e = absurd (none_some e)
    by_words (name ∷ others) quiet e =
        let verb = first_answered (command_by others) (verb_of name) found e in
        let given = first_answered (λ g. command_with verb.0 (text_of g)) (given_by (known_options verb.0) (positional_names verb.0) others) found verb.2 in
        let parts = or_parts (bytes_eq name (codes "run")) (bytes_eq name (codes "sessions")) quiet in
        alone_with verb.0 (text_of given.0) found (other_verb name verb.0 Run parts.0 verb.1) (other_verb name verb.0 Sessions parts.1 verb.1) given.2

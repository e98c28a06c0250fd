-- What the proof of `split` cites.
use Rattle.std.proofs.Common.{◌≡◌, ◌≢◌, ◌∙◌, ℕ, ◌+◌, ◌<◌, length, take, fold, ◌++◌, Bool, true, false, ◌&&◌, List, [], ◌∷◌, map, Some, None, refl, sym, ap, ap₂, inl, inr, codes}
use Rattle.std.specs.List.{list_all, slice_index_or}
use Rattle.std.specs.Borrow.{Bor}
use Rattle.std.proofs.lemmas.List.{map_more, map-append}
use Rattle.std.proofs.lemmas.List.Sums.{fold_push}
use Rattle.std.specs.Str.{is_utf8}
use Rattle.std.proofs.lemmas.Str.{IsUtf8-from_is_utf8}
use Rattle.clap.specs.Walk.{Rule, Text, rows_of}
use Rattle.clap.specs.Simple.{App, HasMatchesOf, Shape, app_of, app_of_fields, is_simple, new_app, new_rule, on_top, with_rule}
use Rattle.clap.specs.declared.builder.command.Command.{Command}
use Rattle.clap.specs.declared.builder.command.Command.TheOpen.{Command-F}
use Rattle.clap.specs.declared.builder.command.Command.TheViews.{out-Command}
use Rattle.clap.specs.Matches.{found_of}
use Rattle.clap.specs.Kinds.{HasKind, Kinds}
use Rattle.clap.specs.Values.{kind_of}
use Rattle.clap.specs.Faults.{fault_of, is_simple_and_free}
use Rattle.clap.specs.declared.error.Error.{Error}
use Rattle.clap.specs.declared.error.kind.ErrorKind.TheVariants.{OutOfMemory}
use Rattle.clap.specs.declared.parser.matches.ArgMatches.{ArgMatches}
use Rattle.clap.proofs.WalkLemmas.{first_value-rows}
use Rattle.command_words.specs.Commands.{known_options, positional_names}
use Rattle.command_words.specs.Splits.{Splits, known_in, given_rule}
use Rattle.command_words.specs.declared.tables.KnownOption.{KnownOption}
use Rattle.command_words.specs.declared.commands.Verb.{Verb}
use Rattle.command_words.proofs.Rules.{passes}
use Rattle.command_words.proofs.Settling.{AreTexts}
use Rattle.command_words.proofs.Parses.{taken, refused}
use Rattle.command_words.proofs.Built.{app_for, started, simple_and_free, table, table_built, table_easy, table_places, table_reads}
use Rattle.command_words.proofs.Defaults.{first_shown}

pub both : (a b : Bool) → (a && b) ≡ true → (a ≡ true) × (b ≡ true)
both true true e = (refl, refl)
both true false e = cc
both false b e = cc

pub texts_here : (words : List Text) → list_all is_utf8 words ≡ true → AreTexts words
unfolding AreTexts
texts_here [] e = tt
texts_here (word ∷ words) e =
    let parts = both (is_utf8 word) _ e in
    (IsUtf8-from_is_utf8 word parts.0, texts_here words parts.1)

module _ (verb : Verb) (app : App) (is : app ≡ app_for verb) (words : List Text) (texts : list_all is_utf8 words ≡ true) where
  pub free_here : is_simple_and_free app ≡ true
  free_here = ap is_simple_and_free is ∙ simple_and_free verb

  pub taken_here : (matches : ArgMatches) → fault_of app words ≡ [] → HasMatchesOf app words matches → Splits verb words (Some matches)
  taken_here matches none has =
      let found = taken (known_options verb) (positional_names verb) (app_for verb) (table verb) (table_reads verb) (table_places verb) (table_easy verb)
      (table_built verb) words (texts_here words texts) (ap (λ (a : App). fault_of a words) (sym is) ∙ none) in
      let rows = (has (both (is_simple app) _ free_here).0).0 ∙ ap (λ (a : App). Rattle.clap.specs.Simple.matches_of a words) is ∙ found.2 in
      (found.0, found.1, λ name. first_value-rows (found_of matches) name ∙ ap (Rattle.clap.specs.Walk.first_of name) rows ∙ first_shown verb found.0 name)

  pub refused_here : (error : Error) → HasKind (fault_of app words) error → kind_of error ≢ OutOfMemory → Splits verb words None
  refused_here error (inl memory) other = absurd (other memory)
  refused_here error (inr among) other =
      refused (known_options verb) (positional_names verb) (app_for verb) (table verb) (table_reads verb) (table_places verb) (table_easy verb)
      (table_built verb) words (texts_here words texts)
      (ap (λ (a : App). passes (fault_of a words)) (sym is) ∙ fails (fault_of app words) among)
    where
      fails : (kinds : Kinds) → Rattle.clap.specs.Kinds.IsAmong (kind_of error) kinds → passes kinds ≡ false
      fails [] among = absurd among
      fails (kind ∷ kinds) among = refl

-- ---- the loops over the table

module _ (start now next : App) (rule : Rule) (is_next : next ≡ with_rule now rule) where
  pub one_option : (known : List KnownOption) (i : ℕ) (d : KnownOption) → i < length known
      → now ≡ fold with_rule start (map given_rule (known_in (take i known)))
      → rule ≡ given_rule ((slice_index_or known i d).name.now, (slice_index_or known i d).takes_value)
      → next ≡ fold with_rule start (map given_rule (known_in (take (i + 1) known)))
  one_option known i d inside so_far is_rule =
      let x = slice_index_or known i d in
      let added : map given_rule (known_in (take (i + 1) known))
      ≡ map given_rule (known_in (take i known)) ++ given_rule (x.name.now, x.takes_value) ∷ [] =
      ap (map given_rule) (map_more (λ (one : KnownOption). (one.name.now, one.takes_value)) known i d inside)
      ∙ map-append given_rule (known_in (take i known)) ((x.name.now, x.takes_value) ∷ []) in
      is_next ∙ ap₂ with_rule so_far is_rule
      ∙ sym (ap (fold with_rule start) added ∙ fold_push with_rule start (map given_rule (known_in (take i known))) (given_rule (x.name.now, x.takes_value)))

  pub one_name : (places : List (Bor Text)) (i : ℕ) (d : Bor Text) → i < length places
      → now ≡ fold with_rule start (map new_rule (map (λ place. place.now) (take i places)))
      → rule ≡ new_rule (slice_index_or places i d).now
      → next ≡ fold with_rule start (map new_rule (map (λ place. place.now) (take (i + 1) places)))
  one_name places i d inside so_far is_rule =
      let x = slice_index_or places i d in
      let before : List Text = map (λ (place : Bor Text). place.now) (take i places) in
      let added : map new_rule (map (λ (place : Bor Text). place.now) (take (i + 1) places)) ≡ map new_rule before ++ new_rule x.now ∷ [] =
      ap (map new_rule) (map_more (λ (place : Bor Text). place.now) places i d inside) ∙ map-append new_rule before (x.now ∷ []) in
      is_next ∙ ap₂ with_rule so_far is_rule
      ∙ sym (ap (fold with_rule start) added ∙ fold_push with_rule start (map new_rule before) (new_rule x.now))

-- ---- the builders, and both together

pub started_here : (bare plain made : Command) → app_of bare ≡ new_app (codes "aioc")
    → out-Command plain ≡ record (out-Command bare) { no_binary_name = true }
    → out-Command made ≡ record (out-Command plain) { disable_help_flag = true } → app_of made ≡ started
started_here bare plain made is plain_is made_is =
    ap app_of_fields (made_is ∙ ap (λ (f : Command-F Command). record f { disable_help_flag = true }) plain_is)
    ∙ ap (on_top (λ (s : Shape). record s { no_binary_name = true; disable_help_flag = true })) is

pub built_here : (verb : Verb) (made with_options whole : App) (known : List KnownOption) (places : List (Bor Text)) → made ≡ started
    → known_in known ≡ known_options verb → map (λ place. place.now) places ≡ positional_names verb
    → with_options ≡ fold with_rule made (map given_rule (known_in known))
    → whole ≡ fold with_rule with_options (map new_rule (map (λ place. place.now) places)) → whole ≡ app_for verb
built_here verb made with_options whole known places is known_are places_are then last =
    last ∙ ap₂ (λ app names. fold with_rule app (map new_rule names))
    (then ∙ ap₂ (λ app cs. fold with_rule app (map given_rule cs)) is known_are) places_are

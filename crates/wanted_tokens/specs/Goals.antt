-- The goals that want one symbol or one reserved word, by short names.
use Rattle.aioc_tokens.specs.declared.words.Word.TheVariants as word
use Rattle.aioc_tokens.specs.declared.words.Punctuator.TheVariants as punctuator
use Rattle.wanted_tokens.specs.declared.goals.Goal.{Goal}
use Rattle.wanted_tokens.specs.declared.goals.Goal.TheVariants.{Symbol, Reserved}

abbrev pub left_brace : Goal
left_brace = Symbol punctuator.LeftBrace

abbrev pub right_brace : Goal
right_brace = Symbol punctuator.RightBrace

abbrev pub left_paren : Goal
left_paren = Symbol punctuator.LeftParen

abbrev pub right_paren : Goal
right_paren = Symbol punctuator.RightParen

abbrev pub semicolon : Goal
semicolon = Symbol punctuator.Semicolon

abbrev pub colon : Goal
colon = Symbol punctuator.Colon

abbrev pub equal : Goal
equal = Symbol punctuator.Equal

abbrev pub at_sign : Goal
at_sign = Symbol punctuator.At

abbrev pub arrow_sign : Goal
arrow_sign = Symbol punctuator.Arrow

abbrev pub dot : Goal
dot = Symbol punctuator.Dot

abbrev pub hash : Goal
hash = Symbol punctuator.Hash

abbrev pub on_word : Goal
on_word = Reserved word.On

abbrev pub do_word : Goal
do_word = Reserved word.Do

abbrev pub n_word : Goal
n_word = Reserved word.N

abbrev pub rule_word : Goal
rule_word = Reserved word.Rule

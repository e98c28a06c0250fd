use Rattle.std.proofs.Common.{◌≡◌, map, true, take}
use Rattle.std.specs.List.{list_all}
use Rattle.std.specs.Str.{is_utf8}
use Rattle.command_words.specs.Commands.{word_texts}
use Rattle.command_words.proofs.reading.texts.Given as goal

abbrev pub invariant-loop-word : goal.invariant-loop-word
invariant-loop-word l = record {
  texts : map (λ text. text.now) l.texts.items ≡ word_texts (take l.word-index l.words);
  utf8 : list_all is_utf8 (word_texts (take l.word-index l.words)) ≡ true;
}

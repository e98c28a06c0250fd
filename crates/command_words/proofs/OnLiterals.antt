-- What a proof unfolds to compute `command_of` at words that are written out.
use Rattle.std.specs.Prelude.{⊤}
use Rattle.std.specs.Char.{encode_utf8}
use Rattle.std.specs.Str.{chars, is_utf8}
use Rattle.dioc_terms.specs.Names.{is_reserved, reserved_words}
use Rattle.command_words.specs.Commands.{verb_of}

unfoldable pub words_on_literals : ⊤
unfolding is_utf8 chars encode_utf8 verb_of is_reserved reserved_words
words_on_literals = tt

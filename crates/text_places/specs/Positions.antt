-- Lines and columns of a text.
use Rattle.std.specs.Prelude.{ℕ, ◌+◌, ◌-◌, List, take, drop, reverse, not, ◌==◌, count_by}
use Rattle.std.specs.List.{prefix_len}
use Rattle.aioc_tokens.specs.Tokens.{line_length}
use Rattle.text_places.specs.declared.positions.Position.{Position}

-- how many line feeds a text has
abbrev pub feeds_in : List ℕ → ℕ
feeds_in text = count_by (λ byte. byte == 10) text

-- how many bytes stand behind its last line feed, all of them where it has none
abbrev pub behind_feed : List ℕ → ℕ
behind_feed text = prefix_len (λ byte. not (byte == 10)) (reverse text)

-- the line and the column of a byte, both from 1, by the bytes before it
abbrev pub position_of : List ℕ → ℕ → Position
position_of text at =
    record { line = feeds_in (take at text) + 1; column = behind_feed (take at text) + 1 }

-- the line in which the byte stands
abbrev pub line_around : List ℕ → ℕ → List ℕ
line_around text at =
    let line = drop (at - behind_feed (take at text)) text in take (line_length line) line

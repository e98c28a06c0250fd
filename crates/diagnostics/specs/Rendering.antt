-- The first line that is told of a fault.
use Rattle.std.specs.Prelude.{ℕ, List, ◌++◌, codes, decimal}
use Rattle.text_places.specs.declared.positions.Position.{Position}

-- FILE:LINE:COLUMN: error: MESSAGE
abbrev pub head_text : List ℕ → Position → List ℕ → List ℕ
head_text file position message =
    file ++ codes ":" ++ decimal position.line ++ codes ":" ++ decimal position.column
    ++ codes ": error: " ++ message ++ codes "\n"

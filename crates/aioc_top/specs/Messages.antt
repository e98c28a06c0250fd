-- The lines that tell a person why a command did not do its work.
use Rattle.std.specs.Prelude.{ℕ, List, [], ◌∷◌, ◌++◌, codes, decimal}
use Rattle.trace_text.specs.Lines.{line_end}
use Rattle.aioc_top.specs.Reasons.{Reason, reason_text}

abbrev pub usage_line : List ℕ
usage_line = codes "usage: aioc COMMAND [OPTIONS]" ++ line_end ∷ []

abbrev pub read_fault_line : List ℕ
read_fault_line = codes "read fault" ++ line_end ∷ []

abbrev pub write_fault_line : List ℕ
write_fault_line = codes "write fault" ++ line_end ∷ []

abbrev pub too_long_line : List ℕ
too_long_line = codes "too long" ++ line_end ∷ []

abbrev pub memory_line : List ℕ
memory_line = codes "out of memory" ++ line_end ∷ []

-- the byte at which the reading of the text ends, counted from 0
abbrev pub syntax_line : ℕ → List ℕ
syntax_line byte = codes "syntax: byte " ++ decimal byte ++ line_end ∷ []

abbrev pub refusal_line : Reason → List ℕ
refusal_line why = codes "refused: " ++ (reason_text why ++ line_end ∷ [])

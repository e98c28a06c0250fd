-- The lines of a trace: one for each entry, single spaces exactly as here, and a last line.
use Rattle.std.specs.Prelude.{ℕ, suc, List, [], ◌++◌, Option, Some, None, ℤ, pos, negsuc, codes, decimal}
use Rattle.dioc_terms.specs.declared.names.Index.{Index}
use Rattle.dioc_terms.specs.declared.values.Value.{Value}
use Rattle.dioc_terms.specs.declared.processes.Tag.{Tag}
use Rattle.dioc_terms.specs.declared.processes.Tag.TheVariants.{Op, Choice, Go, Turn, Begin, End, Out}
use Rattle.dioc_terms.specs.declared.processes.Key.{Key}
use Rattle.dioc_terms.specs.declared.entries.Note.{Note}
use Rattle.dioc_terms.specs.declared.entries.Note.TheVariants as note
use Rattle.dioc_terms.specs.declared.entries.Chosen.{Chosen}
use Rattle.dioc_terms.specs.declared.entries.Chosen.TheVariants as chosen
use Rattle.dioc_terms.specs.declared.entries.Entry.{Entry}
use Rattle.dioc_terms.specs.declared.entries.Entry.TheVariants as entry
use Rattle.dioc_terms.specs.declared.bundles.Last.{Last}
use Rattle.dioc_terms.specs.declared.bundles.Last.TheVariants.{Ended, Stopped}
use Rattle.aioc_tokens.specs.Tokens.{quoted}
use Rattle.text_pieces.specs.declared.values.Minus.TheVariants.{Close}
use Rattle.text_pieces.specs.Pieces.{truth_text, value_text as piece_text}

-- a value, with the `-` of a negative number directly before its digits
abbrev pub value_text : Value → List ℕ
value_text v = piece_text Close v

-- `#`, the epoch, `.`, the place
abbrev pub index_text : Index → List ℕ
index_text i = codes "#" ++ decimal i.epoch ++ codes "." ++ decimal i.place

-- an operation by its name, an auxiliary tag with a `!` before it
abbrev pub tag_text : Tag → List ℕ
tag_text (Op name) = name
tag_text Choice = codes "!choice"
tag_text Go = codes "!go"
tag_text Turn = codes "!turn"
tag_text Begin = codes "!begin"
tag_text End = codes "!end"
tag_text Out = codes "!out"

abbrev pub note_text : Note → List ℕ
note_text (note.Val v) = value_text v
note_text (note.Flag b) = truth_text b
note_text note.Keep = codes "keep"
note_text (note.Part n) = codes "part " ++ decimal n
note_text note.Done = codes "done"

-- `a -> b o#0.3`
abbrev pub key_text : Key → List ℕ
key_text k = k.from.0 ++ codes " -> " ++ k.to.0 ++ codes " " ++ tag_text k.tag ++ index_text k.index

-- the variable of a take, behind a space
abbrev pub variable_text : Option (List ℕ) → List ℕ
variable_text None = []
variable_text (Some name) = codes " " ++ name

abbrev pub choice_text : Chosen → List ℕ
choice_text chosen.Keep = codes "keep"
choice_text (chosen.Rule name n) = codes "rule " ++ name ++ codes " as " ++ decimal n

-- the line of an entry, without its end
abbrev pub line : Entry → List ℕ
line (entry.Put k n) = codes "put " ++ key_text k ++ codes " = " ++ note_text n
line (entry.Take k x) = codes "take " ++ key_text k ++ variable_text x
line (entry.Set i r x v) = codes "set " ++ x ++ codes "@" ++ r.0 ++ codes " " ++ index_text i ++
    codes " = " ++ value_text v
line (entry.Input i r x v) = codes "input " ++ x ++ codes "@" ++ r.0 ++ codes " " ++ index_text i ++
    codes " = " ++ value_text v
line (entry.Pick i r b) = codes "pick " ++ r.0 ++ codes " " ++ index_text i ++ codes " " ++
    truth_text b
line (entry.Scope i r c) = codes "scope " ++ r.0 ++ codes " " ++ index_text i ++ codes " " ++
    choice_text c
line (entry.Add name) = codes "add " ++ name
line (entry.Drop name) = codes "drop " ++ name
line (entry.Env key v) = codes "env " ++ key ++ codes " = " ++ value_text v

abbrev pub last_line : Last → List ℕ
last_line (Ended n) = codes "ended " ++ decimal n
last_line (Stopped n) = codes "stopped " ++ decimal n

-- the byte that ends a line
abbrev pub line_end : ℕ
line_end = 10

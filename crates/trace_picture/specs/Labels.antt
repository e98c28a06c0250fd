-- What a picture says of an entry.
use Rattle.std.specs.Prelude.{ℕ, List, [], ◌∷◌, ◌++◌, Option, Some, None, codes}
use Rattle.dioc_terms.specs.declared.entries.Entry.{Entry}
use Rattle.dioc_terms.specs.declared.entries.Entry.TheVariants as entry
use Rattle.dioc_terms.specs.declared.bundles.Last.{Last}
use Rattle.text_pieces.specs.Pieces.{truth_text}
use Rattle.trace_text.specs.Lines.{last_line, line_end, value_text, index_text, tag_text, note_text, choice_text}

-- the last line with its end
abbrev pub ended_text : Last → List ℕ
ended_text end = last_line end ++ line_end ∷ []

-- the variable that keeps what was taken
abbrev pub kept_text : Option (List ℕ) → List ℕ
kept_text None = []
kept_text (Some name) = codes " as " ++ name

-- what the entry did, without its roles
abbrev pub label : Entry → List ℕ
label (entry.Put k n) = tag_text k.tag ++ codes " = " ++ note_text n
label (entry.Take k x) = codes "take " ++ tag_text k.tag ++ kept_text x
label (entry.Set i r x v) = x ++ codes " = " ++ value_text v
label (entry.Input i r x v) = codes "input " ++ x ++ codes " = " ++ value_text v
label (entry.Pick i r b) = codes "pick " ++ truth_text b
label (entry.Scope i r c) = codes "scope " ++ index_text i ++ codes " " ++ choice_text c
label (entry.Add name) = codes "add " ++ name
label (entry.Drop name) = codes "drop " ++ name
label (entry.Env key v) = codes "env " ++ key ++ codes " = " ++ value_text v

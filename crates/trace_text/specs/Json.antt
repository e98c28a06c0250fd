-- The lines of a trace as compact JSON objects, the keys in the order of their bytes.
use Rattle.std.specs.Prelude.{ℕ, List, [], ◌∷◌, ◌++◌, Option, Some, None, codes, decimal}
use Rattle.dioc_terms.specs.declared.names.Role.{Role}
use Rattle.dioc_terms.specs.declared.names.Index.{Index}
use Rattle.dioc_terms.specs.declared.values.Value.{Value}
use Rattle.dioc_terms.specs.declared.values.Value.TheVariants as value
use Rattle.dioc_terms.specs.declared.entries.Note.{Note}
use Rattle.dioc_terms.specs.declared.entries.Note.TheVariants as note
use Rattle.dioc_terms.specs.declared.entries.Chosen.{Chosen}
use Rattle.dioc_terms.specs.declared.entries.Chosen.TheVariants as chosen
use Rattle.dioc_terms.specs.declared.entries.Entry.{Entry}
use Rattle.dioc_terms.specs.declared.entries.Entry.TheVariants as entry
use Rattle.dioc_terms.specs.declared.bundles.Last.{Last}
use Rattle.dioc_terms.specs.declared.bundles.Last.TheVariants.{Ended, Stopped}
use Rattle.aioc_tokens.specs.Tokens.{quoted}
use Rattle.text_pieces.specs.Pieces.{truth_text}
use Rattle.text_pieces.specs.declared.values.Minus.TheVariants.{Close}
use Rattle.text_pieces.specs.Pieces.{integer_text}
use Rattle.trace_text.specs.Lines.{tag_text}

-- a key with its value
abbrev pub json_member : List ℕ → List ℕ → List ℕ
json_member key json = quoted key ++ codes ":" ++ json

abbrev pub tail_members : List (List ℕ) → List ℕ
tail_members [] = []
tail_members (m ∷ ms) = codes "," ++ m ++ tail_members ms

abbrev pub object : List (List ℕ) → List ℕ
object [] = codes "{}"
object (m ∷ ms) = codes "{" ++ m ++ tail_members ms ++ codes "}"

abbrev pub value_json : Value → List ℕ
value_json value.Nil = codes "null"
value_json (value.Bool b) = truth_text b
value_json (value.Int z) = integer_text Close z
value_json (value.Text bytes) = quoted bytes

abbrev pub note_json : Note → List ℕ
note_json (note.Val v) = value_json v
note_json (note.Flag b) = truth_text b
note_json note.Keep = quoted (codes "keep")
note_json (note.Part n) = quoted (codes "part " ++ decimal n)
note_json note.Done = quoted (codes "done")

-- as "0.3"
abbrev pub index_json : Index → List ℕ
index_json i = quoted (decimal i.epoch ++ codes "." ++ decimal i.place)

abbrev pub index_member : Index → List ℕ
index_member i = json_member (codes "index") (index_json i)

abbrev pub kind_member : List ℕ → List ℕ
kind_member kind = json_member (codes "kind") (quoted kind)

abbrev pub variable_members : Option (List ℕ) → List (List ℕ)
variable_members None = []
variable_members (Some name) = json_member (codes "var") (quoted name) ∷ []

-- the object of an entry that sets a variable
abbrev pub setting_json : List ℕ → Index → Role → List ℕ → Value → List ℕ
setting_json kind i r x v = object (index_member i ∷ kind_member kind ∷
    json_member (codes "role") (quoted r.0) ∷
    json_member (codes "value") (value_json v) ∷ json_member (codes "var") (quoted x) ∷ [])

abbrev pub kept_json : Index → Role → List ℕ
kept_json i r = object (index_member i ∷ kind_member (codes "scope") ∷
    json_member (codes "role") (quoted r.0) ∷
    json_member (codes "value") (quoted (codes "keep")) ∷ [])

abbrev pub replaced_json : Index → Role → List ℕ → ℕ → List ℕ
replaced_json i r name n = object (json_member (codes "epoch") (decimal n) ∷ index_member i ∷
    kind_member (codes "scope") ∷ json_member (codes "role") (quoted r.0) ∷
    json_member (codes "rule") (quoted name) ∷ [])

abbrev pub scope_json : Index → Role → Chosen → List ℕ
scope_json i r chosen.Keep = kept_json i r
scope_json i r (chosen.Rule name n) = replaced_json i r name n

-- the object of an entry that adds or drops a rule
abbrev pub rule_json : List ℕ → List ℕ → List ℕ
rule_json kind name = object (kind_member kind ∷ json_member (codes "rule") (quoted name) ∷ [])

abbrev pub json_line : Entry → List ℕ
json_line (entry.Put k n) = object (json_member (codes "from") (quoted k.from.0) ∷
    index_member k.index ∷ kind_member (codes "put") ∷
    json_member (codes "name") (quoted (tag_text k.tag)) ∷
    json_member (codes "to") (quoted k.to.0) ∷
    json_member (codes "value") (note_json n) ∷ [])
json_line (entry.Take k x) = object (json_member (codes "from") (quoted k.from.0) ∷
    index_member k.index ∷ kind_member (codes "take") ∷
    json_member (codes "name") (quoted (tag_text k.tag)) ∷
    json_member (codes "to") (quoted k.to.0) ∷
    variable_members x)
json_line (entry.Set i r x v) = setting_json (codes "set") i r x v
json_line (entry.Input i r x v) = setting_json (codes "input") i r x v
json_line (entry.Pick i r b) = object (index_member i ∷ kind_member (codes "pick") ∷
    json_member (codes "role") (quoted r.0) ∷
    json_member (codes "value") (truth_text b) ∷ [])
json_line (entry.Scope i r c) = scope_json i r c
json_line (entry.Add name) = rule_json (codes "add") name
json_line (entry.Drop name) = rule_json (codes "drop") name
json_line (entry.Env key v) = object (json_member (codes "key") (quoted key) ∷
    kind_member (codes "env") ∷ json_member (codes "value") (value_json v) ∷ [])

abbrev pub end_json : List ℕ → ℕ → List ℕ
end_json kind n = object (json_member (codes "entries") (decimal n) ∷ kind_member kind ∷ [])

abbrev pub json_last_line : Last → List ℕ
json_last_line (Ended n) = end_json (codes "ended") n
json_last_line (Stopped n) = end_json (codes "stopped") n

-- Tests whether two names, roles, indices, keys, values, entries or acts are the same.
use Rattle.std.specs.Prelude.{ℕ, List, Bool, true, false, ◌&&◌, ◌==◌, not, Option, Some, None}
use Rattle.std.specs.Ordering.{int_eq}
use Rattle.std.specs.List.{list_any}
use Rattle.std.specs.Str.{bytes_eq}
use Rattle.dioc_terms.specs.declared.names.Role.{Role}
use Rattle.dioc_terms.specs.declared.names.Index.{Index}
use Rattle.dioc_terms.specs.declared.values.Value.{Value}
use Rattle.dioc_terms.specs.declared.values.Value.TheVariants as value
use Rattle.dioc_terms.specs.declared.processes.Tag.{Tag}
use Rattle.dioc_terms.specs.declared.processes.Tag.TheVariants.{Op, Choice, Go, Turn, Begin, End, Out}
use Rattle.dioc_terms.specs.declared.processes.Key.{Key}
use Rattle.dioc_terms.specs.declared.entries.Note.{Note}
use Rattle.dioc_terms.specs.declared.entries.Note.TheVariants as note
use Rattle.dioc_terms.specs.declared.entries.Chosen.{Chosen}
use Rattle.dioc_terms.specs.declared.entries.Chosen.TheVariants as chosen
use Rattle.dioc_terms.specs.declared.entries.Entry.{Entry}
use Rattle.dioc_terms.specs.declared.entries.Entry.TheVariants as entry
use Rattle.dioc_terms.specs.declared.entries.Act.{Act}
use Rattle.dioc_terms.specs.declared.entries.Act.TheVariants as act

abbrev pub truth_eq : Bool → Bool → Bool
truth_eq true b = b
truth_eq false b = not b

abbrev pub name_eq : List ℕ → List ℕ → Bool
name_eq = bytes_eq

abbrev pub role_eq : Role → Role → Bool
role_eq a b = bytes_eq a.0 b.0

-- whether the role is one of these
abbrev pub member : Role → List Role → Bool
member role roles = list_any (role_eq role) roles

abbrev pub index_eq : Index → Index → Bool
index_eq a b = (a.epoch == b.epoch) && (a.place == b.place)

abbrev pub tag_eq : Tag → Tag → Bool
tag_eq (Op a) (Op b) = name_eq a b
tag_eq Choice Choice = true
tag_eq Go Go = true
tag_eq Turn Turn = true
tag_eq Begin Begin = true
tag_eq End End = true
tag_eq Out Out = true
tag_eq _ _ = false

abbrev pub key_eq : Key → Key → Bool
key_eq a b =
    index_eq a.index b.index && tag_eq a.tag b.tag && role_eq a.from b.from && role_eq a.to b.to

-- values of different kinds are unequal, and Nil equals Nil
abbrev pub value_eq : Value → Value → Bool
value_eq value.Nil value.Nil = true
value_eq (value.Bool a) (value.Bool b) = truth_eq a b
value_eq (value.Int a) (value.Int b) = int_eq a b
value_eq (value.Text a) (value.Text b) = bytes_eq a b
value_eq _ _ = false

abbrev pub note_eq : Note → Note → Bool
note_eq (note.Val a) (note.Val b) = value_eq a b
note_eq (note.Flag a) (note.Flag b) = truth_eq a b
note_eq note.Keep note.Keep = true
note_eq (note.Part a) (note.Part b) = a == b
note_eq note.Done note.Done = true
note_eq _ _ = false

abbrev pub chosen_eq : Chosen → Chosen → Bool
chosen_eq chosen.Keep chosen.Keep = true
chosen_eq (chosen.Rule a m) (chosen.Rule b n) = name_eq a b && (m == n)
chosen_eq _ _ = false

abbrev pub variable_eq : Option (List ℕ) → Option (List ℕ) → Bool
variable_eq None None = true
variable_eq (Some a) (Some b) = name_eq a b
variable_eq _ _ = false

abbrev pub entry_eq : Entry → Entry → Bool
entry_eq (entry.Put k a) (entry.Put l b) = key_eq k l && note_eq a b
entry_eq (entry.Take k x) (entry.Take l y) = key_eq k l && variable_eq x y
entry_eq (entry.Set i p x v) (entry.Set j q y w) =
    index_eq i j && role_eq p q && name_eq x y && value_eq v w
entry_eq (entry.Input i p x v) (entry.Input j q y w) =
    index_eq i j && role_eq p q && name_eq x y && value_eq v w
entry_eq (entry.Pick i p a) (entry.Pick j q b) = index_eq i j && role_eq p q && truth_eq a b
entry_eq (entry.Scope i p a) (entry.Scope j q b) = index_eq i j && role_eq p q && chosen_eq a b
entry_eq (entry.Add a) (entry.Add b) = name_eq a b
entry_eq (entry.Drop a) (entry.Drop b) = name_eq a b
entry_eq (entry.Env a v) (entry.Env b w) = name_eq a b && value_eq v w
entry_eq _ _ = false

abbrev pub act_eq : Act → Act → Bool
act_eq (act.Put k) (act.Put l) = key_eq k l
act_eq (act.Take k) (act.Take l) = key_eq k l
act_eq (act.Set i) (act.Set j) = index_eq i j
act_eq (act.Input i) (act.Input j) = index_eq i j
act_eq (act.Pick i) (act.Pick j) = index_eq i j
act_eq (act.Scope i) (act.Scope j) = index_eq i j
act_eq _ _ = false

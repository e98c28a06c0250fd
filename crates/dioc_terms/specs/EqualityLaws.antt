-- That each test of equality decides `≡`.
use Rattle.std.specs.Prelude.{◌≡◌, ℕ, List, Bool, Option}
use Rattle.std.specs.Bool.{Decides}
use Rattle.dioc_terms.specs.declared.names.Role.{Role}
use Rattle.dioc_terms.specs.declared.names.Index.{Index}
use Rattle.dioc_terms.specs.declared.values.Value.{Value}
use Rattle.dioc_terms.specs.declared.processes.Tag.{Tag}
use Rattle.dioc_terms.specs.declared.processes.Key.{Key}
use Rattle.dioc_terms.specs.declared.entries.Note.{Note}
use Rattle.dioc_terms.specs.declared.entries.Chosen.{Chosen}
use Rattle.dioc_terms.specs.declared.entries.Entry.{Entry}
use Rattle.dioc_terms.specs.declared.entries.Act.{Act}
use Rattle.dioc_terms.specs.Equality.{truth_eq, name_eq, role_eq, index_eq, tag_eq, key_eq, value_eq, note_eq, chosen_eq, variable_eq, entry_eq, act_eq}

-- the test answers `true` exactly where the two are the same
abbrev pub DecidesEquality : (A : Type 0) → (A → A → Bool) → Type 0
DecidesEquality A test = (a b : A) → Decides (test a b) (a ≡ b)

-- each test of equality decides `≡`
pub record EqualityDecides : Type 0 where
  pub truth : DecidesEquality Bool truth_eq
  pub name : DecidesEquality (List ℕ) name_eq
  pub role : DecidesEquality Role role_eq
  pub index : DecidesEquality Index index_eq
  pub tag : DecidesEquality Tag tag_eq
  pub key : DecidesEquality Key key_eq
  pub value : DecidesEquality Value value_eq
  pub note : DecidesEquality Note note_eq
  pub chosen : DecidesEquality Chosen chosen_eq
  pub variable : DecidesEquality (Option (List ℕ)) variable_eq
  pub entry : DecidesEquality Entry entry_eq
  pub act : DecidesEquality Act act_eq

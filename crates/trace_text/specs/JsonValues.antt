-- Values of JSON and the texts that they have.
use Rattle.std.specs.Prelude.{◌≡◌, ℕ, List, false, String}
use Rattle.std.specs.declared.alloc.Global.{Global}
use Rattle.serde_json.specs.Data.{Data, put}
use Rattle.serde_json.specs.View.{view, members_view}
use Rattle.serde_json.specs.Written.{has_float, compact_text}
use Rattle.serde_json.specs.declared.value.Value.{Value}

-- this is the compact text of the value
pub record IsJsonText (value : Data) (text : List ℕ) : Type 0 where
  pub no_float : has_float value ≡ false
  pub text_is : compact_text value ≡ text

abbrev pub IsJson : Value → List ℕ → Type 0
IsJson json text = IsJsonText (view json) text

-- the new members are the old ones with a value of this text at this key
pub record Puts (old new : List (String Global × Value)) (key text : List ℕ) : Type 0 where
  pub value : Data
  pub is : IsJsonText value text
  pub members : members_view new ≡ put key value (members_view old)

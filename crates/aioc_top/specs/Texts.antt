-- Texts one behind another.
use Rattle.std.specs.Prelude.{ℕ, List, [], ◌∷◌, ◌++◌}
use Rattle.aioc_top.specs.declared.commands.sessions.SessionText.{SessionText}

-- what contracts see of the text of a session
abbrev pub text_seen : SessionText → List ℕ
text_seen session = session.text.items

abbrev pub joined : List (List ℕ) → List ℕ
joined [] = []
joined (text ∷ texts) = text ++ joined texts

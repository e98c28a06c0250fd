-- The texts of sessions, one behind another, are the text of all.
use Rattle.std.proofs.Common.{◌≡◌, ℕ, suc, List, [], ◌∷◌, ◌++◌, refl, ap}
use Rattle.session_pool.specs.Answers.{PlainAnswer, numbered}
use Rattle.aioc_top.specs.Replies.{session_text, sessions_from}
use Rattle.aioc_top.specs.Texts.{joined}

pub joined_sessions : (first : ℕ) (answers : List PlainAnswer) → joined (numbered session_text first answers) ≡ sessions_from first answers
joined_sessions first [] = refl
joined_sessions first (answer ∷ answers) = ap (λ text. session_text first answer ++ text) (joined_sessions (suc first) answers)

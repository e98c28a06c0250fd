-- What holds of every text of a bundle, and of the first token that may not stand in a text.
use Rattle.std.specs.Prelude.{◌≡◌, ℕ, suc, ◌<◌, ◌≤◌, List, [], ◌++◌, length, take, Some, None}
use Rattle.dioc_terms.specs.Bundles.{IsFormed}
use Rattle.limits.specs.Limits.{most_bytes}
use Rattle.dioc_terms.specs.Plain.{PlainBundle}
use Rattle.aioc_tokens.specs.Lexemes.{Lexeme}
use Rattle.wanted_tokens.specs.declared.goals.Goal.TheVariants as goal
use Rattle.wanted_tokens.specs.Wanted.{unwanted}
use Rattle.bundle_text.specs.Many.{Many}
use Rattle.bundle_text.specs.Grammar.{IsBundle, ReadsAs, Spells}
use Rattle.bundle_text.specs.Sessions.{IsSession, SpellsSessions}
use Rattle.bundle_text.specs.Writing.{bundle_text}

-- a text spells at most one bundle
abbrev pub OneBundle : Type 0
OneBundle = (bytes : List ℕ) (b other : PlainBundle) → Spells bytes b → Spells bytes other
    → b ≡ other

-- what a text spells is formed
abbrev pub SpelledIsFormed : Type 0
SpelledIsFormed = (bytes : List ℕ) (b : PlainBundle) → Spells bytes b → IsFormed b

-- what is written of a formed bundle reads as that bundle, however long it is
abbrev pub WrittenIsRead : Type 0
WrittenIsRead = (b : PlainBundle) → IsFormed b → ReadsAs (bundle_text b) b

-- where it isn't too long, it spells that bundle
abbrev pub WrittenIsSpelled : Type 0
WrittenIsSpelled = (b : PlainBundle) → IsFormed b → length (bundle_text b) ≤ most_bytes
    → Spells (bundle_text b) b

-- so what was read within the limits is written within them, that of bytes aside
abbrev pub ReadIsWritten : Type 0
ReadIsWritten = (bytes : List ℕ) (b : PlainBundle) → Spells bytes b → ReadsAs (bundle_text b) b

-- a text spells at most one list of sessions
abbrev pub OneListOfSessions : Type 0
OneListOfSessions =
    (bytes : List ℕ) (sessions others : List PlainBundle) → SpellsSessions bytes sessions
    → SpellsSessions bytes others → sessions ≡ others

-- in a bundle each token may stand where it does, and no more is wanted at its end
abbrev pub BundlesGoThrough : Type 0
BundlesGoThrough = (text : List Lexeme) (b : PlainBundle)
    → IsBundle text b [] → unwanted goal.Bundle text ≡ None

-- and in sessions
abbrev pub SessionsGoThrough : Type 0
SessionsGoThrough = (text : List Lexeme) (sessions : List PlainBundle)
    → Many IsSession text sessions [] → 0 < length sessions → unwanted goal.Sessions text ≡ None

-- Where a token of a text may not stand, no bundle begins with the tokens up to it, whatever
-- follows them.
abbrev pub NoBundleBeginsSo : Type 0
NoBundleBeginsSo = (text others : List Lexeme) (place : ℕ) (b : PlainBundle)
    → unwanted goal.Bundle text ≡ Some place → place < length text
    → IsBundle (take (suc place) text ++ others) b [] → ⊥

-- and no sessions do
abbrev pub NoSessionsBeginSo : Type 0
NoSessionsBeginSo = (text others : List Lexeme) (place : ℕ) (sessions : List PlainBundle)
    → unwanted goal.Sessions text ≡ Some place → place < length text
    → Many IsSession (take (suc place) text ++ others) sessions [] → 0 < length sessions → ⊥

-- Where a token may not stand, nothing that goes through begins so.
use Rattle.std.proofs.Common.{◌≡◌, ℕ, suc, ◌<◌, List, [], ◌++◌, length, take, Some, None, sym, ◌∙◌}
use Rattle.dioc_terms.specs.Plain.{PlainBundle}
use Rattle.aioc_tokens.specs.Lexemes.{Lexeme}
use Rattle.wanted_tokens.specs.declared.goals.Goal.TheVariants as goal
use Rattle.wanted_tokens.specs.Wanted.{unwanted}
use Rattle.bundle_text.specs.Many.{Many}
use Rattle.bundle_text.specs.Grammar.{IsBundle}
use Rattle.bundle_text.specs.Sessions.{IsSession}
use Rattle.bundle_text.proofs.Prefixes.{same_stop}
use Rattle.bundle_text.proofs.SectionsThrough.{whole_goes, sessions_go}

pub no_bundle : (text others : List Lexeme) (place : ℕ) (b : PlainBundle) → unwanted goal.Bundle text ≡ Some place → place < length text → IsBundle (take (suc place) text ++ others) b [] → ⊥
no_bundle text others place b is within bundle =
    let stops = same_stop text others place _ within is in
    let goes = whole_goes (take (suc place) text ++ others) b bundle in
    let both : None ≡ Some place = sym goes ∙ stops in
    cc

pub no_sessions : (text others : List Lexeme) (place : ℕ) (sessions : List PlainBundle) → unwanted goal.Sessions text ≡ Some place → place < length text
    → Many IsSession (take (suc place) text ++ others) sessions [] → 0 < length sessions → ⊥
no_sessions text others place sessions is within stand some =
    let stops = same_stop text others place _ within is in
    let goes = sessions_go (take (suc place) text ++ others) sessions stand some in
    let both : None ≡ Some place = sym goes ∙ stops in
    cc

-- What the threads found, said of the bytes.
use Rattle.std.proofs.Common.{ℕ, ◌<◌, ◌≤◌, List, [], length, map, Vec, Global, Result, Ok, Err, IfOk, arith}
use Rattle.std.proofs.lemmas.List.{length-map}
use Rattle.limits.specs.Limits.{most_bytes, most_sessions}
use Rattle.dioc_terms.specs.declared.bundles.Bundle.{Bundle}
use Rattle.dioc_terms.specs.Plain.{plain}
use Rattle.aioc_tokens.specs.Lexemes.{Lexeme, HasLexemes}
use Rattle.bundle_text.specs.Many.{Many}
use Rattle.bundle_text.specs.Sessions.{IsSession, SpellsSessions}
use Rattle.bundle_text.proofs.Results.{ok_then}
use Rattle.bundle_text.proofs.SessionLists.{sessions_formed}
use Rattle.bundle_text.proofs.chunks.read_in_chunks.Goals as goal

spelled : {E : Type 0} (bytes : List ℕ) (found : List Lexeme) → length bytes ≤ most_bytes → HasLexemes bytes found → (r : Result (Vec Bundle Global) E) → IfOk r (λ sessions. Many IsSession found (map plain sessions.items) [])
    → IfOk r (λ sessions. 0 < length sessions.items) → IfOk r (λ sessions. length sessions.items ≤ most_sessions) → IfOk r (λ sessions. SpellsSessions bytes (map plain sessions.items))
spelled bytes found small lexemes (Ok sessions) stand some few = record {
  small = small;
  found = found;
  lexemes = lexemes;
  stand = stand;
  some = omega (arith, length-map sessions.items plain, some);
  few = omega (arith, length-map sessions.items plain, few);
}
spelled bytes found small lexemes (Err stop) stand some few = stand

pub returns-clause-found : goal.returns-clause-found
returns-clause-found g c =
    let read = c.sessions_in_chunks.ensures in
    spelled c.args.bytes.now c.packed.result (omega arith) c.packed.ensures.lexemes c.sessions_in_chunks.result read.stand read.some read.few

pub returns-clause-formed : goal.returns-clause-formed
returns-clause-formed g c =
    ok_then c.sessions_in_chunks.result (λ sessions stand. sessions_formed c.args.bytes.now c.packed.result sessions.items c.packed.ensures.lexemes stand) c.sessions_in_chunks.ensures.stand

-- The sessions so far stand from the first place up to the next.
use Rattle.std.proofs.Common.{◌-◌, drop, map}
use Rattle.dioc_terms.specs.Plain.{plain}
use Rattle.bundle_text.specs.Many.{Many}
use Rattle.bundle_text.specs.Sessions.{IsSession}
use Rattle.bundle_text.proofs.chunks.read_chunk.Given as goal

abbrev pub invariant-sessions : goal.invariant-sessions
invariant-sessions l = Many IsSession (drop l.from l.text) (map plain l.sessions.items) (drop l.to l.text)

abbrev pub decreases-sessions : goal.decreases-sessions
decreases-sessions l = l.end - l.to

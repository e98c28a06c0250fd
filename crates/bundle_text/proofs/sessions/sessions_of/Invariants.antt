-- The sessions so far stand up to the next place.
use Rattle.std.proofs.Common.{◌≡◌, ◌<◌, ◌≤◌, ◌-◌, ◌⊎◌, [], length, drop, map}
use Rattle.limits.specs.Limits.{most_sessions}
use Rattle.dioc_terms.specs.Plain.{plain}
use Rattle.bundle_text.specs.Many.{Many}
use Rattle.bundle_text.specs.Sessions.{IsSession}
use Rattle.bundle_text.proofs.sessions.sessions_of.Given as goal

abbrev pub invariant-sessions : goal.invariant-sessions
invariant-sessions l =
    Many IsSession l.text (map plain l.sessions.items) (drop l.next l.text) × (l.next ≤ length l.text) × (length l.sessions.items < most_sessions) × ((l.next < length l.text) ⊎ (l.sessions.items ≡ []))

abbrev pub decreases-sessions : goal.decreases-sessions
decreases-sessions l = length l.text - l.next

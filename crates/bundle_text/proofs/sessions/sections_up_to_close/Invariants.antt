-- The sections so far stand up to the next place, and are joined.
use Rattle.std.proofs.Common.{length, ◌-◌, ◌≤◌}
use Rattle.bundle_text.specs.Readers.{found_in}
use Rattle.bundle_text.proofs.SectionSteps.{SectionsSoFar}
use Rattle.bundle_text.proofs.sessions.sections_up_to_close.Given as goal

abbrev pub invariant-sections : goal.invariant-sections
invariant-sections l = SectionsSoFar l.reader.version l.reader.text.now l.at (found_in l.parts) l.next × (l.at ≤ l.next) × (l.next ≤ length l.reader.text.now)

abbrev pub decreases-sections : goal.decreases-sections
decreases-sections l = length l.reader.text.now - l.next

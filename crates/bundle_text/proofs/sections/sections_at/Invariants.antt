-- The sections so far stand up to the next place, and are joined.
use Rattle.std.proofs.Common.{length, ◌-◌}
use Rattle.bundle_text.specs.Readers.{found_in}
use Rattle.bundle_text.proofs.SectionSteps.{SectionsSoFar}
use Rattle.bundle_text.proofs.sections.sections_at.Given as goal

abbrev pub invariant-loop-next : goal.invariant-loop-next
invariant-loop-next l = SectionsSoFar l.reader.version l.reader.text.now l.at (found_in l.parts) l.next

abbrev pub decreases-loop-next : goal.decreases-loop-next
decreases-loop-next l = length l.reader.text.now - l.next

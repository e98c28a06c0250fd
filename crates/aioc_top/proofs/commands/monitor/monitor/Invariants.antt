-- The monitor has read the entries so far, and the role deviates in none of them.
use Rattle.std.proofs.Common.{take}
use Rattle.dioc_terms.specs.Plain.{plain}
use Rattle.role_monitor.specs.Monitors.{HasRead}
use Rattle.aioc_top.proofs.commands.monitor.monitor.Given as goal

abbrev pub invariant-loop-entry : goal.invariant-loop-entry
invariant-loop-entry l = HasRead (plain l.bundle) l.role l.monitor (take l.entry-index l.entries)

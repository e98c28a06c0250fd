use Rattle.std.proofs.Common.{take}
use Rattle.bundle_layout.specs.Parts.{pieces_of}
use Rattle.bundle_layout.proofs.Runs.{IsRunReady}
use Rattle.bundle_layout.proofs.written.write_parts.Given as goal

abbrev pub invariant-loop-place : goal.invariant-loop-place
invariant-loop-place l = IsRunReady l.bytes l.kind l.out.items l.from l.to (pieces_of l.bytes (take l.place l.parts))

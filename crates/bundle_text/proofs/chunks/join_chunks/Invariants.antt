-- The sessions so far stand from the front up to the next place, and those of each other chunk between its places.
use Rattle.std.proofs.Common.{drop, map, IfOk}
use Rattle.std.specs.List.{AllByRecursion}
use Rattle.dioc_terms.specs.Plain.{plain}
use Rattle.bundle_text.specs.Many.{Many}
use Rattle.bundle_text.specs.Sessions.{IsSession}
use Rattle.bundle_text.specs.SessionReaders.{IsChunkIn}
use Rattle.bundle_text.proofs.chunks.join_chunks.Given as goal

abbrev pub invariant-loop-chunk : goal.invariant-loop-chunk
invariant-loop-chunk l =
    Many IsSession l.text (map plain l.sessions.items) (drop l.next l.text) × AllByRecursion (λ chunk. IfOk chunk (IsChunkIn l.text)) l.chunk-iterator.rest.items

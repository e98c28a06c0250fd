-- What a contract sees of a source and a sink in memory.
use Rattle.std.specs.Prelude.{ℕ, List, Some}
use Rattle.aioc_io.specs.declared.memory.MemSource.{MemSource}
use Rattle.aioc_io.specs.declared.memory.MemSink.{MemSink}
use Rattle.aioc_io.specs.declared.plan.Plan.{Plan}
use Rattle.aioc_io.specs.Source.{SourceState}
use Rattle.aioc_io.specs.Sink.{SinkState}
use Rattle.aioc_io.specs.Sure.{bytes_left}

-- which calls of the source fail
abbrev pub source_plan : MemSource → Plan
source_plan source = source.plan

-- the bytes that the source has left
abbrev pub bytes_to_read : MemSource → List ℕ
bytes_to_read source = bytes_left source.inner

-- the bytes that it has left, and how often a call has failed
abbrev pub source_state : MemSource → SourceState
source_state source =
    record { left = Some (bytes_to_read source); faults = source.plan.faults }

-- which calls of the sink fail
abbrev pub sink_plan : MemSink → Plan
sink_plan sink = sink.plan

-- the bytes that the sink took
abbrev pub bytes_taken : MemSink → List ℕ
bytes_taken sink = sink.taken.items

-- the bytes that it took, and how often a call has failed
abbrev pub sink_state : MemSink → SinkState
sink_state sink = record { taken = Some (bytes_taken sink); faults = sink.plan.faults }

-- What a contract sees of a source and a sink that never fail.
use Rattle.std.specs.Prelude.{ℕ, List, drop}
use Rattle.aioc_io.specs.declared.sure.SureSource.{SureSource}
use Rattle.aioc_io.specs.declared.sure.SureSink.{SureSink}

-- the bytes that are left
abbrev pub bytes_left : SureSource → List ℕ
bytes_left source = drop source.at source.bytes.items

-- how many bytes were taken
abbrev pub number_taken : SureSink → ℕ
number_taken sink = sink.count

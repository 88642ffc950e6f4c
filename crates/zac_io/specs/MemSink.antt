-- A sink over memory.
use Rattle.std.specs.Prelude.{ℕ, ◌-◌, List, length}
use Rattle.zac_io.specs.declared.calls.Calls.{Calls}
use Rattle.zac_io.specs.declared.mem_sink.MemSink.{MemSink}

-- The bytes written so far to a sink over memory.
abbrev pub bytes_of : MemSink → List ℕ
bytes_of sink = sink.bytes.items

-- How many bytes it takes in all.
abbrev pub room_of : MemSink → ℕ
room_of sink = sink.room

-- How many more it takes.
abbrev pub room_left : MemSink → ℕ
room_left sink = sink.room - length sink.bytes.items

-- Its calls: how many were made, and which fail.
abbrev pub sink_calls : MemSink → Calls
sink_calls sink = sink.calls

-- How often a call on it failed.
abbrev pub sink_faults : MemSink → ℕ
sink_faults sink = sink.faults

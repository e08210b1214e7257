-- What contracts see of files and sinks in memory, and of a sink over a writer.
use Rattle.std.specs.Prelude.{ℕ, List}
use Rattle.pv_base.specs.Outside.{Text}
use Rattle.pv_base.specs.declared.in_memory.MemFiles.{MemFiles}
use Rattle.pv_base.specs.declared.in_memory.MemSink.{MemSink}
use Rattle.pv_base.specs.declared.host.HostSink.{HostSink}

-- the pairs of name and content
abbrev pub files_entries : MemFiles → List (Text × Text)
files_entries f = f.entries

-- the numbers of the calls that are to fail, counted from 1
abbrev pub files_failing : MemFiles → List ℕ
files_failing f = f.failing

-- how many reads there were
abbrev pub files_calls : MemFiles → ℕ
files_calls f = f.calls

-- how many of them failed
abbrev pub files_faults : MemFiles → ℕ
files_faults f = f.faults

abbrev pub sink_bytes : MemSink → Text
sink_bytes s = s.bytes.items

abbrev pub sink_room : MemSink → ℕ
sink_room s = s.room

abbrev pub sink_failing : MemSink → List ℕ
sink_failing s = s.failing

-- how many puts there were
abbrev pub sink_calls : MemSink → ℕ
sink_calls s = s.calls

-- how many of them failed
abbrev pub sink_faults : MemSink → ℕ
sink_faults s = s.faults

abbrev pub writer_of : {W : Type 0} → HostSink W → W
writer_of s = s.writer

-- how many puts over a writer failed
abbrev pub writer_faults : {W : Type 0} → HostSink W → ℕ
writer_faults s = s.faults

-- The adapters to the system: their counts, and the writer below a sink.
use Rattle.std.specs.Prelude.{◌≡◌, ℕ, List, Option, Some, None, Result, Ok}
use Rattle.std.specs.Io.KnownBytes.{ReadConsumes}
use Rattle.zac_io.specs.declared.outside.Failed.{Failed}
use Rattle.zac_io.specs.declared.file_shelf.FileShelf.{FileShelf}
use Rattle.zac_io.specs.declared.out_sink.OutSink.{OutSink}

-- How often a call on the system's files failed.
abbrev pub file_faults : {R F D : Type 0} → FileShelf R F D → ℕ
file_faults shelf = shelf.faults

-- How often a call on the system's writer failed.
abbrev pub out_faults : {W : Type 0} → OutSink W → ℕ
out_faults sink = sink.faults

-- The writer below a sink.
abbrev pub writer_of : {W : Type 0} → OutSink W → W
writer_of sink = sink.writer

-- The file that was picked, if there is one.
abbrev pub picked_file : {R F D : Type 0} → FileShelf R F D → Option F
picked_file shelf = shelf.picked

-- Where no file was picked, the answer is Ok 0. Where one was, one is picked still, and the read took the next of its
-- bytes, where the file tells its bytes.
abbrev pub ReadsPicked : {F : Type 0} → (F → Option (List ℕ)) → Option F → Option F → Result ℕ Failed → List ℕ → Type 0
ReadsPicked remaining None new result buffer = result ≡ Ok 0
ReadsPicked remaining (Some old) None result buffer = ⊥
ReadsPicked remaining (Some old) (Some new) result buffer = ReadConsumes (remaining old) (remaining new) result buffer

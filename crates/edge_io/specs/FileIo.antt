-- The adapter over std's readers and writers.
use Rattle.std.specs.Prelude.{ℕ}
use Rattle.edge_io.specs.declared.file_io.FileIo.{FileIo}

-- std's reader or writer
abbrev pub inner_of : {T : Type 0} → FileIo T → T
inner_of file = file.inner

-- how many reads were errors
abbrev pub read_errors_of : {T : Type 0} → FileIo T → ℕ
read_errors_of file = file.read_errors

-- how many writes were errors
abbrev pub write_errors_of : {T : Type 0} → FileIo T → ℕ
write_errors_of file = file.write_errors

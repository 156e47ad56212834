-- What a run tells: the words that it was given, and all that was handed to it, as it was before and as it is then.
use Rattle.std.specs.Prelude.{ℕ, List, String, map, string_bytes}
use Rattle.edge_disk.specs.declared.disk.Disk.{Ghosts as Disks}
use Rattle.edge_io.specs.declared.sink.Sink.{Ghosts as Sinks}
use Rattle.edge_io.specs.declared.source.Source.{Ghosts as Sources}
use Rattle.edge_io.specs.Door.{DoorState}
use Rattle.edge_io.specs.Net.{NetState}
use Rattle.bridge_parts.specs.Run.{Run, net_run, run_of}
use Rattle.commands.specs.Told.{disk_over, input_over, output_over}
use Rattle.bridge_core.specs.declared.ended.Ended.{Ended}

-- the bytes of each word
abbrev pub texts : {A : Type 0} → List (String A) → List (List ℕ)
texts words = map string_bytes words

-- What the traits say that each tells: the disk, the input, the output, the net and a door.
abbrev pub Telling : Type 0 → Type 0 → Type 0 → Type 0 → Type 0 → Type 1
Telling D S K N P = Disks D × Sources S × Sinks K × (N → NetState) × (P → DoorState)

-- The run of a call that was handed this disk, input, output and net, and made this input, output and net of them; the disk is handed back
-- with the doors that were bound.
abbrev pub ran : {D S K N P : Type 0} → Telling D S K N P → D × S × K × N → S × K × N → Ended D P → Run
ran tell given made ended = run_of (disk_over tell.0 given.0 ended.disk) (input_over tell.1 given.1 made.0) (output_over tell.2 given.2 made.1)
    (net_run tell.3 given.3 made.2) (map tell.4 ended.doors.items)

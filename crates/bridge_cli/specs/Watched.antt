-- What was done over a disk that is watched meanwhile.
use Rattle.std.specs.Prelude.{◌≡◌, ℕ, List, map}
use Rattle.bridge_parts.specs.Run.{disk_run, input_run, net_run, output_run, run_of}
use Rattle.bridge_core.specs.declared.ended.Ended.{Ended}
use Rattle.bridge_core.specs.Headline.{KeepsPromises}
use Rattle.bridge_core.specs.Told.{Telling}
use Rattle.cli_parts.specs.declared.progress.Watched.{Watched}

-- The promises are kept of a disk that is watched: the one that was given, and the one that is handed back.
abbrev pub KeepsWatched : {D S K N P : Type 0} → Telling D S K N P → List (List ℕ) → D × S × K × N → S × K × N → Ended D P → Type 0
KeepsWatched {D} tell words given made ended =
    (before after : Watched D) × (before.disk ≡ given.0) × (after.disk ≡ ended.disk)
    × KeepsPromises words
    (run_of (disk_run tell.0.tells (λ (watched : Watched D). tell.0.moment watched.disk) before after)
    (input_run tell.1.given tell.1.left tell.1.read_faults given.1 made.0) (output_run tell.2.taken tell.2.write_faults given.2 made.1)
    (net_run tell.3 given.3 made.2) (map tell.4 ended.doors.items)) ended.note

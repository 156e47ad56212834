-- What failed in a command, as its note says.
use Rattle.std.specs.Prelude.{◌≡◌, ◌⊎◌, ℕ, ◌≤◌}
use Rattle.foundation.specs.Faults.{Rose}
use Rattle.conn_serve.specs.Endings.{CountsFaults}
use Rattle.edge_io.specs.Net.{NetState}
use Rattle.edge_disk.specs.Disk.{Moment}
use Rattle.edge_disk.specs.Calls.{Calls}
use Rattle.notes.specs.declared.note.Note.{Note}
use Rattle.notes.specs.declared.note.Note.TheVariants.{NotSpool, Worn, NoMemory, WriteFault, DiskFault, NetFault}

-- A call of the disk failed exactly where the note says so. There is one exception: the collector replies that the disk
-- failed, and where that reply was cut short, the note says that a write failed.
abbrev pub TellsDiskFault : Type 0 → Note → Moment → Moment → Type 0
TellsDiskFault collector note old new = Calls (note ≡ DiskFault) old new ⊎ (collector × (note ≡ WriteFault) × Calls (Unit {0}) old new)

-- want of memory, or a refusal of the spool: it may have come after a write that failed
abbrev pub IsHaltNote : Note → Type 0
IsHaltNote DiskFault = Unit {0}
IsHaltNote (NotSpool at) = Unit {0}
IsHaltNote (Worn ordinal) = Unit {0}
IsHaltNote NoMemory = Unit {0}
IsHaltNote note = ⊥

-- Where entries are forwarded to the output: a write of it failed where the note says so, and else only before a halt.
pub record CountsWrites (note : Note) (before now : ℕ) : Type 0 where
  pub later : before ≤ now
  pub cause : note ≡ WriteFault → Rose 1 before now
  pub quiet : (note ≡ WriteFault → ⊥) → (IsHaltNote note → ⊥) → now ≡ before

-- A dial failed exactly where the note says so.
abbrev pub TellsNetFault : Note → NetState → NetState → Type 0
TellsNetFault note net net' = CountsFaults (note ≡ NetFault) net.net_faults net'.net_faults

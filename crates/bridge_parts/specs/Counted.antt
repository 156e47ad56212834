-- Counts of faults, where a note or an ending before it says what failed.
use Rattle.std.specs.Prelude.{◌≡◌, ◌⊎◌, ℕ, ◌≤◌}
use Rattle.foundation.specs.Faults.{Rose}
use Rattle.edge_disk.specs.Disk.{Moment}
use Rattle.notes.specs.declared.note.Note.{Note}
use Rattle.notes.specs.declared.note.Note.TheVariants.{Fine, WriteFault}

-- the count didn't fall, and it rose where such a fault is reported
pub record RoseBy (fault : Type 0) (before now : ℕ) : Type 0 where
  pub later : before ≤ now
  pub cause : fault → Rose 1 before now

-- A write after what ended so: where the note reports a failed write, it was this one, unless the ending reports one. Where all was
-- well it didn't fail.
pub record WroteAfter (ended note : Note) (before now : ℕ) : Type 0 where
  pub later : before ≤ now
  pub cause : note ≡ WriteFault → (ended ≡ WriteFault) ⊎ Rose 1 before now
  pub quiet : note ≡ Fine → now ≡ before

-- The failed write that the note reports was one of a link that was hung up, or of the output. Where all was well, none of the output
-- failed.
pub record WritesOfBoth (note : Note) (before now hung_before hung_now : ℕ) : Type 0 where
  pub later : before ≤ now
  pub hung_later : hung_before ≤ hung_now
  pub cause : note ≡ WriteFault → Rose 1 before now ⊎ Rose 1 hung_before hung_now
  pub quiet : note ≡ Fine → now ≡ before

-- The disk's length stays, and its count of faults didn't fall; it rose where such a fault is reported.
pub record DiskRoseBy (fault : Type 0) (old new : Moment) : Type 0 where
  pub size : new.size ≡ old.size
  pub faults : RoseBy fault old.faults new.faults

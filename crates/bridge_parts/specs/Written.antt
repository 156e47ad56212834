-- How much of a text was written, by the note.
use Rattle.std.specs.Prelude.{◌≡◌, ℕ, ◌<◌, List, ◌++◌, length, Option}
use Rattle.std.specs.Io.KnownBytes.{Appends}
use Rattle.notes.specs.declared.note.Note.{Note}
use Rattle.notes.specs.declared.note.Note.TheVariants.{Fine, NoMemory, WriteFault}

-- a front of the text was written
pub record WritesFront (text : List ℕ) (old new : Option (List ℕ)) : Type 0 where
  pub front : List ℕ
  pub rest : List ℕ
  pub whole : text ≡ front ++ rest
  pub written : Appends old new front

-- not all of the text was written
abbrev pub IsCut : List ℕ → Option (List ℕ) → Option (List ℕ) → Type 0
IsCut text old new = (part : WritesFront text old new) × (0 < length part.rest)

-- How a line was printed: whole where all was done, not all of it where a write failed, and not at all where no memory was found
-- for it.
abbrev pub IsPrinted : Note → List ℕ → Option (List ℕ) → Option (List ℕ) → Type 0
IsPrinted Fine line old new = Appends old new line
IsPrinted WriteFault line old new = IsCut line old new
IsPrinted NoMemory line old new = new ≡ old
IsPrinted note line old new = ⊥

-- the first note, or where that is `Fine` the second
abbrev pub first_of : Note → Note → Note
first_of Fine then = then
first_of note then = note

-- A line was printed after what ended so, as the print's own note says. The note that is reported is that of what ended, or
-- where it is `Fine` the print's.
pub record PrintsAfter (ended : Note) (line : List ℕ) (note : Note) (old new : Option (List ℕ)) : Type 0 where
  pub print : Note
  pub written : IsPrinted print line old new
  pub note_is : note ≡ first_of ended print

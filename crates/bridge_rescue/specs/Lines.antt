-- What is printed of the entries of sound slots.
use Rattle.std.specs.Prelude.{◌≡◌, ℕ, List, [], ◌∷◌, ◌++◌, length, Option, Result, MatchResult}
use Rattle.std.specs.Io.KnownBytes.{Appends}
use Rattle.event_form.specs.declared.event.Entry.{Entry}
use Rattle.notes.specs.declared.note.Note.{Note}
use Rattle.notes.specs.declared.note.Note.TheVariants.{Fine, NotSpool, NoMemory, WriteFault, DiskFault}
use Rattle.bridge_parts.specs.Written.{IsCut}
use Rattle.bridge_skip.specs.Line.{IsEventLine}

-- the text is the lines of these entries' events, one line for each, in order
abbrev pub AreEventLines : List Entry → List ℕ → Type 0
AreEventLines [] text = text ≡ []
AreEventLines (entry ∷ more) text = (line rest : List ℕ) × IsEventLine entry.event line × AreEventLines more rest × (text ≡ line ++ rest)

-- all lines of these entries were written, and nothing else
abbrev pub PrintsAll : List Entry → Option (List ℕ) → Option (List ℕ) → Type 0
PrintsAll entries old new = (text : List ℕ) × AreEventLines entries text × Appends old new text

-- so were those of the first of them, each whole
pub record PrintsFirst (entries : List Entry) (old new : Option (List ℕ)) : Type 0 where
  pub first : List Entry
  pub rest : List Entry
  pub parts : entries ≡ first ++ rest
  pub printed : PrintsAll first old new

-- of the lines of the first of them not all was written
pub record PrintsPart (entries : List Entry) (old new : Option (List ℕ)) : Type 0 where
  pub first : List Entry
  pub rest : List Entry
  pub parts : entries ≡ first ++ rest
  pub text : List ℕ
  pub lines : AreEventLines first text
  pub cut : IsCut text old new

-- The lines of these entries were written: all of them where all was done; not all of those of the first ones where a write failed; and
-- those of the first ones, each whole, where a call of the disk failed or no memory was found.
abbrev pub Prints : Note → List Entry → Option (List ℕ) → Option (List ℕ) → Type 0
Prints Fine entries old new = PrintsAll entries old new
Prints WriteFault entries old new = PrintsPart entries old new
Prints DiskFault entries old new = PrintsFirst entries old new
Prints NoMemory entries old new = PrintsFirst entries old new
Prints note entries old new = ⊥

-- The lines of these entries are made: those of the first ones were written, and those of the others are held.
pub record Gathered (entries : List Entry) (old new : Option (List ℕ)) (held : List ℕ) : Type 0 where
  pub printed : PrintsFirst entries old new
  pub waiting : AreEventLines printed.rest held

-- The lines of more entries were made, with this result, whatever was gathered before.
abbrev pub GathersMore : List Entry → Result Unit Note → Option (List ℕ) → Option (List ℕ) → List ℕ → List ℕ → Type 0
GathersMore entries result old new held held_after = (before : List Entry) (start : Option (List ℕ)) → Gathered before start old held
    → MatchResult result (λ _. Gathered (before ++ entries) start new held_after) (λ note. Prints note (before ++ entries) start new)

-- What was held was written, with this result, whatever was gathered before.
abbrev pub WritesHeld : Result Unit Note → Option (List ℕ) → Option (List ℕ) → List ℕ → Type 0
WritesHeld result old new held = (entries : List Entry) (start : Option (List ℕ)) → Gathered entries start old held
    → MatchResult result (λ _. PrintsAll entries start new) (λ note. Prints note entries start new)

-- All of these entries were printed and counted, or not all were and the note says why.
abbrev pub PrintsCounted : List Entry → Result ℕ Note → Option (List ℕ) → Option (List ℕ) → Type 0
PrintsCounted entries result old new = MatchResult result (λ count. PrintsAll entries old new × (count ≡ length entries)) (λ note. Prints note entries old new)

-- why lines aren't made and written
abbrev pub IsLineNote : Note → Type 0
IsLineNote NoMemory = Unit {0}
IsLineNote WriteFault = Unit {0}
IsLineNote note = ⊥

-- why the entries of sound slots aren't all printed; where they can't be read again, the device was changed by others meanwhile
abbrev pub IsPrintNote : Note → Type 0
IsPrintNote (NotSpool at) = Unit {0}
IsPrintNote DiskFault = Unit {0}
IsPrintNote note = IsLineNote note

-- What is printed of an entry that is skipped.
use Rattle.std.specs.Prelude.{◌≡◌, ℕ, List, [], ◌∷◌, ◌++◌, Option}
use Rattle.std.specs.Io.KnownBytes.{Appends}
use Rattle.event_form.specs.declared.event.Event.{Event}
use Rattle.event_map.specs.Maps.{IsJsonObject}
use Rattle.notes.specs.declared.note.Note.{Note}
use Rattle.notes.specs.declared.note.Note.TheVariants.{Fine, NoMemory, WriteFault}
use Rattle.bridge_parts.specs.Written.{IsCut}

-- the event as a JSON object, and LF
abbrev pub IsEventLine : Event → List ℕ → Type 0
IsEventLine event line = (bytes : List ℕ) × IsJsonObject event bytes × (line ≡ bytes ++ 10 ∷ [])

-- The line of the event was written: all of it; not all, where a write failed; or nothing, where no memory was found for it.
abbrev pub PrintsEvent : Event → Note → Option (List ℕ) → Option (List ℕ) → Type 0
PrintsEvent event Fine old new = (line : List ℕ) × IsEventLine event line × Appends old new line
PrintsEvent event WriteFault old new = (line : List ℕ) × IsEventLine event line × IsCut line old new
PrintsEvent event NoMemory old new = new ≡ old
PrintsEvent event note old new = ⊥

-- Which notes refuse the words or the device.
use Rattle.notes.specs.declared.note.Note.{Note}
use Rattle.notes.specs.declared.note.Note.TheVariants.{Usage, WrongLength, RunsSpent, Worn}

-- the words or the device were refused, before the input or the output was met
abbrev pub IsRefusedFirst : Note → Type 0
IsRefusedFirst Usage = Unit {0}
IsRefusedFirst (WrongLength have want) = Unit {0}
IsRefusedFirst (RunsSpent run) = Unit {0}
IsRefusedFirst (Worn ordinal) = Unit {0}
IsRefusedFirst note = ⊥

-- What a reading of a part of a slot answers.
use Rattle.std.specs.Prelude.{◌≡◌, ℕ, ◌-◌, take, drop, Result, MatchResult}
use Rattle.spool_state.specs.Segment.{Segment, entries_of}
use Rattle.spool_slots.specs.declared.fault.ScanFault.{ScanFault}
use Rattle.spool_slots.specs.declared.mark.Mark.{Mark}
use Rattle.spool_slots.specs.declared.part.Part.{Part}
use Rattle.spool_slots.specs.Fault.{IsNotBroken}
use Rattle.spool_slots.specs.Mark.{IsMark}

-- The segment's first entries from the mark on, `most` or all where they are fewer, with the mark after them; or there was a fault or no memory.
abbrev pub IsPartOf : Segment → Mark → ℕ → Result Part ScanFault → Type 0
IsPartOf segment mark most result = MatchResult result (λ part. (part.entries.items ≡ take most (drop (mark.number - segment.first) (entries_of segment))) × IsMark segment part.mark) IsNotBroken

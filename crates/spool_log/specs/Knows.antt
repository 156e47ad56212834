-- What memory knows of a spool.
use Rattle.std.specs.Prelude.{◌≡◌, ℕ, List, [], ◌∷◌, length}
use Rattle.spool_state.specs.Segment.{entries_of, segment_text}
use Rattle.spool_state.specs.SpoolState.{OpenSlot, SpoolState}
use Rattle.spool_state.specs.Image.{slot_at, StandsFor}
use Rattle.disk_cell.specs.Register as Cells
use Rattle.spool_slots.specs.declared.slot.Slot.{Slot}
use Rattle.spool_slots.specs.Slot.{IsSlot}
use Rattle.spool_log.specs.declared.memory.Memory.{Memory}
use Rattle.spool_log.specs.Reading.Marked.{IsMarked}

-- these are the numbers of the open slot
abbrev pub KnowsSlot : ℕ → OpenSlot → Slot → Type 0
KnowsSlot size slot known =
    IsSlot (slot_at size slot.place) size slot.segment.ordinal slot.segment.first (length (segment_text slot.segment)) (length (entries_of slot.segment)) known

-- one by one, in the same order
abbrev pub KnowsSlots : ℕ → List OpenSlot → List Slot → Type 0
KnowsSlots size [] [] = Unit
KnowsSlots size [] (known ∷ more) = ⊥
KnowsSlots size (slot ∷ slots) [] = ⊥
KnowsSlots size (slot ∷ slots) (known ∷ more) = KnowsSlot size slot known × KnowsSlots size slots more

-- Memory has the numbers of the state. Of its entries it has none.
pub record Knows (s : SpoolState) (memory : Memory) : Type 0 where
  pub size : memory.size ≡ s.size
  pub slots : memory.slots ≡ s.slots
  pub run : memory.register.content.run ≡ s.run
  pub cursor : memory.register.content.cursor ≡ s.cursor
  pub known : memory.register.content.known.items ≡ s.known
  pub ordinal : memory.register.ordinal ≡ s.ordinal
  pub older : KnowsSlots s.size s.older memory.older.items
  pub active : KnowsSlot s.size s.active memory.active
  pub bookmark : IsMarked s.older s.active memory.bookmark

-- The bytes of the device stand for the state, and memory knows it, and which of the two cells counts.
pub record IsStored (s : SpoolState) (memory : Memory) (c : List ℕ) : Type 0 where
  pub stands : StandsFor s c
  pub knows : Knows s memory
  pub register : Cells.Knows memory.register c

-- What stands at a gate of a slot.
use Rattle.std.specs.Prelude.{◌≡◌, ◌≢◌, ℕ, ◌+◌, ◌^◌, ◌<◌, ◌≤◌, List, ◌++◌, length, slice_index, All}
use Rattle.std.specs.Int.{to_be_bytes}
use mir.Syntax.{w32}
use Rattle.foundation.specs.Bytes.{part}
use Rattle.event_form.specs.declared.event.Entry.{Entry}
use Rattle.event_form.specs.Entry.{IsEntry, size_of}
use Rattle.event_form.specs.Reading.{Begins}
use Rattle.spool_state.specs.Layout.{group_head}
use Rattle.spool_state.specs.Segment.{entries_text}
use Rattle.spool_state.specs.Broken.{BeginsGroup}
use Rattle.spool_slots.specs.declared.group.GroupHead.{GroupHead}
use Rattle.spool_slots.specs.declared.group.Step.{Step}
use Rattle.spool_slots.specs.declared.group.Step.TheVariants.{End, Broken, Group}

-- The bytes are the texts of so many entries, each within its limits.
pub record AreEntries (count : ℕ) (bytes : List ℕ) : Type 0 where
  pub entries : List Entry
  pub sound : All IsEntry entries
  pub counted : length entries ≡ count
  pub text : bytes ≡ entries_text entries

-- The bytes begin with the texts of so many entries, and go on with the rest.
pub record BeginsEntries (count : ℕ) (bytes rest : List ℕ) : Type 0 where
  pub entries : List Entry
  pub sound : All IsEntry entries
  pub counted : length entries ≡ count
  pub text : bytes ≡ entries_text entries ++ rest

-- an entry with which the bytes begin has this size
abbrev pub HasSize : List ℕ → ℕ → Type 0
HasSize bytes n = (e : Entry) (rest : List ℕ) → Begins e bytes rest → n ≡ size_of e

-- no open gate with a group after it begins the bytes
abbrev pub BeginsNoGroup : List ℕ → Type 0
BeginsNoGroup bytes = (group : List Entry) → BeginsGroup group bytes → ⊥

-- The bytes begin with an open gate and this head of a group, and have room for its entries and its closing gate.
pub record HasHead (bytes : List ℕ) (head : GroupHead) : Type 0 where
  pub opens : slice_index bytes 0 ≡ 1
  pub size_is : to_be_bytes w32 head.size ≡ part 1 4 bytes
  pub count_is : to_be_bytes w32 head.count ≡ part 5 4 bytes
  pub some : 0 < head.count
  pub fits : head.count < 2 ^ 32
  pub room : group_head + head.size < length bytes

-- The bytes begin with a group, the gate after it is among them, and this is the group's head.
pub record IsGroupIn (bytes : List ℕ) (head : GroupHead) : Type 0 where
  pub group : List Entry
  pub begins : BeginsGroup group bytes
  pub size_is : head.size ≡ length (entries_text group)
  pub count_is : head.count ≡ length group
  pub inside : group_head + head.size < length bytes
  pub some : head.count ≤ head.size

-- What the slot's bytes are from a gate on: a gate that isn't open, an open one with no group after it, or one with a group.
abbrev pub IsStep : List ℕ → Step → Type 0
IsStep bytes End = slice_index bytes 0 ≢ 1
IsStep bytes Broken = (slice_index bytes 0 ≡ 1) × BeginsNoGroup bytes
IsStep bytes (Group head) = (group : List Entry) × BeginsGroup group bytes × (head.size ≡ length (entries_text group)) × (head.count ≡ length group)

-- a group ends in the slot
abbrev pub IsInside : ℕ → ℕ → Step → Type 0
IsInside size gate End = Unit {0}
IsInside size gate Broken = Unit {0}
IsInside size gate (Group head) = (gate + group_head + head.size < size) × (head.count ≤ head.size)

-- Where a spool stands that many callers share.
use Rattle.std.specs.Prelude.{◌≡◌, ℕ, suc, ◌+◌, ◌-◌, if◌then◌else◌, nat_le, List, [], ◌∷◌}
use Rattle.edge_disk.specs.declared.disk.Disk.{Ghosts}
use Rattle.spool_state.specs.Free.{is_confirmed}
use Rattle.spool_state.specs.SpoolState.{OpenSlot, SpoolState}
use Rattle.spool_log.specs.declared.memory.Memory.{Memory}
use Rattle.spool_log.specs.Memory.{cursor_of, most_of}
use Rattle.spool_slots.specs.declared.slot.Slot.{Slot}
use Rattle.desk_access.specs.Division.{DividedRun}
use Rattle.desk_access.specs.Call.{Record}
use Rattle.desk_access.specs.Desk.{DeskState}
use Rattle.desk_access.specs.Legal.{Met}
use Rattle.spool_desk.specs.declared.alone.Alone.{Alone}
use Rattle.spool_desk.specs.Alone.{alone_at}
use Rattle.spool_desk.specs.Standing.{standing_in}
use Rattle.spool_turns.specs.declared.level.Level.{Level}
use Rattle.spool_turns.specs.declared.view.Twin.{Twin}
use Rattle.spool_turns.specs.declared.view.Twin.TheVariants.{OfJournal}
use Rattle.spool_turns.specs.Passes.{Beginning}
use Rattle.spool_turns.specs.Replays.{Replays}

-- Of a spool in this state: how many of these open slots have an entry whose number isn't below the cursor, and how many slots are free,
-- which are all but the active one and those of the older ones that have such an entry.
abbrev pub count_held_in : SpoolState → List OpenSlot → ℕ
count_held_in s [] = 0
count_held_in s (slot ∷ slots) = if is_confirmed s slot then count_held_in s slots else suc (count_held_in s slots)

abbrev pub free_slots_in : SpoolState → ℕ
free_slots_in s = s.slots - (count_held_in s s.older + 1)

-- The same by what memory has: how many of these slots have an entry whose number isn't below the cursor, and how many slots are not free.
abbrev pub count_held : ℕ → List Slot → ℕ
count_held cursor [] = 0
count_held cursor (slot ∷ slots) = if nat_le (slot.first + slot.count) cursor then count_held cursor slots else suc (count_held cursor slots)

abbrev pub used_slots : Memory → ℕ
used_slots memory = count_held (cursor_of memory) memory.older.items + 1

-- what memory has
abbrev pub level_in : Memory → Level
level_in memory = record { standing = standing_in memory; slots = memory.slots; free_slots = memory.slots - used_slots memory; most = most_of memory }

-- it is the level of the desk that the journal's seat knows
abbrev pub IsLevelOf : {D : Type 0} {disks : Ghosts D} → Twin (Alone D disks) → Level → Type 0
IsLevelOf (OfJournal a) level = level ≡ level_in a.desk.spool.memory
IsLevelOf _ level = ⊥

-- A journal was really made, and a desk to which it led stood at this level.
pub record HasLevel {D : Type 0} (disks : Ghosts D) (start : DeskState → Type 0) (run : DividedRun) (seats : ℕ) (began : Beginning) (level : Level) : Type 0 where
  pub log : List Record
  pub desk : Alone D disks
  pub replays : Replays disks.tells start run began log (alone_at desk)
  -- each of its calls is one that its caller might make
  pub met : Met run (seats - 1) [] log
  pub level_is : level ≡ level_in desk.desk.spool.memory

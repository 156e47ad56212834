-- What those may be told who ask for the numbers of the spool.
use Rattle.std.specs.Prelude.{◌≡◌, ℕ, List}
use Rattle.known_numbers.specs.Numbers.{count_of}
use Rattle.edge_disk.specs.Disk.{Moment}
use Rattle.edge_io.specs.declared.monitor.EventCounts.{EventCounts}
use Rattle.edge_io.specs.declared.monitor.SpoolNumbers.{SpoolNumbers}
use Rattle.spool_state.specs.SpoolState.{SpoolState, end, room, most_room}
use Rattle.desk_access.specs.Call.{Record}
use Rattle.spool_turns.specs.Levels.{free_slots_in}
use Rattle.bridge_serve.specs.Answered.{HasLed}

-- the numbers of a spool in this state, of which the server's run has stored these events
abbrev pub numbers_in : SpoolState → EventCounts → SpoolNumbers
numbers_in s stored = record {
  run = s.run;
  end = end s;
  cursor = s.cursor;
  known_count = count_of s.known;
  room = room s;
  slots = s.slots;
  free_slots = free_slots_in s;
  most = most_room s;
  stored = stored;
}

-- The numbers are those of the spool after a journal that led the desk from the opening of the disk to now. How many events were stored by
-- each protocol is left open. So it is where the disk tells what it reads: over one that doesn't, nothing is said.
pub record AreNumbers (tells : Type 0) (before now : Moment) (numbers : SpoolNumbers) : Type 0 where
  pub log : List Record
  pub led : tells → HasLed tells before now log
  pub numbers_are : (told : tells) → numbers ≡ numbers_in (led told).after.spool numbers.stored

-- Numbers may be told that are those of the spool then, or at an earlier moment of the run. `given` is the disk as it was before it was
-- opened.
abbrev pub MayTell : {D : Type 0} → Type 0 → (D → Moment) → D → (SpoolNumbers → Type 0) → Type 0
MayTell {D} tells moment given May =
    (disk : D) (numbers : SpoolNumbers) → AreNumbers tells (moment given) (moment disk) numbers → May numbers

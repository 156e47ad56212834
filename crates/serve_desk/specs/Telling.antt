-- What those are told who ask while the server runs.
use Rattle.std.specs.Prelude.{ℕ}
use Rattle.edge_io.specs.declared.monitor.EventCounts.{EventCounts}
use Rattle.edge_io.specs.declared.monitor.SpoolNumbers.{SpoolNumbers}
use Rattle.spool_turns.specs.declared.level.Level.{Level}

-- the numbers of a spool that stands at this level, in that run, which has stored these events
abbrev pub numbers_of : ℕ → Level → EventCounts → SpoolNumbers
numbers_of run level stored = record {
  run = run;
  end = level.standing.end;
  cursor = level.standing.cursor;
  known_count = level.standing.known_count;
  room = level.standing.room;
  slots = level.slots;
  free_slots = level.free_slots;
  most = level.most;
  stored = stored;
}

-- The numbers of each level at which the spool may have stood in that run may be told, with whatever number of events stored.
abbrev pub MayTell : (Level → Type 0) → ℕ → (SpoolNumbers → Type 0) → Type 0
MayTell IsLevel run May = (level : Level) (stored : EventCounts) → IsLevel level → May (numbers_of run level stored)

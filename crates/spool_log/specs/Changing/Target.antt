-- Where a group goes.
use Rattle.std.specs.Prelude.{ℕ, ◌+◌, ◌<◌, ◌≤◌, List, [], ◌∷◌, length}
use Rattle.event_form.specs.declared.event.Entry.{Entry}
use Rattle.spool_state.specs.SpoolState.{SpoolState}
use Rattle.spool_state.specs.Change.{added}
use Rattle.spool_state.specs.Free.{IsClosed}
use Rattle.spool_slots.specs.declared.slot.Slot.{Slot}
use Rattle.spool_log.specs.declared.memory.Memory.{Memory}
use Rattle.spool_log.specs.declared.changing.target.Target.{Target}
use Rattle.spool_log.specs.declared.changing.target.Target.TheVariants.{Active, Closed, First}
use Rattle.spool_log.specs.Memory.{cursor_of, room_of}
use Rattle.spool_answers.specs.Stages.{begin_stages, replace_stages}

-- the stages by which it gets there
abbrev pub stages_at : Target → SpoolState → List Entry → List SpoolState
stages_at Active s group = added s group ∷ []
stages_at (Closed place) s group = begin_stages s place group
stages_at First s group = replace_stages s s.older group

-- where it is a slot that is closed, it is so in the state
abbrev pub IsFreeIn : Target → SpoolState → Type 0
IsFreeIn Active s = Unit {0}
IsFreeIn (Closed place) s = IsClosed s place
IsFreeIn First s = Unit {0}

-- the first of the slots, of which there is one, has only entries below the cursor
abbrev pub StartsConfirmed : List Slot → ℕ → Type 0
StartsConfirmed [] cursor = ⊥
StartsConfirmed (slot ∷ slots) cursor = slot.first + slot.count ≤ cursor

-- A group of this need goes to the active slot where it has room; else to a closed slot, of which there is one, or to the first.
abbrev pub Suits : Memory → ℕ → Target → Type 0
Suits memory need Active = need ≤ room_of memory
Suits memory need (Closed place) = (room_of memory < need) × (place < memory.slots) × (length memory.older.items + 1 < memory.slots)
Suits memory need First = (room_of memory < need) × StartsConfirmed memory.older.items (cursor_of memory)

-- The numbers of a spool that memory keeps, in the spool's words.
use Rattle.std.specs.Prelude.{ℕ, ◌+◌, ◌-◌, List}
use Rattle.known_numbers.specs.declared.stretch.Stretch.{Stretch}
use Rattle.known_numbers.specs.Numbers.{Numbers}
use Rattle.spool_state.specs.Layout.{slot_loss}
use Rattle.spool_log.specs.Device.{first_in, numbers_in}
use Rattle.spool_log.specs.declared.memory.Memory.{Memory}

-- how often the spool was opened for storing
abbrev pub run_of : Memory → ℕ
run_of memory = memory.register.content.run

-- the number below which all are known as confirmed
abbrev pub cursor_of : Memory → ℕ
cursor_of memory = memory.register.content.cursor

-- the stretches of known numbers above it
abbrev pub known_of : Memory → List Stretch
known_of memory = memory.register.content.known.items

-- the known numbers
abbrev pub numbers_of : Memory → Numbers
numbers_of memory = numbers_in memory.register.content

-- the number of the first entry, or the end where there is none
abbrev pub base_of : Memory → ℕ
base_of memory = first_in memory.older.items memory.active.first

-- the number after that of the last entry
abbrev pub end_of : Memory → ℕ
end_of memory = memory.active.first + memory.active.count

-- how many bytes a group may need in the active slot
abbrev pub room_of : Memory → ℕ
room_of memory = memory.active.size - memory.active.gate - 1

-- how many bytes a group may need at all
abbrev pub most_of : Memory → ℕ
most_of memory = memory.size - slot_loss

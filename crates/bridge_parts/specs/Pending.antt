-- How many entries are pending, by the numbers that memory has.
use Rattle.std.specs.Prelude.{ℕ, ◌-◌}
use Rattle.known_numbers.specs.Numbers.{count_of}
use Rattle.spool_log.specs.declared.memory.Memory.{Memory}
use Rattle.spool_log.specs.Memory.{cursor_of, end_of, known_of}

-- how many numbers below the end aren't known
abbrev pub pending_in : Memory → ℕ
pending_in memory = end_of memory - cursor_of memory - count_of (known_of memory)

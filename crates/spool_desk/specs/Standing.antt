-- The numbers of a spool, as memory has them.
use Rattle.known_numbers.specs.Numbers.{count_of}
use Rattle.spool_log.specs.declared.memory.Memory.{Memory}
use Rattle.spool_log.specs.Memory.{base_of, end_of, cursor_of, known_of, room_of}
use Rattle.desk_access.specs.declared.standing.Standing.{Standing}

-- the numbers that memory has
abbrev pub standing_in : Memory → Standing
standing_in memory = record { base = base_of memory; end = end_of memory; cursor = cursor_of memory; known_count = count_of (known_of memory); room = room_of memory }

-- The numbers of a spool.
use Rattle.known_numbers.specs.Numbers.{count_of}
use Rattle.spool_state.specs.SpoolState.{SpoolState, base, end, room}
use Rattle.desk_access.specs.declared.standing.Standing.{Standing}

-- the numbers of a state
abbrev pub standing_of : SpoolState → Standing
standing_of s = record { base = base s; end = end s; cursor = s.cursor; known_count = count_of s.known; room = room s }

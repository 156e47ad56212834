-- The numbers of a spool, as memory has them.
use Rattle.std.proofs.Common.{◌≡◌, List, length, ap, arith}
use Rattle.known_numbers.specs.Numbers.{count_of}
use Rattle.spool_state.specs.SpoolState.{SpoolState, end}
use Rattle.spool_state.specs.Left.{left}
use Rattle.spool_log.specs.Memory.{end_of}
use Rattle.spool_log.specs.State.{View, IsIn}
use Rattle.spool_log.proofs.Numbers.{end_known}
use Rattle.bridge_parts.specs.Pending.{pending_in}
use Rattle.forward_core.proofs.Counting.{left_count}

pub end_seen : (s : SpoolState) (doubt : List SpoolState) (v : View) → IsIn s doubt v → end_of v.memory ≡ end s
end_seen s doubt v held = end_known s v.memory.active held.sound held.knows.active

pub pending_seen : (s : SpoolState) (doubt : List SpoolState) (v : View) → IsIn s doubt v → pending_in v.memory ≡ length (left s)
pending_seen s doubt v held = omega (arith, left_count s held.sound, end_seen s doubt v held, held.knows.cursor, ap count_of held.knows.known)

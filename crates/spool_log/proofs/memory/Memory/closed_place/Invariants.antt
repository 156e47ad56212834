use Rattle.std.proofs.Common.{◌≡◌, None}
use Rattle.spool_state.specs.SpoolState.{SpoolState, IsSound}
use Rattle.spool_state.specs.Free.{lowest_closed}
use Rattle.spool_log.specs.Knows.{Knows}
use Rattle.spool_log.proofs.memory.Memory.closed_place.Given as goal

abbrev pub invariant-loop-place : goal.invariant-loop-place
invariant-loop-place l = (s : SpoolState) → Knows s l.self → IsSound s → lowest_closed s l.place ≡ None

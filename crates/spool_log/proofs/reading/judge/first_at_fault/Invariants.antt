use Rattle.std.proofs.Common.{ℕ, List, take, drop, All}
use Rattle.spool_state.specs.SpoolState.{OpenSlot}
use Rattle.spool_log.specs.Device.{GoOn}
use Rattle.spool_log.specs.Knows.{KnowsSlots}
use Rattle.spool_log.specs.Reading.Judging.{HasSoundNumbers}
use Rattle.spool_log.proofs.Scans.Orders.{IsRest}
use Rattle.spool_log.proofs.reading.judge.first_at_fault.Given as goal

abbrev pub invariant-loop-k : goal.invariant-loop-k
invariant-loop-k l = record {
  order : (size : ℕ) (slots : List OpenSlot) → KnowsSlots size slots l.opened → IsRest size slots l.fn.ordinal l.fn.first (drop l.k l.opened) l.ordinal l.first;
  sound : All HasSoundNumbers (take l.k l.opened);
  go_on : GoOn (take l.k l.opened) l.first;
}

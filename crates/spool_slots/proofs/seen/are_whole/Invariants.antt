use Rattle.spool_slots.specs.Groups.{BeginsEntries}
use Rattle.spool_slots.proofs.seen.are_whole.Given as goal

abbrev pub invariant-loop-i : goal.invariant-loop-i
invariant-loop-i l = BeginsEntries l.i l.bytes l.rest

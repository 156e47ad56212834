use Rattle.spool_slots.proofs.Marks.{mark_start}
use Rattle.spool_slots.proofs.slot.Slot.start.Goals as goal

pub returns-clause-mark : goal.returns-clause-mark
returns-clause-mark c = λ segment b knows. mark_start segment _ knows.first

use Rattle.desk_laws.proofs.FreeSlots.{counted_free}
use Rattle.desk_laws.proofs.laws.free_slots_are_free.Goals as goal

pub returns : goal.returns
returns c = counted_free

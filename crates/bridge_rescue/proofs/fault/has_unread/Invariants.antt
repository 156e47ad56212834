use Rattle.std.proofs.Common.{take}
use Rattle.bridge_rescue.specs.Faults.{HasUnread}
use Rattle.bridge_rescue.proofs.fault.has_unread.Given as goal

abbrev pub invariant-loop-fault : goal.invariant-loop-fault
invariant-loop-fault l = HasUnread (take l.fault-index l.faults) → ⊥

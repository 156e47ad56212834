use Rattle.std.proofs.Common.{◌≡◌, length, take}
use Rattle.hec_ids.specs.Rows.{Asks}
use Rattle.hec_ids.proofs.ids.Ids.ask.Given as goal

-- the ids so far are answered
abbrev pub invariant-loop-i : goal.invariant-loop-i
invariant-loop-i l = (length l.known ≡ length l.ids) × Asks l.initial.self l.channel (take l.i l.ids) (take l.i l.known) l.self

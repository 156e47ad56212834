use Rattle.std.proofs.Common.{◌≡◌, ◌+◌, ◌*◌, ◌++◌, take}
use Rattle.spool_state.specs.Cells.{stretches_text}
use Rattle.disk_cell.proofs.text.put_stretches.Given as goal

abbrev pub invariant-loop-i : goal.invariant-loop-i
invariant-loop-i l = take (l.at + 16 * l.i) l.body ≡ take l.at l.initial.body ++ stretches_text (take l.i l.known)

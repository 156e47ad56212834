use Rattle.std.proofs.Common.{◌≡◌, ◌+◌, ◌≤◌}
use Rattle.std.specs.Vec.{vec_len, vec_capacity}
use Rattle.std.specs.Vec.Iter.{into_iter_items, into_iter_len}
use Rattle.spool_turns.specs.Passes.{facts_in}
use Rattle.spool_turns.proofs.EnteringAll.{IsEntering}
use Rattle.spool_turns.proofs.joint.enter_all.Given as goal

abbrev pub invariant-loop-letter : goal.invariant-loop-letter
invariant-loop-letter g l =
    (l.locked.table_id ≡ g.J.Naming.table.seats)
    × IsEntering g.J.Naming.start g.J.Naming.run g.J.Naming.seats l.stored l.before (g.D.Disk.moment l.alone.desk.spool.disk).clock l.group (facts_in l.fn.locked.me.0) l.fn.letters.items
    l.from l.locked.me (into_iter_items l.left) l.entered.items
    × (vec_len l.entered + into_iter_len l.left ≤ vec_capacity l.entered)

abbrev pub decreases-loop-letter : goal.decreases-loop-letter
decreases-loop-letter g l = into_iter_len l.left

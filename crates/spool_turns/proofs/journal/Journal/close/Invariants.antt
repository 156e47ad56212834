use Rattle.std.proofs.Common.{◌≡◌, List, ◌++◌, All}
use Rattle.desk_seats.specs.Passes.{Known, Stands}
use Rattle.spool_turns.specs.Passes.{IsLocked, facts_in}
use Rattle.spool_turns.proofs.journal.Journal.close.Given as goal

abbrev pub invariant-loop-pass : goal.invariant-loop-pass
invariant-loop-pass g l =
    (l.locked.table_id ≡ g.J.Naming.table.seats)
    × (IsLocked l.locked.me × ((facts_in l.locked.me.0).log ≡ l.fn.self))
    × ((rest : List Known) × (l.fn.passes.items ≡ l.passes.items ++ rest) × All (Stands l.fn.self) rest)

abbrev pub decreases-loop-pass : goal.decreases-loop-pass
decreases-loop-pass g l = goal.left-loop-pass g l

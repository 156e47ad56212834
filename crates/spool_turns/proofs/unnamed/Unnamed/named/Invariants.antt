use Rattle.std.proofs.Common.{◌≡◌, ◌≤◌, [], vec_len}
use Rattle.std.specs.Vec.{vec_capacity}
use Rattle.spool_turns.specs.Rules.{facts}
use Rattle.desk_seats.specs.Passes.{fresh}
use Rattle.spool_turns.specs.Passes.{locked_of}
use Rattle.spool_turns.proofs.unnamed.Unnamed.named.Given as goal

abbrev pub invariant-loop-i : goal.invariant-loop-i
invariant-loop-i g l =
    (l.locked.table_id ≡ l.fn.self.locked.table_id)
    × (l.locked.me ≡ locked_of (facts l.i [] l.fn.self.alone.end_told l.fn.self.alone.cursor_told))
    × (l.passes.items ≡ fresh 0 l.i l.fn.self.alone.end_told l.fn.self.alone.cursor_told)
    × (vec_len l.passes ≡ l.i)
    × (l.fn.seats ≤ vec_capacity l.passes)

use Rattle.std.proofs.Common.{arith}
use Rattle.spool_turns.proofs.KeepsRule.{loads_cursor_as}
use Rattle.spool_turns.proofs.steps.load_cursor.Goals as goal

pub load-requires : goal.load-requires
load-requires c = (c.requires.tables.0, omega (arith, c.requires.tables.1), loads_cursor_as _ _ _ _ c.requires.view)

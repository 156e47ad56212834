use Rattle.std.proofs.Common.{arith}
use Rattle.spool_turns.proofs.KeepsRule.{learns_as}
use Rattle.spool_turns.proofs.steps.check_numbers.Goals as goal

pub load-requires : goal.load-requires
load-requires c = (c.requires.tables.0, omega (arith, c.requires.tables.1), learns_as _ _ _ _ _ c.requires.view)

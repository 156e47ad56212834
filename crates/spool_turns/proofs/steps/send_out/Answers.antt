use Rattle.std.proofs.Common.{ap, arith}
use Rattle.spool_turns.proofs.KeepsRule.{sends_out_as}
use Rattle.spool_turns.proofs.steps.send_out.Goals as goal

pub split_seat-requires : goal.split_seat-requires
split_seat-requires g c = (c.requires.tables.0, omega (arith, c.requires.tables.1), sends_out_as _ _ g.E.HandedIn.entries g.E.HandedIn.front _ c.requires.stays (ap (λ m. m.0) c.requires.view))

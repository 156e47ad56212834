use Rattle.std.proofs.Common.{◌∙◌}
use Rattle.bridge_parts.proofs.Writing.{stopped_as}
use Rattle.bridge_move.proofs.ended.print_moved.Goals as goal

pub returns-clause-line : goal.returns-clause-line
returns-clause-line g c = stopped_as _ c.as_bytes.result.now c.in-Err.field-0.sent _ _ (c.as_bytes.ensures.value ∙ c.in-Ok.ensures) c.in-Err.ensures.part.0 c.in-Err.ensures.part.1

use Rattle.bridge_parts.proofs.Writing.{stopped_as}
use Rattle.bridge_skip.proofs.printing.print_event.Goals as goal

pub returns-clause-printed : goal.returns-clause-printed
returns-clause-printed g c =
    let line = c.in-Ok.line.items in
    (line, c.in-Ok.ensures, stopped_as line c.deref.result.now c.in-Err.field-0.sent _ _ c.deref.ensures.value c.in-Err.ensures.part.0 c.in-Err.ensures.part.1)

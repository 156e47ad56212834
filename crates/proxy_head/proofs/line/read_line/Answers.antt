use Rattle.std.proofs.Common.{inl, inr, refl}
use Rattle.proxy_head.specs.Line.{HasLine}
use Rattle.proxy_head.proofs.line.read_line.Goals as goal

pub returns-in-Err : goal.returns-in-Err
returns-in-Err c =
    let line : HasLine c.args.bytes.now c.in-Some.end = record { starts = c.requires; ends = c.in-Some.ensures.found.0; first = c.in-Some.ensures.first; short = c.in-Some.ensures.found.1 } in
    inr (c.in-Some.end, line, c.in-Err.ensures)

pub returns-in-Ok : goal.returns-in-Ok
returns-in-Ok c =
    let line : HasLine c.args.bytes.now c.in-Some.end = record { starts = c.requires; ends = c.in-Some.ensures.found.0; first = c.in-Some.ensures.first; short = c.in-Some.ensures.found.1 } in
    inl (c.in-Some.end, line, refl, c.in-Ok.ensures)

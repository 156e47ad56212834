use Rattle.std.proofs.Common.{arith}
use Rattle.http_edge.proofs.LineLaws.{count_step}
use Rattle.http_edge.proofs.lines.too_many_lines.Goals as goal

pub loop-i-preserved : goal.loop-i-preserved
loop-i-preserved c =
    let l = c.loop-i in (
      count_step c.args.from l.now c.after_byte-now.result c.args.buf.now l.i c.loop-i-test.true c.after_byte-now.ensures.count l.invariant.0,
      omega (arith, c.after_byte-now.ensures.few, l.invariant.1),
    )

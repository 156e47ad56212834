use Rattle.std.proofs.Common.{arith}
use Rattle.std.proofs.lemmas.Bool.{false≢true}
use Rattle.spool_log.proofs.Scans.Orders.{apart_more, apart_off, apart_end}
use Rattle.spool_log.proofs.reading.judge.are_among.Goals as goal
use Rattle.spool_log.proofs.reading.judge.are_among.Goals.{then-stretch-below-via-then-stretch-below, then-stretch-below-via-else-stretch-below+then-stretch, then-stretch-below-via-else-stretch-below+else-stretch+then-stretch-end}

pub returns-then-stretch-below : goal.returns-then-stretch-below
returns-then-stretch-below c = (
  λ t. absurd (false≢true t),
  λ apart. absurd (apart_off c.args.end c.loop-stretch.below c.args.known.now c.loop-stretch.stretch-index (record { from = 0; to = 0 }) c.loop-stretch-test.true
      (λ good. elim c.then-stretch-below.branch [
        | then-stretch-below-via-then-stretch-below w ↦ omega (arith, good.0, w.if-stretch-below.true)
        | then-stretch-below-via-else-stretch-below+then-stretch w ↦ omega (arith, good.1, w.if-stretch.true)
        | then-stretch-below-via-else-stretch-below+else-stretch+then-stretch-end w ↦ omega (arith, good.2, w.if-stretch-end.true)
      ])
      (c.loop-stretch.invariant.0 apart)),
)

pub loop-stretch-preserved : goal.loop-stretch-preserved
loop-stretch-preserved c =
    let more = apart_more c.args.end c.loop-stretch.below c.args.known.now c.loop-stretch.stretch-index (record { from = 0; to = 0 }) c.loop-stretch-test.true c.if-stretch-below.false c.if-stretch.false c.if-stretch-end.false in
    ((λ h. more.0 (c.loop-stretch.invariant.0 h)), (λ h. c.loop-stretch.invariant.1 (more.1 h)))

pub returns : goal.returns
returns c = ((λ t. c.loop-stretch.invariant.1 (apart_end c.args.end c.loop-stretch.below c.args.known.now c.loop-stretch.stretch-index c.loop-stretch-test.false)), λ h. cc)

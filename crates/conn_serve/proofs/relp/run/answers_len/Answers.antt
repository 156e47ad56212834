use Rattle.std.proofs.Common.{◌<◌, ap, arith, get_or, length}
use Rattle.conn_serve.proofs.Answering.{answers_more, stored_size}
use Rattle.conn_serve.proofs.relp.run.answers_len.Goals as goal

pub loop-at-preserved : goal.loop-at-preserved
loop-at-preserved c =
    let inv = c.loop-at.invariant in
    let entries = c.args.entries.now in
    let at = c.loop-at.at in
    let e = get_or entries at c.index-entries-at.result in
    let inside : at < length entries = omega (arith, c.loop-at-test.true) in
    record {
      within = omega (arith, inside);
      counted = omega (
        arith,
        inv.counted,
        ap length c.format.ensures.text,
        stored_size e.unit,
        answers_more entries at c.index-entries-at.result inside,
      );
      few = omega (arith, inv.few, c.format.ensures.short);
    }

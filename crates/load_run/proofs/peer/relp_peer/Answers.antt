use Rattle.load_run.proofs.Texts.{replies_next}
use Rattle.load_run.proofs.peer.relp_peer.Goals as goal

pub loop-txnr-preserved : goal.loop-txnr-preserved
loop-txnr-preserved c = replies_next c.loop-txnr.txnr c.args.count c.loop-txnr.out.items c.write_parts.new.out.items _ c.loop-txnr-test.true c.in_ok-write_parts.ensures.ok c.loop-txnr.invariant

use Rattle.std.proofs.Common.{arith}
use Rattle.load_run.proofs.Finished.{drained_by, sent_of}
use Rattle.load_run.proofs.loading.drain_all.Goals as goal

pub returns : goal.returns
returns c = record {
  drained = λ x at. drained_by c.args.proto c.args.count x c.drain.result.sent _ c.judge_forwarded.result (omega arith)
      (sent_of c.args.proto c.args.count x c.drain.result.sent c.in_ok-peer.peer.items _ c.in_ok-peer.ensures (c.drain.ensures.drains x at)) c.judge_forwarded.ensures.well c.judge_forwarded.ensures.ill;
}

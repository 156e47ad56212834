-- The parts are the frame's.
use Rattle.std.proofs.Common.{subst}
use Rattle.relp_frame.specs.Machine.{frame}
use Rattle.relp_session.specs.Request.{Asks}
use Rattle.relp_session.proofs.request.request_of.Goals as goal

pub returns : goal.returns
returns c =
    let f = c.args.frame.now in
    subst (λ body. Asks (frame f.txnr f.command body) c.request_in.result) c.bytes-2.ensures
    (subst (λ command. Asks (frame f.txnr command c.bytes-2.result.now) c.request_in.result) c.bytes.ensures (c.request_in.ensures f.txnr))

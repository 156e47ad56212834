use Rattle.conn_serve.proofs.Acting.{if_none}
use Rattle.conn_serve.proofs.LumberSessions.{kind}
use Rattle.conn_serve.proofs.Windowed as windowed
use Rattle.conn_serve.proofs.lumberjack.session.LumberSessionSession.fault.Goals as goal

pub returns-in_err-fault-clause-may_end : goal.returns-in_err-fault-clause-may_end
returns-in_err-fault-clause-may_end c =
    let now = c.args.self.now in
    if_none c.from_residual.result _ (λ number. windowed.may_end (kind number now.core now.staged.entries.items now.staged.last) now.window now.fault c.requires.none c.in_err-fault.was (λ frames calls text h. tt))

pub returns-clause-faulty : goal.returns-clause-faulty
returns-clause-faulty c = λ number left fed calls text s.
    let now = c.args.self.now in
    rw c.from.ensures (windowed.closing_faulty (kind number now.core now.staged.entries.items now.staged.last) now.window now.fault left fed calls text s c.in_ok-fault.fault c.requires.none c.in_ok-fault.was)

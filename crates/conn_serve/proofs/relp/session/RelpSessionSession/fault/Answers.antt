use Rattle.conn_serve.proofs.Acting.{if_none}
use Rattle.std.proofs.Common.{[]}
use Rattle.conn_serve.specs.Terms.{most_of}
use Rattle.conn_serve.proofs.RelpSessions.{kind, none_given_up}
use Rattle.conn_serve.proofs.Windowed as windowed
use Rattle.conn_serve.proofs.relp.session.RelpSessionSession.fault.Goals as goal

pub returns-in_err-fault-clause-may_end : goal.returns-in_err-fault-clause-may_end
returns-in_err-fault-clause-may_end c =
    let now = c.args.self.now in
    if_none c.from_residual.result _ (λ number. windowed.may_end (kind (most_of now.group) number now.core []) now.window now.fault c.requires.none c.in_err-fault.was (λ frames calls text h. none_given_up (most_of now.group) number now.core frames calls text h))

pub returns-clause-faulty : goal.returns-clause-faulty
returns-clause-faulty c = λ number left fed calls text s.
    let now = c.args.self.now in
    rw c.from.ensures (windowed.closing_faulty (kind (most_of now.group) number now.core []) now.window now.fault left fed calls text s c.in_ok-fault.fault c.requires.none c.in_ok-fault.was)

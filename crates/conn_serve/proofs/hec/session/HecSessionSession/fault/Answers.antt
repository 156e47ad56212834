use Rattle.std.proofs.Common.{rules, ◌≡◌, Some}
use Rattle.event_form.specs.declared.feed_fault.FeedFault.TheVariants.{Fault}
use Rattle.conn_serve.proofs.HecSessions.{kept_faulty, kept_may_end}
use Rattle.conn_serve.proofs.hec.session.HecSessionSession.fault.Goals as goal

pub returns-in-None-clause-may_end : goal.returns-in-None-clause-may_end
returns-in-None-clause-may_end c = λ number.
    let now = c.args.self.now in
    kept_may_end now.core number now.intake now.met c.requires c.in-None.is

pub returns-in-Some-Fault-clause-faulty : goal.returns-in-Some-Fault-clause-faulty
returns-in-Some-Fault-clause-faulty c = λ number left fed calls text s.
    let now = c.args.self.now in
    let is : now.met ≡ Some (Fault c.in-Some-Fault.fault) = search rules in
    rw c.from.ensures (kept_faulty now.core number now.intake now.met left fed calls text s c.requires c.in-Some-Fault.fault is)

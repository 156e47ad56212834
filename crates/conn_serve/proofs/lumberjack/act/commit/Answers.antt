use Rattle.std.proofs.Common.{ap, refl}
use Rattle.conn_serve.specs.declared.connection.Connection.{Connection}
use Rattle.conn_serve.proofs.LumberActing.{done_refused}
use Rattle.conn_serve.proofs.Faults.{said_counts, said_only}
use Rattle.conn_serve.proofs.lumberjack.act.commit.Goals as goal

pub returns-in-Err-clause-halts : goal.returns-in-Err-clause-halts
returns-in-Err-clause-halts g c = rw c.talk_of.ensures (done_refused _ _ c.args.connection.now.taken _ c.args.staged.now.entries.items c.deref.result.now c.deref.ensures.value c.args.staged.now.last c.in-Err.fault _ c.in-Err.ensures.ran (ap (λ (x : Connection). x.taken) c.in-Err.ensures.stays) refl)

pub returns-clause-only : goal.returns-clause-only
returns-clause-only g c = said_only _ (c.say.result) c.say.ensures.part

pub returns-clause-writes : goal.returns-clause-writes
returns-clause-writes g c = said_counts _ (c.say.result) _ _ c.say.ensures.part c.say.ensures.writes

pub returns-clause-same : goal.returns-clause-same
returns-clause-same g c = c.say.ensures.same

pub returns-clause-apart : goal.returns-clause-apart
returns-clause-apart g c = c.say.ensures.apart

pub returns-in-Err-clause-goes : goal.returns-in-Err-clause-goes
returns-in-Err-clause-goes g c = tt

pub returns-in-Err-clause-behind : goal.returns-in-Err-clause-behind
returns-in-Err-clause-behind g c = tt

pub returns-in-Err-clause-empty : goal.returns-in-Err-clause-empty
returns-in-Err-clause-empty g c = tt

pub returns-in-Err-clause-ready : goal.returns-in-Err-clause-ready
returns-in-Err-clause-ready g c = tt

pub returns-in-Err-clause-taken : goal.returns-in-Err-clause-taken
returns-in-Err-clause-taken g c = tt

pub returns-in-Err-clause-may : goal.returns-in-Err-clause-may
returns-in-Err-clause-may g c = tt

pub returns-in-Err-clause-number : goal.returns-in-Err-clause-number
returns-in-Err-clause-number g c = ap (λ (x : Connection). x.number) c.in-Err.ensures.stays

pub returns-in-Err-clause-same : goal.returns-in-Err-clause-same
returns-in-Err-clause-same g c = g.L.Object.same_refl _

pub returns-in-Err-clause-apart : goal.returns-in-Err-clause-apart
returns-in-Err-clause-apart g c = g.met.L.Sink.apart_refl _

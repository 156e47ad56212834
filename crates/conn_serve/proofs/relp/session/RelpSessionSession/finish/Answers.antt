use Rattle.conn_serve.proofs.Acting.{done_nothing}
use Rattle.conn_serve.specs.Terms.{most_of}
use Rattle.conn_serve.proofs.RelpSessions.{finished}
use Rattle.conn_serve.proofs.relp.session.RelpSessionSession.finish.Goals as goal

pub returns-clause-goes : goal.returns-clause-goes
returns-clause-goes g c = done_nothing _ _ _ _ (g.met.A.Access.ran_none _) (λ left fed called said counted k. finished (most_of c.args.self.now.group) c.args.connection.now.number c.args.self.now.core left c.args.over fed called said k)

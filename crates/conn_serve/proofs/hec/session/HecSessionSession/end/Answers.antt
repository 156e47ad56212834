use Rattle.std.proofs.Common.{Some, None, subst}
use Rattle.std.specs.Prelude.{ℕ, Option}
use Rattle.conn_serve.specs.HecReading.{TellsRest}
use Rattle.conn_serve.proofs.HecSessions.{kept_ended, kept_truncated}
use Rattle.conn_serve.proofs.hec.session.HecSessionSession.end.Goals as goal

pub returns-in-None-clause-ends : goal.returns-in-None-clause-ends
returns-in-None-clause-ends c = λ number left fed calls text out s.
    let now = c.args.self.now in
    let tells = subst (λ (r : Option ℕ). TellsRest now.intake.window now.intake.refused r) c.in-None.is c.rest_at.ensures in
    kept_ended now.core number now.intake now.met left fed calls text s c.requires.0 c.requires.1 out tells

pub returns-in-Some-clause-ends : goal.returns-in-Some-clause-ends
returns-in-Some-clause-ends c = λ number left fed calls text out s.
    let now = c.args.self.now in
    let tells = subst (λ (r : Option ℕ). TellsRest now.intake.window now.intake.refused r) c.in-Some.is c.rest_at.ensures in
    kept_truncated now.core number now.intake now.met left fed calls text s c.requires.0 c.in-Some.at c.requires.1 out tells

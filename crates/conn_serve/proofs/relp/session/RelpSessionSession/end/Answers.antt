use Rattle.std.proofs.Common.{[], ◌<◌, ◌∙◌, length, refl, sym}
use Rattle.conn_serve.specs.Terms.{most_of}
use Rattle.conn_serve.proofs.RelpSessions.{kind}
use Rattle.conn_serve.proofs.Windowed as windowed
use Rattle.conn_serve.proofs.Acting.{some_by}
use Rattle.conn_serve.proofs.relp.session.RelpSessionSession.end.Goals as goal

pub returns-in-None-clause-ends : goal.returns-in-None-clause-ends
returns-in-None-clause-ends c = λ number left fed calls text out s.
    let now = c.args.self.now in
    windowed.closing_ended (kind (most_of now.group) number now.core []) now.window now.fault left fed calls text s out c.requires.0.none c.requires.1 (c.in-None.ensures.none.0 refl).0

pub returns-in-Some-clause-ends : goal.returns-in-Some-clause-ends
returns-in-Some-clause-ends c = λ number left fed calls text out s.
    let now = c.args.self.now in
    let some : 0 < length now.window.rest = some_by now.window.rest (λ empty. let none = c.in-Some.ensures.none.1 (empty, sym s.reads.told ∙ c.requires.1) in cc) in
    rw c.in-Some.ensures.some (windowed.closing_truncated (kind (most_of now.group) number now.core []) now.window now.fault left fed calls text s out c.requires.0.none c.requires.1 some)

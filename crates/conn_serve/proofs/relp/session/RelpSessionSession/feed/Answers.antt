use Rattle.std.proofs.Common.{[], ◌≡◌, None, length, take_all, arith}
use Rattle.conn_serve.proofs.Acting.{no_fault}
use Rattle.conn_serve.specs.Terms.{most_of}
use Rattle.conn_serve.proofs.RelpSessions.{kind}
use Rattle.conn_serve.proofs.Windowed as windowed
use Rattle.conn_serve.proofs.relp.session.RelpSessionSession.feed.Goals as goal

pub returns-in-Ok-clause-fed : goal.returns-in-Ok-clause-fed
returns-in-Ok-clause-fed c = λ number fed calls text s.
    let now = c.args.self.now in
    let feeds = c.in-Ok.ensures.feeds in
    let sound : now.window.fault ≡ None = no_fault now.window.fault (λ e is. let h = (c.in-Ok.ensures.stays e is).0 in cc) in
    windowed.served_fed (kind (most_of now.group) number now.core []) now.window c.feed.new.self now.fault c.args.piece.now c.in-Ok.taken s.reads.told sound feeds.1 feeds.2 fed calls text s

pub returns-in-Err-clause-fed : goal.returns-in-Err-clause-fed
returns-in-Err-clause-fed c = λ number fed calls text s.
    let now = c.args.self.now in
    let feeds = c.in-Err.ensures.feeds in
    rw (take_all (length c.args.piece.now) c.args.piece.now (omega arith))
    (windowed.served_fault (kind (most_of now.group) number now.core []) now.window c.feed.new.self now.fault c.in-Err.fault c.args.piece.now _ feeds.0 feeds.1 (λ d is. (c.in-Err.ensures.stays d is).1) fed calls text s)

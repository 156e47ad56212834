use Rattle.std.proofs.Common.{length, take_all, arith}
use Rattle.conn_serve.proofs.HecSessions.{fed_ok, fed_err}
use Rattle.conn_serve.proofs.hec.session.HecSessionSession.feed.Goals as goal

pub returns-in-Ok-clause-fed : goal.returns-in-Ok-clause-fed
returns-in-Ok-clause-fed c = λ number fed calls text s.
    let now = c.args.self.now in
    let x = c.in-Ok.ensures.feeds now.core s.reads.kept s.reads.sound s.reads.is_kept in
    record {
      frames = s.frames;
      handled = s.handled;
      reads = record { sound = x.sound; kept = x.after; is_kept = x.is_kept; reads = fed_ok s.reads.kept x.after now.met c.args.piece.now c.in-Ok.taken c.requires.idle.found x.feeds fed s.frames s.reads.reads };
    }

pub returns-in-Err-clause-fed : goal.returns-in-Err-clause-fed
returns-in-Err-clause-fed c = λ number fed calls text s.
    let now = c.args.self.now in
    let x = c.in-Err.ensures.feeds now.core s.reads.kept s.reads.sound s.reads.is_kept in
    rw (take_all (length c.args.piece.now) c.args.piece.now (omega arith))
    (record {
      frames = s.frames;
      handled = s.handled;
      reads = record { sound = x.sound; kept = x.after; is_kept = x.is_kept; reads = fed_err s.reads.kept x.after now.met c.args.piece.now c.in-Err.fault c.requires.idle.found x.feeds fed s.frames s.reads.reads };
    })

-- What a piece does of the bytes that are requests.
use Rattle.std.proofs.Common.{◌≡◌, ◌^◌, Ok, Err, None, ap, length, arith}
use Rattle.std.specs.Prelude.{is_some}
use Rattle.conn_serve.proofs.Acting.{no_fault}
use Rattle.conn_serve.proofs.HecIntake.{fits_window, feeds_window, extent_fed}
use Rattle.conn_serve.proofs.HecSessions.{window_ok, window_err}
use Rattle.conn_serve.proofs.hec.intake.Intake.feed.Goals as goal

pub feed-requires : goal.feed-requires
feed-requires c = fits_window c.args.self.now (length c.args.piece.now) (2 ^ 40) c.in-None.is c.requires.fits

pub returns-in-Ok-clause-feeds : goal.returns-in-Ok-clause-feeds
returns-in-Ok-clause-feeds c =
    let now = c.args.self.now in
    let sound : now.window.reading.fault ≡ None = no_fault now.window.reading.fault (λ e is. let h = (c.in-Ok.ensures.stays e is).0 in cc) in
    feeds_window now (record now { window = c.feed.new.self }) c.args.piece.now (Ok c.in-Ok.taken) c.in-None.is c.in-None.is (window_ok now.window c.feed.new.self c.args.piece.now c.in-Ok.taken sound c.in-Ok.ensures.feeds)

pub returns-in-Ok-clause-extent : goal.returns-in-Ok-clause-extent
returns-in-Ok-clause-extent c =
    let now = c.args.self.now in
    extent_fed now (record now { window = c.feed.new.self }) c.in-Ok.taken c.in-None.is c.in-None.is (omega (arith, c.in-Ok.ensures.room, c.in-Ok.ensures.feeds.0))

pub returns-in-Err-clause-feeds : goal.returns-in-Err-clause-feeds
returns-in-Err-clause-feeds c =
    let now = c.args.self.now in
    feeds_window now (record now { window = c.feed.new.self }) c.args.piece.now (Err c.in-Err.fault) c.in-None.is c.in-None.is (window_err now.window c.feed.new.self c.args.piece.now c.in-Err.fault c.in-Err.ensures.feeds (λ e is. (c.in-Err.ensures.stays e is).1))

pub returns-in-Err-clause-faulty : goal.returns-in-Err-clause-faulty
returns-in-Err-clause-faulty c =
    let now = c.args.self.now in
    extent_fed now (record now { window = c.feed.new.self }) (length c.args.piece.now) c.in-None.is c.in-None.is (omega (arith, c.in-Err.ensures.room))

pub pass-requires-clause-some : goal.pass-requires-clause-some
pass-requires-clause-some c = ap is_some c.in-Some.is

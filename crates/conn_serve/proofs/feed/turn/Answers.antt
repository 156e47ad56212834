use Rattle.std.proofs.Common.{arith, length, rules, take, ◌≤◌, ◌∙◌, inl, inr, refl, sym, subst}
use Rattle.std.specs.Io.KnownBytes.{IsAtEnd}
use Rattle.desk_access.specs.Endings.{IsAtMove}
use Rattle.conn_serve.proofs.Faults.{counts_fine, counts_other, counts_passed, quiet_fine, read_is_no_write}
use Rattle.conn_serve.proofs.Leading.{done_map, so_far_less}
use Rattle.conn_serve.proofs.Running.{piece_adds, piece_few, piece_fits, piece_size, turn_read, turn_unread}
use Rattle.conn_serve.proofs.Saying.{says_read}
use Rattle.conn_serve.proofs.feed.turn.Goals as goal

pub returns-in-Err : goal.returns-in-Err
returns-in-Err g c =
    let read = c.in-Err.ensures in
    let keeps = g.met.L.Link.reads_keep _ _ read.apart in
    let number = c.args.connection.now.number in
    record {
      room = tt;
      goes = tt;
      halts = turn_unread _ _ _ _ _ _ _ _ (g.S.Session.served number c.args.session.now) _ (g.met.A.Access.ran_none _) read.given read.left keeps.0 (λ fed called said s.
          c.requires.may_end.read_fault (g.L.Source.left c.read_next.new.link) fed called said s);
      end = tt;
      only = inl refl;
      idle = tt;
      extent = tt;
      terms = tt;
      number = refl;
      may = tt;
      reads = record { later = read.cause.later; cause = λ is. read.cause.failed refl; quiet = λ none. absurd (none refl) };
      writes = counts_other _ _ _ _ _ read_is_no_write keeps.1;
      same = read.same;
      lasts = λ none. keeps.0 ∙ none;
    }

pub take_in-requires : goal.take_in-requires
take_in-requires g c =
    let few : c.in-Ok.len ≤ length c.args.buf.now = omega (arith, c.in-Ok.ensures.bound) in
    let rests = c.in-Ok.ensures.rests in
    record {
      idle = rw rests c.requires.idle;
      fits = rw rests (piece_fits _ _ _ _ _ few c.requires.fits);
      so_far = rw rests (so_far_less _ _ _ _ (piece_few _ _ _ few) c.requires.so_far);
      may = c.requires.may;
      says = rw rests (says_read (g.A.Access.ran c.args.access.now) (g.L.Sink.permits c.read_next.new.link) (g.L.Sink.taken c.args.link.now) (g.L.Sink.taken c.read_next.new.link) _ (g.met.L.Link.reads_keep _ _ c.in-Ok.ensures.apart).0
          (c.requires.says c.read_next.new.link (take c.in-Ok.len c.read_next.new.buf) c.in-Ok.ensures.same c.in-Ok.ensures.given));
    }

pub returns-in-Ok-take_in-clause-room : goal.returns-in-Ok-take_in-clause-room
returns-in-Ok-take_in-clause-room g c = omega (arith, c.in-Ok.ensures.bound)

pub returns-in-Ok-take_in-clause-goes : goal.returns-in-Ok-take_in-clause-goes
returns-in-Ok-take_in-clause-goes g c =
    let read = c.in-Ok.ensures in
    let call = c.in-Ok-take_in.ensures in
    let kept = g.met.L.Link.writes_keep _ _ call.apart in
    rw (← read.rests) (turn_read _ _ _ _ _ _ _ _ _ _ _ _ _ _ read.given kept.0 read.left.0 kept.1 call.bytes (g.met.L.Link.reads_keep _ _ read.apart).0
    (done_map _ _ _ _ _ _ _ call.goes (λ calls text is. (piece_size _ _ read.bound, is))))

pub returns-in-Ok-take_in-clause-halts : goal.returns-in-Ok-take_in-clause-halts
returns-in-Ok-take_in-clause-halts g c = tt

pub returns-in-Ok-take_in-clause-end : goal.returns-in-Ok-take_in-clause-end
returns-in-Ok-take_in-clause-end g c =
    let read = c.in-Ok.ensures in
    let kept = g.met.L.Link.writes_keep _ _ c.in-Ok-take_in.ensures.apart in
    λ none. subst IsAtEnd (sym kept.1) (read.left.1 none (search rules))

pub returns-in-Ok-take_in-clause-only : goal.returns-in-Ok-take_in-clause-only
returns-in-Ok-take_in-clause-only g c = tt

pub returns-in-Ok-take_in-clause-idle : goal.returns-in-Ok-take_in-clause-idle
returns-in-Ok-take_in-clause-idle g c = c.in-Ok-take_in.ensures.idle

pub returns-in-Ok-take_in-clause-extent : goal.returns-in-Ok-take_in-clause-extent
returns-in-Ok-take_in-clause-extent g c = rw (← c.in-Ok.ensures.rests) (piece_adds _ _ _ _ c.in-Ok-take_in.ensures.extent)

pub returns-in-Ok-take_in-clause-terms : goal.returns-in-Ok-take_in-clause-terms
returns-in-Ok-take_in-clause-terms g c = rw (← c.in-Ok.ensures.rests) c.in-Ok-take_in.ensures.terms

pub returns-in-Ok-take_in-clause-number : goal.returns-in-Ok-take_in-clause-number
returns-in-Ok-take_in-clause-number g c = c.in-Ok-take_in.ensures.number

pub returns-in-Ok-take_in-clause-may : goal.returns-in-Ok-take_in-clause-may
returns-in-Ok-take_in-clause-may g c = c.in-Ok-take_in.ensures.may

pub returns-in-Ok-take_in-clause-writes : goal.returns-in-Ok-take_in-clause-writes
returns-in-Ok-take_in-clause-writes g c =
    let kept = g.met.L.Link.reads_keep _ _ c.in-Ok.ensures.apart in
    counts_fine _ _ _ _ _ (quiet_fine _ _ _ _ _ c.in-Ok-take_in.ensures.writes ∙ kept.1)

pub returns-in-Ok-take_in-clause-same : goal.returns-in-Ok-take_in-clause-same
returns-in-Ok-take_in-clause-same g c = g.L.Object.same_trans _ _ _ c.in-Ok.ensures.same c.in-Ok-take_in.ensures.same

pub returns-in-Ok-take_in-clause-lasts : goal.returns-in-Ok-take_in-clause-lasts
returns-in-Ok-take_in-clause-lasts g c =
    let keeps = g.met.L.Link.reads_keep _ _ c.in-Ok.ensures.apart in
    λ none. (g.met.L.Sink.permits_last _ _ c.in-Ok-take_in.ensures.apart).1 (keeps.0 ∙ none)

pub returns-in-Err-take_in : goal.returns-in-Err-take_in
returns-in-Err-take_in g c =
    let read = c.in-Ok.ensures in
    let call = c.in-Err-take_in.ensures in
    let talk = c.in-Err-take_in.talk in
    let kept = g.met.L.Link.writes_keep _ _ call.apart in
    let keeps = g.met.L.Link.reads_keep _ _ read.apart in
    record {
      room = tt;
      goes = tt;
      halts = rw (← read.rests) (turn_read _ _ _ _ _ _ _ _ _ _ _ _ _ _ read.given kept.0 read.left.0 kept.1 call.bytes keeps.0
          (done_map _ _ _ _ _ _ _ call.halts (λ calls text is fed called said counted served. is fed called said counted served (g.L.Source.left c.take_in.new.link))));
      end = tt;
      only = inr call.only;
      idle = tt;
      extent = tt;
      terms = tt;
      number = call.number;
      may = tt;
      reads = counts_other _ _ _ _ _ (λ is. subst IsAtMove is call.only) (kept.2 ∙ read.cause.quiet refl);
      writes = counts_passed _ _ _ _ _ _ _ keeps.1 call.writes;
      same = g.L.Object.same_trans _ _ _ read.same call.same;
      lasts = λ none. (g.met.L.Sink.permits_last _ _ call.apart).1 (keeps.0 ∙ none);
    }

use Rattle.conn_serve.proofs.feed.read_next.Goals as goal

pub returns-in-Err : goal.returns-in-Err
returns-in-Err g c =
    let first = c.claim.ensures in
    let kept = g.met.L.Link.writes_keep _ _ first.writes in
    let read = c.in-Err.ensures in
    record {
      bound = tt;
      given = rw (← kept.0) read.given;
      left = rw (← kept.1) read.left;
      cause = rw (← kept.2) read.cause;
      same = g.L.Object.same_trans _ _ _ first.same read.same;
      apart = g.met.L.Source.read_apart_trans _ _ _ first.reads read.apart;
      rests = c.rest.ensures;
    }

pub returns : goal.returns
returns g c =
    let first = c.claim.ensures in
    let kept = g.met.L.Link.writes_keep _ _ first.writes in
    let read = c.in-Ok.ensures in
    let second = c.claim-2.ensures in
    let last = g.met.L.Link.writes_keep _ _ second.writes in
    record {
      bound = read.bound;
      given = rw (← kept.0, last.0) read.given;
      left = rw (← kept.1, last.1) read.left;
      cause = rw (← kept.2, last.2) read.cause;
      same = g.L.Object.same_trans _ _ _ (g.L.Object.same_trans _ _ _ first.same read.same) second.same;
      apart = g.met.L.Source.read_apart_trans _ _ _ (g.met.L.Source.read_apart_trans _ _ _ first.reads read.apart) second.reads;
      rests = c.rest.ensures;
    }

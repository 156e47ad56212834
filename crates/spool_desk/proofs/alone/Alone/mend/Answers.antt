use Rattle.spool_log.specs.State.{view}
use Rattle.spool_desk.specs.Alone.{alone_at}
use Rattle.spool_desk.proofs.Making.{mended_of}
use Rattle.spool_desk.proofs.alone.Alone.mend.Goals as goal

pub returns-clause-mended : goal.returns-clause-mended
returns-clause-mended g c = λ x tells at.
    let spool = c.mend.new.self in
    mended_of x (alone_at c.args.self.now) (view spool.memory spool.doubt (g.D.Disk.moment spool.disk)) c.standing.result c.standing.ensures at (c.in_ok-mend.ensures.mended x.spool x.doubt tells at.spool)

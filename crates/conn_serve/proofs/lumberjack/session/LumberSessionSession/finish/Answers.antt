use Rattle.std.proofs.Common.{rules, arith}
use Rattle.conn_serve.proofs.Acting.{done_nothing, ok_then, err_both, none_by}
use Rattle.desk_access.specs.Carried.{Carried}
use Rattle.conn_serve.specs.Lumber.{lumberjack}
use Rattle.conn_serve.proofs.Saying.{has_carried}
use Rattle.conn_serve.proofs.Leading.{done_map}
use Rattle.conn_serve.proofs.Batching.{handles_few, handles_next}
use Rattle.conn_serve.proofs.LumberSessions.{so_far_few, finished_none, finished_batch, finished_halt}
use Rattle.conn_serve.proofs.lumberjack.session.LumberSessionSession.finish.Goals as goal

pub returns-then-is_empty-clause-goes : goal.returns-then-is_empty-clause-goes
returns-then-is_empty-clause-goes g c =
    let now = c.args.self.now in
    done_nothing _ _ _ _ (g.met.A.Access.ran_none _) (λ left fed called said counted k. finished_none c.args.connection.now.number now.core now.staged.entries.items now.staged.last left c.args.over fed called said k (none_by _ (search rules)))

pub commit-requires-clause-few : goal.commit-requires-clause-few
commit-requires-clause-few g c = omega (arith, handles_few _ _ _ _ _ _ _ c.requires.so_far.served.handled)

pub commit-requires-clause-next : goal.commit-requires-clause-next
commit-requires-clause-next g c = handles_next _ _ _ _ _ _ _ _ c.requires.so_far.served.handled c.requires.so_far.counted

pub commit-requires-clause-early : goal.commit-requires-clause-early
commit-requires-clause-early g c =
    let now = c.args.self.now in
    omega (arith, so_far_few c.args.connection.now.number now.window now.core now.staged.entries.items now.staged.last now.fault c.args.connection.now.taken 0 c.requires.so_far)

pub returns-clause-goes : goal.returns-clause-goes
returns-clause-goes g c =
    let now = c.args.self.now in
    ok_then c.commit.result _ _ c.commit.ensures.goes (λ d. done_map _ _ _ _ _ _ _ d (λ calls text stores left fed called said counted k.
    finished_batch c.args.connection.now.number now.core now.staged.entries.items now.staged.last left c.args.over fed called said k calls text (search rules) stores))

pub returns-clause-halts : goal.returns-clause-halts
returns-clause-halts g c =
    let now = c.args.self.now in
    err_both c.commit.result _ _ _ c.commit.ensures.halts c.commit.ensures.only (λ talk d at. done_map _ _ _ _ _ _ _ d (λ late part ends left fed called said counted k.
    finished_halt c.args.connection.now.number now.core now.staged.entries.items now.staged.last left c.args.over fed called said k late part talk at (search rules) ends))

pub commit-requires-clause-says : goal.commit-requires-clause-says
commit-requires-clause-says g c =
    let session = c.args.self.now in
    λ now calls text made stores. c.requires.says now calls text made (λ left fed called said counted k.
    has_carried (Carried (lumberjack c.args.connection.now.number)) left fed c.args.over _ _
    (finished_batch c.args.connection.now.number session.core session.staged.entries.items session.staged.last left c.args.over fed called said k calls text (search rules) stores))

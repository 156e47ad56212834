-- What has been read of a piece past a body, turn by turn.
use Rattle.http_edge.specs.declared.step.Turn.TheVariants.{Took, Past, Done, Open, Bad}
use Rattle.http_edge.proofs.GatherLaws.{gathers_bad, gathers_whole}
use Rattle.http_edge.proofs.PastLaws.{pass_past, pass_took, turned}
use Rattle.http_edge.proofs.gather.pass.Goals as goal

pub turns-preserved-in-Took : goal.turns-preserved-in-Took
turns-preserved-in-Took c =
    let l = c.turns in
    let a = l.invariant in
    let p = c.args.piece.now in
    let t = turned l.now l.count c.args.held a.got p l.from c.step.result (Took c.in-Took.stage c.in-Took.used) a.count_is c.in-Took.is c.step.ensures in
    pass_took c.args.stage c.args.held p l.now c.in-Took.stage l.count l.from c.in-Took.used a t

pub turns-preserved : goal.turns-preserved
turns-preserved c =
    let l = c.turns in
    let a = l.invariant in
    let p = c.args.piece.now in
    let t = turned l.now l.count c.args.held a.got p l.from c.step.result (Past c.in-Past.stage c.in-Past.used) a.count_is c.in-Past.is c.step.ensures in
    pass_past c.args.stage c.args.held p l.now c.in-Past.stage l.count l.from c.in-Past.used a t

pub returns-in-Done : goal.returns-in-Done
returns-in-Done c =
    let l = c.turns in
    let a = l.invariant in
    let p = c.args.piece.now in
    let t = turned l.now l.count c.args.held a.got p l.from c.step.result (Done c.in-Done.used) a.count_is c.in-Done.is c.step.ensures in
    record { got = a.got; held_is = a.count_is; gathers = gathers_whole c.args.stage c.args.held p a.got l.now l.from c.in-Done.used a.brings t }

pub returns-in-Bad : goal.returns-in-Bad
returns-in-Bad c =
    let l = c.turns in
    let a = l.invariant in
    let p = c.args.piece.now in
    let t = turned l.now l.count c.args.held a.got p l.from c.step.result (Bad c.in-Bad.why) a.count_is c.in-Bad.is c.step.ensures in
    record { got = a.got; held_is = a.count_is; gathers = gathers_bad c.args.stage c.args.held p a.got l.now l.from c.in-Bad.why a.brings t }

pub returns-in-Open : goal.returns-in-Open
returns-in-Open c =
    let l = c.turns in
    let a = l.invariant in
    let p = c.args.piece.now in
    let t = turned l.now l.count c.args.held a.got p l.from c.step.result Open a.count_is c.in-Open.is c.step.ensures in
    record { got = a.got; held_is = a.count_is; gathers = (a.brings, t.0, t.1) }

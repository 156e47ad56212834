-- What has been read of a piece, turn by turn.
use Rattle.std.proofs.Common.{◌-◌, ◌∙◌, arith}
use Rattle.http_edge.specs.declared.step.Turn.TheVariants.{Took, Past, Done, Bad}
use Rattle.http_edge.proofs.GatherLaws.{at_past, at_took, count_got, gathers_bad, gathers_whole, turns_at}
use Rattle.http_edge.proofs.gather.gather.Goals as goal

pub turns-preserved-in-Took : goal.turns-preserved-in-Took
turns-preserved-in-Took c =
    let l = c.turns in
    let a = l.invariant.0 in
    let b = c.args.bytes.now.items in
    let p = c.args.piece.now in
    let n = count_got b l.bytes.items a.got c.len.result c.len-before.result a.added (c.len.ensures ∙ l.bytes.ok.0) l.invariant.2 in
    let t = turns_at l.now c.args.held (c.len.result - c.len-before.result) a.got p l.from c.step.result (Took c.in-Took.stage c.in-Took.used) n c.in-Took.is c.step.ensures in
    let k = c.append.ensures.capacity in
    let j = l.invariant.1 in
    (at_took c.args.stage c.args.held p b l.now c.in-Took.stage l.bytes.items c.append.new.bytes.items l.from c.in-Took.used a t c.append.ensures.items, omega (arith, j, k), l.invariant.2)

pub turns-preserved : goal.turns-preserved
turns-preserved c =
    let l = c.turns in
    let a = l.invariant.0 in
    let b = c.args.bytes.now.items in
    let p = c.args.piece.now in
    let n = count_got b l.bytes.items a.got c.len.result c.len-before.result a.added (c.len.ensures ∙ l.bytes.ok.0) l.invariant.2 in
    let t = turns_at l.now c.args.held (c.len.result - c.len-before.result) a.got p l.from c.step.result (Past c.in-Past.stage c.in-Past.used) n c.in-Past.is c.step.ensures in
    (at_past c.args.stage c.args.held p b l.now c.in-Past.stage l.bytes.items l.from c.in-Past.used a t, l.invariant.1, l.invariant.2)

pub returns-in-Done-clause-gathers : goal.returns-in-Done-clause-gathers
returns-in-Done-clause-gathers c =
    let l = c.turns in
    let a = l.invariant.0 in
    let b = c.args.bytes.now.items in
    let p = c.args.piece.now in
    let n = count_got b l.bytes.items a.got c.len.result c.len-before.result a.added (c.len.ensures ∙ l.bytes.ok.0) l.invariant.2 in
    let t = turns_at l.now c.args.held (c.len.result - c.len-before.result) a.got p l.from c.step.result (Done c.in-Done.used) n c.in-Done.is c.step.ensures in
    let few = a.few in
    record { got = a.got; added = a.added; few = omega (arith, few); gathers = gathers_whole c.args.stage c.args.held p a.got l.now l.from c.in-Done.used a.brings t }

pub returns-in-Bad-clause-gathers : goal.returns-in-Bad-clause-gathers
returns-in-Bad-clause-gathers c =
    let l = c.turns in
    let a = l.invariant.0 in
    let b = c.args.bytes.now.items in
    let p = c.args.piece.now in
    let n = count_got b l.bytes.items a.got c.len.result c.len-before.result a.added (c.len.ensures ∙ l.bytes.ok.0) l.invariant.2 in
    let t = turns_at l.now c.args.held (c.len.result - c.len-before.result) a.got p l.from c.step.result (Bad c.in-Bad.why) n c.in-Bad.is c.step.ensures in
    record { got = a.got; added = a.added; few = a.few; gathers = gathers_bad c.args.stage c.args.held p a.got l.now l.from c.in-Bad.why a.brings t }

use Rattle.std.proofs.Common.{◌<◌, length, sym, arith, rules}
use Rattle.hec_ids.proofs.AskLaws.{asks_none, asks_next}
use Rattle.hec_ids.proofs.ids.Ids.ask.Goals as goal

pub loop-i-init : goal.loop-i-init
loop-i-init c = (sym c.requires.equal, asks_none c.args.self.now c.args.channel)

pub loop-i-preserved : goal.loop-i-preserved
loop-i-preserved c =
    let ids = c.args.ids.now in
    let i = c.loop-i.i in
    let lt : i < length ids = omega arith in
    (search rules, asks_next c.args.self.now c.loop-i.self c.tell.new.self c.args.channel i ids c.loop-i.known c.tell.result c.requires.distinct lt c.loop-i.invariant.0 c.loop-i.invariant.1 c.tell.ensures)

use Rattle.std.proofs.Common.{take, sym, subst}
use Rattle.std.proofs.lemmas.List.{take_all}
use Rattle.std.proofs.lemmas.List.Elements.{All-more, All-same}
use Rattle.spool_log.specs.Reading.Judging.{HasSoundNumbers}
use Rattle.spool_log.proofs.Scans.Chained.{go_on-more, go_on-all}
use Rattle.spool_log.proofs.Scans.Orders.{rest_next, rest_here, rest_end}
use Rattle.spool_log.proofs.reading.judge.first_at_fault.Goals as goal

pub returns-then-not-is_in_order-clause-order : goal.returns-then-not-is_in_order-clause-order
returns-then-not-is_in_order-clause-order c = λ size slots knows.
    rest_here size slots c.args.ordinal c.args.first c.args.opened.now c.loop-k.k c.index-opened-k.result c.loop-k-test.true c.index-opened-k.is c.loop-k.ordinal c.loop-k.first (c.loop-k.invariant.order size slots knows)
    (λ numbers. cc (c.is_in_order.ensures.1 numbers, c.if-not-is_in_order.true))

pub loop-k-preserved : goal.loop-k-preserved
loop-k-preserved c =
    let numbers = c.is_in_order.ensures.0 c.if-not-is_in_order.false in
    record {
      order = λ size slots knows. rest_next size slots c.args.ordinal c.args.first c.args.opened.now c.loop-k.k c.index-opened-k.result c.loop-k-test.true c.index-opened-k.is c.loop-k.ordinal c.loop-k.first (c.loop-k.invariant.order size slots knows) numbers;
      go_on = go_on-more c.args.opened.now c.loop-k.k c.index-opened-k.result c.loop-k-test.true c.index-opened-k.is c.loop-k.first c.loop-k.invariant.go_on numbers.first_due;
      sound = All-more HasSoundNumbers c.args.opened.now c.loop-k.k c.index-opened-k.result c.loop-k-test.true c.loop-k.invariant.sound (subst HasSoundNumbers c.index-opened-k.is numbers.sound);
    }

pub returns-clause-order : goal.returns-clause-order
returns-clause-order c = λ size slots knows. rest_end size slots c.args.ordinal c.args.first c.args.opened.now c.loop-k.k c.loop-k.ordinal c.loop-k.first c.loop-k-test.false (c.loop-k.invariant.order size slots knows)

pub returns-clause-sound : goal.returns-clause-sound
returns-clause-sound c = λ none. All-same HasSoundNumbers c.args.opened.now (take c.loop-k.k c.args.opened.now) (sym (take_all c.loop-k.k c.args.opened.now c.loop-k-test.false)) c.loop-k.invariant.sound

pub returns-clause-go_on : goal.returns-clause-go_on
returns-clause-go_on c = λ none last older is. go_on-all c.args.opened.now c.loop-k.k c.loop-k.first c.loop-k-test.false c.loop-k.invariant.go_on last older is

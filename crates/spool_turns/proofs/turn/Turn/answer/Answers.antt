use Rattle.std.proofs.Common.{List, sym, subst}
use Rattle.event_form.specs.declared.event.Entry.{Entry}
use Rattle.spool_desk.proofs.Fits.{front_alone}
use Rattle.spool_turns.specs.Letters.{IsLetter, IsAnswered}
use Rattle.spool_turns.proofs.AnsweredAlone.{letter_may, answered_alone}
use Rattle.spool_turns.proofs.turn.Turn.answer.Goals as goal

pub enter-requires-clause-seats : goal.enter-requires-clause-seats
enter-requires-clause-seats g c = (c.letter.invariant.0, c.args.self.now.twin_table)

pub enter-requires-clause-made : goal.enter-requires-clause-made
enter-requires-clause-made g c = record { before = c.args.self.now.alone; twin_is = c.args.self.now.twin_is; of_spool_is = tt; makes = c.take-answer.ensures.makes; same_ids = c.take-answer.ensures.ids }

pub enter-requires-clause-pass : goal.enter-requires-clause-pass
enter-requires-clause-pass g c = c.letter.invariant.1.pass

pub enter-requires-clause-may : goal.enter-requires-clause-may
enter-requires-clause-may g c =
    let k = c.count_of-count.ensures in
    let l = subst (λ (e : List Entry). IsLetter g.J.Naming.run g.J.Naming.seats c.letter.inside.number e c.letter.inside.front c.letter.inside.seat.me) (sym c.deref-all.ensures.value) c.letter.invariant.1 in
    letter_may _ _ _ _ _ _ c.count_of-count.result c.take-answer.result l k.within.0 k.whole

pub invariant_of-result : goal.invariant_of-result
invariant_of-result g c =
    let n = g.J.Naming in
    let k = c.count_of-count.ensures in
    let l = subst (λ (e : List Entry). IsLetter n.run n.seats c.letter.inside.number e c.letter.inside.front c.letter.inside.seat.me) (sym c.deref-all.ensures.value) c.letter.invariant.1 in
    let e = c.enter.ensures in
    let t = c.take-answer.ensures in
    let answered = answered_alone g.D.Disk n.start n.run n.seats n.began c.letter.inside.seat.me c.enter.new.seat.me c.letter.inside.number
    c.deref-all.result.now c.letter.inside.front c.count_of-count.result c.take-answer.result l k.within.0 k.within.1 k.whole t.receipt
    (λ is. front_alone _ _ _ _ _ (k.fits is) t.before) e.pass e.call e.real in (
      e.seats.0,
      subst (λ (es : List Entry). IsAnswered g.D.Disk n.start n.run n.seats n.began c.letter.inside.number es c.count_of-count.result c.take-answer.result c.enter.new.seat.me) c.deref-all.ensures.value answered,
    )

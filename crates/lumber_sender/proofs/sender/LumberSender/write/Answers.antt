use Rattle.std.proofs.Common.{◌≡◌, ◌+◌, ◌<◌, ◌++◌, List, length, refl, subst, arith}
use Rattle.event_form.specs.declared.event.Entry.{Entry}
use Rattle.event_form.specs.declared.turn.Turn.TheVariants.{Write}
use Rattle.lumber_sender.specs.Windows.{IsPart, part_text}
use Rattle.lumber_sender.specs.Sender.{Sender}
use Rattle.lumber_sender.specs.Turns.{IsWritten}
use Rattle.lumber_sender.specs.View.{sender_of}
use Rattle.lumber_sender.proofs.Writing.{sends_part}
use Rattle.lumber_sender.proofs.sender.LumberSender.write.Goals as goal

pub returns-clause-sends : goal.returns-clause-sends
returns-clause-sends c = λ h g.
    let s = sender_of c.self.inside in
    let p = c.in_ok-part.part in
    let part : part_text s.batch p.upto ≡ part_text s.batch s.written ++ p.text = subst (λ (l : List Entry). part_text l p.upto ≡ part_text l s.written ++ p.text) c.deref.ensures.value c.in_ok-part.ensures.part in
    sends_part s p.upto p.text part h (rw (← c.self.view_is) at g)

pub returns-clause-turn : goal.returns-clause-turn
returns-clause-turn c =
    let s = sender_of c.self.inside in
    let lt : s.written < length s.batch = rw (← c.self.view_is) at c.requires in
    let u = c.self.invariant.0.unheard lt in
    let told : s.told ≡ s.done + s.acked = omega (arith, u.told, u.acked) in
    (c.in_ok-part.ensures.bytes, u.goes, told)

pub returns-clause-written : goal.returns-clause-written
returns-clause-written c =
    let s = sender_of c.self.inside in
    let p = c.in_ok-part.part in
    let e = c.in_ok-part.ensures in
    let part : IsPart s.batch s.written p.upto p.text = subst (λ (l : List Entry). IsPart l s.written p.upto p.text) c.deref.ensures.value (record { some = e.some; within = e.within; is = e.part; short = e.short; full = e.full }) in
    subst (λ (x : Sender). IsWritten (Write p.text) x (record s { written = p.upto })) c.self.view_is (refl, part)

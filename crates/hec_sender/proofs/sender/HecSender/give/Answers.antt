use Rattle.std.proofs.Common.{◌≡◌, inl, inr, ◌<◌, ◌+◌, true, length, ap, sym, arith}
use Rattle.std.specs.Prelude.{◌%◌}
use Rattle.std.proofs.lemmas.Bool.{cases_lt}
use Rattle.hec_sender.specs.Sender.{given}
use Rattle.hec_sender.specs.View.{sender_of}
use Rattle.hec_sender.proofs.Giving.{keeps_more, sends_more, size_unsent}
use Rattle.hec_sender.proofs.sender.HecSender.give.Goals as goal

pub invariant_of-self : goal.invariant_of-self
invariant_of-self c =
    let s = sender_of c.self.inside in
    let i = c.self.invariant in
    let asked : s.asked ≡ true = rw (← c.self.view_is) at c.requires.asked in
    let even : given s % 128 ≡ 0 = rw (← c.self.view_is) at c.requires.whole in
    let next : 0 < given s → c.args.first ≡ s.first + given s = rw (← c.self.view_is) at c.requires.next in
    record {
      keeps = keeps_more s c.args.first c.args.entries.items i.keeps asked c.requires.few even c.requires.limits next c.requires.number;
      fault = i.fault;
      size = size_unsent s.stage s.done c.args.entries.items c.self.inside.size (i.keeps.need asked).stage;
      within = omega arith;
    }

pub returns-clause-sends : goal.returns-clause-sends
returns-clause-sends c = λ h g.
    let s = sender_of c.self.inside in
    let asked : s.asked ≡ true = rw (← c.self.view_is) at c.requires.asked in
    let even : given s % 128 ≡ 0 = rw (← c.self.view_is) at c.requires.whole in
    sends_more s c.args.first c.args.entries.items c.self.invariant.keeps asked even h (rw (← c.self.view_is) at g)

pub returns-clause-given : goal.returns-clause-given
returns-clause-given c =
    let s = sender_of c.self.inside in
    let asked : s.asked ≡ true = rw (← c.self.view_is) at c.requires.asked in
    let none : length s.rest ≡ 0 = ap length (c.self.invariant.keeps.need asked).none in
    let is : given c.args.self.now ≡ given s = sym (ap given c.self.view_is) in
    omega (arith, none, is)

pub returns-clause-first : goal.returns-clause-first
returns-clause-first c =
    let s = sender_of c.self.inside in
    let asked : s.asked ≡ true = rw (← c.self.view_is) at c.requires.asked in
    let none : length s.rest ≡ 0 = ap length (c.self.invariant.keeps.need asked).none in
    let is : given c.args.self.now ≡ given s = sym (ap given c.self.view_is) in
    let next : 0 < given s → c.args.first ≡ s.first + given s = rw (← c.self.view_is) at c.requires.next in
    elim (cases_lt 0 (given s)) [
      | inl some ↦ (let at = next some in omega (arith, none, is, at))
      | inr zero ↦ omega (arith, none, is, zero)
    ]

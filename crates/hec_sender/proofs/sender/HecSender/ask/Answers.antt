use Rattle.std.proofs.Common.{true, subst}
use Rattle.event_form.specs.declared.turn.Turn.TheVariants.{Need}
use Rattle.hec_sender.specs.Sender.{Sender, Needs}
use Rattle.hec_sender.specs.Turns.{Acts}
use Rattle.hec_sender.specs.View.{sender_of}
use Rattle.hec_sender.proofs.Writing.{act_ask, keeps_ask}
use Rattle.hec_sender.proofs.sender.HecSender.ask.Goals as goal

pub invariant_of-self : goal.invariant_of-self
invariant_of-self c =
    let s = sender_of c.self.inside in
    let i = c.self.invariant in
    let needs : Needs s = rw (← c.self.view_is) at c.requires in
    record { keeps = keeps_ask s i.keeps needs; fault = i.fault; size = i.size; within = i.within }

pub returns : goal.returns
returns c =
    let s = sender_of c.self.inside in
    let needs : Needs s = rw (← c.self.view_is) at c.requires in
    subst (λ (x : Sender). Acts x Need (record s { asked = true })) c.self.view_is (act_ask s needs)

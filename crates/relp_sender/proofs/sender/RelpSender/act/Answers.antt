use Rattle.std.proofs.Common.{◌≡◌, ◌∙◌, [], refl, sym, ap, subst}
use Rattle.std.specs.Prelude.{Option, Some, IsSome}
use Rattle.relp_sender.specs.declared.stage.Stop.{Stop}
use Rattle.relp_sender.specs.Due.{IsDue}
use Rattle.relp_sender.specs.Sender.{Sender}
use Rattle.event_form.specs.declared.turn.Turn.{Turn}
use Rattle.event_form.specs.Turn.{text_of}
use Rattle.relp_sender.specs.Sends.{SendsOn}
use Rattle.relp_sender.specs.Turns.{Acts, also_of}
use Rattle.event_form.specs.declared.turn.Turn.TheVariants.{Done}
use Rattle.relp_sender.specs.declared.due.Due.{Due}
use Rattle.relp_sender.specs.declared.due.Due.TheVariants.{Stopped, Confirm, Tell, Send, Ask, End, Hear}
use Rattle.relp_sender.proofs.OneDue.{one_due}
use Rattle.relp_sender.proofs.Telling.{sends_none, sends_as}
use Rattle.relp_sender.proofs.sender.RelpSender.act.Goals as goal

pub returns-in-Some-clause-sends : goal.returns-in-Some-clause-sends
returns-in-Some-clause-sends c = sends_as c.args.self.now c.args.self.now [] _ [] _ (sym c.stopped.ensures.text) (sym c.stopped.ensures.also) (sends_none c.args.self.now)

pub returns-in-Hear-clause-sends : goal.returns-in-Hear-clause-sends
returns-in-Hear-clause-sends c = sends_as c.args.self.now c.args.self.now [] _ [] _ (sym c.unheard.ensures.text) (sym c.unheard.ensures.also) (sends_none c.args.self.now)

pub returns-in-End-clause-sends : goal.returns-in-End-clause-sends
returns-in-End-clause-sends c = sends_none c.args.self.now

pub returns-in-Confirm-clause-sends : goal.returns-in-Confirm-clause-sends
returns-in-Confirm-clause-sends c = sends_as c.args.self.now c.confirm.new.self [] _ [] _ (sym c.confirm.ensures.text) (sym c.confirm.ensures.also) c.confirm.ensures.sends

pub returns-in-Tell-clause-sends : goal.returns-in-Tell-clause-sends
returns-in-Tell-clause-sends c = sends_as c.args.self.now c.tell.new.self [] _ _ _ (sym c.tell.ensures.text) refl c.tell.ensures.sends

pub returns-in-Ask-clause-sends : goal.returns-in-Ask-clause-sends
returns-in-Ask-clause-sends c = subst (λ (t : Turn). SendsOn c.args.self.now (text_of t) (also_of c.args.self.now.first t) c.ask.new.self) (sym c.ask.ensures.need) c.ask.ensures.sends

pub returns-in-Some-clause-acts : goal.returns-in-Some-clause-acts
returns-in-Some-clause-acts c = λ due is.
    let now = c.args.self.now in
    let stop : now.stop ≡ Some c.in-Some.stop = ap (λ (s : Sender). s.stop) (sym c.self.view_is) ∙ c.in-Some.is in
    let some : IsDue Stopped now = subst (λ (o : Option Stop). IsSome o) (sym stop) refl in
    subst (λ (d : Due). Acts d now c.stopped.result now) (one_due Stopped due now some is) c.stopped.ensures.acts

pub returns-in-Hear-clause-acts : goal.returns-in-Hear-clause-acts
returns-in-Hear-clause-acts c = λ due is. subst (λ (d : Due). Acts d c.args.self.now c.unheard.result c.args.self.now) (one_due Hear due c.args.self.now c.in-Hear.ensures is) c.unheard.ensures.acts

pub returns-in-Confirm-clause-acts : goal.returns-in-Confirm-clause-acts
returns-in-Confirm-clause-acts c = λ due is. subst (λ (d : Due). Acts d c.args.self.now c.confirm.result c.confirm.new.self) (one_due Confirm due c.args.self.now c.in-Confirm.ensures is) c.confirm.ensures.acts

pub returns-in-Tell-clause-acts : goal.returns-in-Tell-clause-acts
returns-in-Tell-clause-acts c = λ due is. subst (λ (d : Due). Acts d c.args.self.now c.tell.result c.tell.new.self) (one_due Tell due c.args.self.now c.in-Tell.ensures is) c.tell.ensures.acts

pub returns-in-Send-clause-acts : goal.returns-in-Send-clause-acts
returns-in-Send-clause-acts c = λ due is. subst (λ (d : Due). Acts d c.args.self.now c.write.result c.write.new.self) (one_due Send due c.args.self.now c.in-Send.ensures is) c.write.ensures.acts

pub returns-in-Ask-clause-acts : goal.returns-in-Ask-clause-acts
returns-in-Ask-clause-acts c = λ due is. subst (λ (d : Due). Acts d c.args.self.now c.ask.result c.ask.new.self) (one_due Ask due c.args.self.now c.in-Ask.ensures is) c.ask.ensures.acts

pub returns-in-End-clause-acts : goal.returns-in-End-clause-acts
returns-in-End-clause-acts c = λ due is. subst (λ (d : Due). Acts d c.args.self.now Done c.args.self.now) (one_due End due c.args.self.now c.in-End.ensures is) (refl, refl)

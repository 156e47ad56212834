use Rattle.std.proofs.Common.{ℕ, List, sym, ap, subst}
use Rattle.event_form.specs.declared.turn.Turn.{Turn}
use Rattle.lumber_sender.specs.Sends.{SendsOn}
use Rattle.event_form.specs.Turn.{text_of}
use Rattle.lumber_sender.proofs.Writing.{sends_none}
use Rattle.lumber_sender.proofs.sender.LumberSender.act.Goals as goal

pub returns-in-Some-clause-sends : goal.returns-in-Some-clause-sends
returns-in-Some-clause-sends c = sends_none c.args.self.now

pub returns-in-Stopped-clause-sends : goal.returns-in-Stopped-clause-sends
returns-in-Stopped-clause-sends c = sends_none c.args.self.now

pub returns-in-Confirm-clause-sends : goal.returns-in-Confirm-clause-sends
returns-in-Confirm-clause-sends c = subst (λ (l : List ℕ). SendsOn c.args.self.now l c.confirm.new.self) (sym c.confirm.ensures.text) c.confirm.ensures.sends

pub returns-in-Ask-clause-sends : goal.returns-in-Ask-clause-sends
returns-in-Ask-clause-sends c = subst (λ (t : Turn). SendsOn c.args.self.now (text_of t) c.ask.new.self) (sym c.ask.ensures.need) c.ask.ensures.sends

pub returns-in-Ask-clause-text : goal.returns-in-Ask-clause-text
returns-in-Ask-clause-text c = ap text_of c.ask.ensures.need

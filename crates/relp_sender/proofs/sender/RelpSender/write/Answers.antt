use Rattle.std.proofs.Common.{sym, subst}
use Rattle.event_form.specs.declared.turn.Turn.{Turn}
use Rattle.event_form.specs.Turn.{text_of}
use Rattle.relp_sender.specs.Sends.{SendsOn}
use Rattle.relp_sender.specs.Turns.{also_of}
use Rattle.relp_sender.proofs.sender.RelpSender.write.Goals as goal

pub returns-in-Open-clause-sends : goal.returns-in-Open-clause-sends
returns-in-Open-clause-sends c = subst (λ (t : Turn). SendsOn c.args.self.now (text_of t) (also_of c.args.self.now.first t) c.open.new.self) (sym c.open.ensures.turn) c.open.ensures.sends

pub returns-in-Frames-clause-sends : goal.returns-in-Frames-clause-sends
returns-in-Frames-clause-sends c = subst (λ (t : Turn). SendsOn c.args.self.now (text_of t) (also_of c.args.self.now.first t) c.send.new.self) (sym c.send.ensures.turn) c.send.ensures.sends

pub returns-in-Close-clause-sends : goal.returns-in-Close-clause-sends
returns-in-Close-clause-sends c = subst (λ (t : Turn). SendsOn c.args.self.now (text_of t) (also_of c.args.self.now.first t) c.close.new.self) (sym c.close.ensures.turn) c.close.ensures.sends

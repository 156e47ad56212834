use Rattle.std.proofs.Common.{true}
use Rattle.lumber_sender.specs.View.{sender_of}
use Rattle.lumber_sender.proofs.Writing.{sends_told}
use Rattle.lumber_sender.proofs.sender.LumberSender.ask.Goals as goal

pub returns-clause-sends : goal.returns-clause-sends
returns-clause-sends c = λ h g.
    let s = sender_of c.self.inside in
    sends_told s s.told true h (rw (← c.self.view_is) at g)

use Rattle.std.proofs.Common.{◌≡◌, true}
use Rattle.hec_sender.specs.View.{sender_of}
use Rattle.hec_sender.proofs.Giving.{keeps_end, sends_end}
use Rattle.hec_sender.proofs.sender.HecSender.finish.Goals as goal

pub invariant_of-self : goal.invariant_of-self
invariant_of-self c =
    let i = c.self.invariant in
    record { keeps = keeps_end (sender_of c.self.inside) i.keeps; fault = i.fault; size = i.size; within = i.within }

pub returns-clause-sends : goal.returns-clause-sends
returns-clause-sends c = λ h g.
    let s = sender_of c.self.inside in
    let asked : s.asked ≡ true = rw (← c.self.view_is) at c.requires.asked in
    sends_end s c.self.invariant.keeps asked h (rw (← c.self.view_is) at g)

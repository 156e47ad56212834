use Rattle.relp_sender.specs.declared.next.Next.TheVariants.{Close}
use Rattle.relp_sender.specs.Due.{IsNext}
use Rattle.relp_sender.specs.contracts.sender.RelpSender.{the_view}
use Rattle.relp_sender.proofs.Writing.{sends_close}
use Rattle.relp_sender.proofs.sender.RelpSender.close.Goals as goal

pub returns-clause-sends : goal.returns-clause-sends
returns-clause-sends c = λ h was.
    let s = the_view c.self.inside in
    let n : IsNext s (Close c.args.text) = rw (← c.self.view_is) at c.requires.next in
    sends_close s c.args.text n.0 n.2 h (rw (← c.self.view_is) at was)

use Rattle.relp_sender.specs.declared.next.Next.TheVariants.{Open}
use Rattle.relp_sender.specs.Due.{IsNext}
use Rattle.relp_sender.specs.contracts.sender.RelpSender.{the_view}
use Rattle.relp_sender.proofs.Writing.{sends_open}
use Rattle.relp_sender.proofs.sender.RelpSender.open.Goals as goal

pub returns-clause-sends : goal.returns-clause-sends
returns-clause-sends c = λ h was.
    let s = the_view c.self.inside in
    let n : IsNext s (Open c.args.text c.args.places) = rw (← c.self.view_is) at c.requires.next in
    sends_open s c.args.text c.args.places.items c.self.invariant.0 n.0 n.1 n.3 h (rw (← c.self.view_is) at was)

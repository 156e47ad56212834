use Rattle.relp_sender.specs.contracts.sender.RelpSender.{the_view}
use Rattle.relp_sender.proofs.Telling.{sends_told}
use Rattle.relp_sender.proofs.sender.RelpSender.confirm.Goals as goal

pub returns-clause-sends : goal.returns-clause-sends
returns-clause-sends c = λ h was. let s = the_view c.self.inside in sends_told s c.known-self-inside.result s.asked h (rw (← c.self.view_is) at was)

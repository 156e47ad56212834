use Rattle.std.proofs.Common.{true}
use Rattle.relp_sender.specs.contracts.sender.RelpSender.{the_view}
use Rattle.relp_sender.proofs.Telling.{sends_told}
use Rattle.relp_sender.proofs.sender.RelpSender.ask.Goals as goal

pub returns-clause-sends : goal.returns-clause-sends
returns-clause-sends c = λ h was. let s = the_view c.self.inside in sends_told s s.told true h (rw (← c.self.view_is) at was)

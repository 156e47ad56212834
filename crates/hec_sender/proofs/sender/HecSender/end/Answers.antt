use Rattle.hec_sender.proofs.Writing.{act_end}
use Rattle.hec_sender.proofs.sender.HecSender.end.Goals as goal

pub returns : goal.returns
returns c = act_end c.args.self.now c.settle.ensures c.requires

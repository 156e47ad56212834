use Rattle.hec_sender.specs.Sender.{given}
use Rattle.forward_core.proofs.LumberEnding.{even_of}
use Rattle.forward_core.proofs.hec.HecSenderOutgoing.give.Goals as goal

pub give-requires-clause-whole : goal.give-requires-clause-whole
give-requires-clause-whole c = even_of (given c.args.self.now) c.requires.whole

use Rattle.bridge_words.proofs.Once.{one_command}
use Rattle.bridge_words.proofs.law.one_command.Goals as goal

pub returns : goal.returns
returns c = one_command

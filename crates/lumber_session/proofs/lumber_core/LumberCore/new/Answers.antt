use Rattle.lumber_session.proofs.CountLaws.{behind_none}
use Rattle.lumber_session.proofs.lumber_core.LumberCore.new.Goals as goal

pub returns-clause-behind : goal.returns-clause-behind
returns-clause-behind c = behind_none

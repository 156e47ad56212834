use Rattle.hec_session.proofs.CodeLaws.{is_reply}
use Rattle.hec_session.proofs.say.HecSay.of.Goals as goal

pub returns-clause-reply : goal.returns-clause-reply
returns-clause-reply c = rw (c.status.ensures, c.number.ensures) (is_reply c.args.code c.args.event)

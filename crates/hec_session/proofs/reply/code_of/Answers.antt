use Rattle.hec_session.proofs.reply.code_of.Goals as goal

pub returns : goal.returns
returns c code is = c.with.ensures code is

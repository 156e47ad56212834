use Rattle.hec_session.proofs.body.ask.Goals as goal

pub returns-in-Err-Format-clause-act : goal.returns-in-Err-Format-clause-act
returns-in-Err-Format-clause-act c = (c.in-Err-Format.ensures.format (cc), c.of.ensures.value)

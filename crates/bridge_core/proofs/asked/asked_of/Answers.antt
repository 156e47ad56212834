use Rattle.bridge_core.proofs.asked.asked_of.Goals as goal

pub returns-in-Ok-None-clause-why : goal.returns-in-Ok-None-clause-why
returns-in-Ok-None-clause-why c = let is = c.in-Ok-None.is in let none = c.in-Ok-None.field-0-is in c.of.ensures.none (cc)

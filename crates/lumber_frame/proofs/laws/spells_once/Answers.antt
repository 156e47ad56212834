use Rattle.lumber_frame.proofs.WriteLaws as laws
use Rattle.lumber_frame.proofs.laws.spells_once.Goals as goal

pub returns : goal.returns
returns c = laws.spells_once

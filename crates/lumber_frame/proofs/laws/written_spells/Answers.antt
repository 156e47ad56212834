use Rattle.lumber_frame.proofs.WriteLaws as laws
use Rattle.lumber_frame.proofs.laws.written_spells.Goals as goal

pub returns : goal.returns
returns c = laws.written_spells

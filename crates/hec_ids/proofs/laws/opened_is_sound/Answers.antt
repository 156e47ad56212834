use Rattle.hec_ids.proofs.CallLaws as laws
use Rattle.hec_ids.proofs.laws.opened_is_sound.Goals as goal

pub returns : goal.returns
returns c = laws.opened_is_sound

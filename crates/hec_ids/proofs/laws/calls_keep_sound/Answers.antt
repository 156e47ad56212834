use Rattle.hec_ids.proofs.CallLaws as laws
use Rattle.hec_ids.proofs.laws.calls_keep_sound.Goals as goal

pub returns : goal.returns
returns c = laws.calls_keep_sound

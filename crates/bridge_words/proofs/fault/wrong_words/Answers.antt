use Rattle.std.proofs.Common.{◌≡◌}
use Rattle.bridge_words.proofs.fault.wrong_words.Goals as goal

pub returns-in-Err-Wrong-clause-wrong : goal.returns-in-Err-Wrong-clause-wrong
returns-in-Err-Wrong-clause-wrong c = λ fault is. c.in-Err-Wrong.ensures.wrong fault (let same : c.in-Err-Wrong.fault ≡ fault = cc in cc)

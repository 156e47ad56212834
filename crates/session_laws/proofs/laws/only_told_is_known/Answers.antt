use Rattle.session_laws.proofs.Acknowledged.{only_told}
use Rattle.session_laws.proofs.laws.only_told_is_known.Goals as goal

pub returns : goal.returns
returns c = λ sending. only_told sending.settings sending.proto sending.whole

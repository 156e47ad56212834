use Rattle.http_edge.proofs.OpenBodyLaws.{faults_stay}
use Rattle.http_edge.proofs.laws.faults_stay.Goals as goal

pub returns : goal.returns
returns c = faults_stay

-- serve_laws/proofs/laws/disk_faults_are_counted/Answers.antt
use Rattle.serve_laws.proofs.Runs.{disk_faults_are_counted}
use Rattle.serve_laws.proofs.laws.disk_faults_are_counted.Goals as goal

pub returns : goal.returns
returns g c = disk_faults_are_counted _ _ _ _

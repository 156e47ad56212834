-- serve_laws/proofs/laws/connections_contribute/Answers.antt
use Rattle.serve_laws.proofs.Runs.{connections_contribute}
use Rattle.serve_laws.proofs.laws.connections_contribute.Goals as goal

pub returns : goal.returns
returns g c = connections_contribute _ _ _ _

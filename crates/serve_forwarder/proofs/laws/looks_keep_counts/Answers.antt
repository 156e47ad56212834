use Rattle.serve_forwarder.proofs.Chain.{looks_keep_counts}
use Rattle.serve_forwarder.proofs.laws.looks_keep_counts.Goals as goal

pub returns : goal.returns
returns g c = looks_keep_counts g.S.Seat.start

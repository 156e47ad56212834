use Rattle.serve_forwarder.proofs.Chain.{looks_bind_none}
use Rattle.serve_forwarder.proofs.laws.looks_bind_none.Goals as goal

pub returns : goal.returns
returns g c = looks_bind_none g.S.Seat.start

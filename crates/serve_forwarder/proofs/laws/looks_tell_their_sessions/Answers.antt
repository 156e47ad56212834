use Rattle.serve_forwarder.proofs.Chain.{looks_are_told}
use Rattle.serve_forwarder.proofs.laws.looks_tell_their_sessions.Goals as goal

pub returns : goal.returns
returns g c = looks_are_told g.S.Seat.start

use Rattle.serve_forwarder.proofs.Chain.{looks_are_ran}
use Rattle.serve_forwarder.proofs.laws.looks_are_of_their_calls.Goals as goal

pub returns : goal.returns
returns g c = looks_are_ran g.S.Seat.start

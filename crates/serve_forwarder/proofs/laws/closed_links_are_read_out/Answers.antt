use Rattle.serve_forwarder.proofs.Chain.{closed_is_read_out}
use Rattle.serve_forwarder.proofs.laws.closed_links_are_read_out.Goals as goal

pub returns : goal.returns
returns g c outward upto place = closed_is_read_out g.S.Seat.start outward upto place

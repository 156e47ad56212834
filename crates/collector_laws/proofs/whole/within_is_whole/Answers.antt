-- Bodies, and requests.
use Rattle.collector_laws.proofs.Bodies.{chunked_whole, request_whole, sized_whole}
use Rattle.collector_laws.proofs.whole.within_is_whole.Goals as goal

pub returns : goal.returns
returns c = record { sized = sized_whole; chunked = chunked_whole; request = request_whole }

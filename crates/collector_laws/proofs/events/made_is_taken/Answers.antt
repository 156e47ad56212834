-- One object, what was taken, and whole requests.
use Rattle.collector_laws.proofs.Made.{mapped_taken, others_refused}
use Rattle.collector_laws.proofs.Requests.{fitting_one, kept_taken, request_refused, request_taken}
use Rattle.collector_laws.proofs.Small.{few_short}
use Rattle.collector_laws.proofs.events.made_is_taken.Goals as goal

pub returns : goal.returns
returns c = record { taken = mapped_taken; few = few_short; refused = others_refused; kept = kept_taken; fits = fitting_one; request = request_taken; first = request_refused }

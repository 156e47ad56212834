-- Events, and queries.
use Rattle.collector_laws.proofs.Stored.{posted_stored, query_asked}
use Rattle.collector_laws.proofs.answers.posted_is_stored.Goals as goal

pub returns : goal.returns
returns c = record { events = posted_stored; asks = query_asked }

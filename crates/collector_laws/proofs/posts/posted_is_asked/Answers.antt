-- The terms, the tasks and the query.
use Rattle.collector_laws.proofs.Queries.{query_asks}
use Rattle.collector_laws.proofs.Tasks.{events_stored, queries_asked, terms_found}
use Rattle.collector_laws.proofs.posts.posted_is_asked.Goals as goal

pub returns : goal.returns
returns c = record { terms = terms_found; events = events_stored; asks = queries_asked; query = query_asks }

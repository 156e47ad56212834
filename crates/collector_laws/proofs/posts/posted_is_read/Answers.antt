-- For what a window holds, and for bytes.
use Rattle.std.proofs.Common.{◌≡◌, []}
use Rattle.collector_laws.proofs.Reading.{bytes_read, parts_read, queries_are, reads_first, requests_are}
use Rattle.collector_laws.proofs.Session.{session_posts}
use Rattle.collector_laws.proofs.Spelling.{posted_spells}
use Rattle.collector_laws.proofs.posts.posted_is_read.Goals as goal

pub returns : goal.returns
returns c = record { requests = requests_are; queries = queries_are; spells = posted_spells; window = parts_read; bytes = bytes_read (λ rest held. held ≡ []); first = reads_first; session = session_posts }

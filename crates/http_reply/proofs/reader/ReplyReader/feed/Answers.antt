-- What the reader holds after a piece.
use Rattle.std.proofs.Common.{◌∙◌, ap, sym}
use Rattle.http_reply.specs.Reading.{Reading}
use Rattle.http_reply.proofs.FeedLaws.{feeds_faulty}
use Rattle.http_reply.proofs.reader.ReplyReader.feed.Goals as goal

pub returns-in-Some-clause-feeds : goal.returns-in-Some-clause-feeds
returns-in-Some-clause-feeds c = feeds_faulty c.args.self.now c.args.piece.now c.in-Some.fault (sym (ap (λ (r : Reading). r.fault) c.self.view_is) ∙ c.in-Some.is)

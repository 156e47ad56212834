use Rattle.std.specs.Prelude.{◌-◌, length, drop}
use Rattle.http_reply.specs.ReplyStream.{AreReplies}
use Rattle.http_reply.proofs.scan.scan.Given as goal

abbrev pub invariant-replies : goal.invariant-replies
invariant-replies l = AreReplies l.base l.buf l.replies.items l.from (drop l.from l.buf)

abbrev pub decreases-replies : goal.decreases-replies
decreases-replies l = length l.buf - l.from

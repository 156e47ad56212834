use Rattle.std.proofs.Common.{append_assoc}
use Rattle.http_edge.proofs.reply.reply_head.Goals as goal

pub returns : goal.returns
returns c = simp append_assoc (rw (← c.reason_of-reason.ensures, ← c.connection-ending.ensures) c.format.ensures.ok)

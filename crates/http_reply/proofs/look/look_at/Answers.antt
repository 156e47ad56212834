-- What stands at the front of the bytes of a reply.
use Rattle.std.proofs.Common.{◌∙◌, subst, arith}
use Rattle.std.proofs.lemmas.List.{take_all}
use Rattle.http_reply.specs.Heads.{IsOpenHead}
use Rattle.http_reply.proofs.look.look_at.Goals as goal

pub returns-then-buf-lt-MOST_HEAD : goal.returns-then-buf-lt-MOST_HEAD
returns-then-buf-lt-MOST_HEAD c =
    let t = c.if-buf-lt-MOST_HEAD.true in
    (t, subst IsOpenHead (c.front-window.ensures.front ∙ take_all 16384 c.args.buf.now (omega (arith, t))) c.in-Open.ensures)

pub returns-in-Whole : goal.returns-in-Whole
returns-in-Whole c = c.whole_head.ensures c.args.buf.now c.front-window.ensures.front

-- What contracts see of a body that is read past.
use Rattle.std.proofs.Common.{◌≡◌, ◌+◌, ◌≤◌, ◌^◌, length, sym, subst}
use Rattle.std.specs.Prelude.{IfOk, OnErr}
use Rattle.http_edge.specs.declared.past.Past.{Past}
use Rattle.http_edge.specs.Past.{Passes, come_to}
use Rattle.http_edge.proofs.past_body.PastBody.feed.Goals as goal

pub read-requires-clause-room : goal.read-requires-clause-room
read-requires-clause-room c = subst (λ (p : Past). come_to p + length c.args.piece.now ≤ 2 ^ 40) (sym c.self.view_is) c.requires

pub returns-clause-passes : goal.returns-clause-passes
returns-clause-passes c = subst (λ (p : Past). IfOk c.read.result (λ way. Passes p c.args.piece.now way c.read.new.self)) c.self.view_is c.read.ensures.passes

pub returns-clause-stays : goal.returns-clause-stays
returns-clause-stays c = subst (λ (p : Past). OnErr c.read.result (c.read.new.self ≡ p)) c.self.view_is c.read.ensures.stays

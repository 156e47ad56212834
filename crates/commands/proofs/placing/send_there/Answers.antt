use Rattle.std.proofs.Common.{inr}
use Rattle.spool_log.specs.Memory.{cursor_of, end_of}
use Rattle.forward_core.proofs.Exchanging.{is_new}
use Rattle.commands.proofs.Forwarding.{not_idle}
use Rattle.commands.proofs.Hanging.{over_from}
use Rattle.commands.proofs.Releasing.{received_as}
use Rattle.commands.proofs.placing.send_there.Goals as goal

pub send_over-requires-clause-releases : goal.send_over-requires-clause-releases
send_over-requires-clause-releases g c = λ disk n received. c.requires.releases disk n (received_as c.args.outward.now _ _ _ n
    (λ bytes text over. record { new = c.in-Ok.link; is_new = is_new _ _ _ _ _ _ c.in-Ok.ensures.place c.in-Ok.ensures.fresh; since = over }) received)

pub returns-in-Ok-clause-placed : goal.returns-in-Ok-clause-placed
returns-in-Ok-clause-placed g c = inr (
  not_idle c.is_idle.result (end_of c.args.spool.memory) (cursor_of c.args.spool.memory) c.is_idle.ensures c.if-is_idle.false,
  inr (record {
    new = _;
    place_is = c.in-Ok.ensures.place;
    fresh = c.in-Ok.ensures.fresh;
    over = over_from c.args.outward.now _ _ _ _ _ _ _ _ _ c.in-Ok.ensures.rest.hung c.send_over.ensures.sent;
  }),
)

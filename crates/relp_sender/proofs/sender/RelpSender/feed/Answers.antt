use Rattle.std.specs.Prelude.{Err}
use Rattle.event_form.specs.declared.feed_fault.FeedFault.TheVariants.{Fault}
use Rattle.relp_frame.specs.Reading.{Feeds}
use Rattle.relp_sender.specs.contracts.sender.RelpSender.{the_view}
use Rattle.relp_sender.proofs.Giving.{sends_fed}
use Rattle.relp_sender.proofs.sender.RelpSender.feed.Goals as goal

pub returns-in-Ok-clause-sends : goal.returns-in-Ok-clause-sends
returns-in-Ok-clause-sends c = λ h was. sends_fed (the_view c.self.inside) c.feed.new.self c.args.piece.now c.in-Ok.ensures.feeds.1 h (rw (← c.self.view_is) at was)

pub returns-in-Err-Fault-clause-sends : goal.returns-in-Err-Fault-clause-sends
returns-in-Err-Fault-clause-sends c = λ h was.
    let e : Feeds c.self.inside.reader c.args.piece.now (Err (Fault c.in-Err-Fault.fault)) c.feed.new.self = rw c.in-Err-Fault.field-0-is at c.in-Err-Fault.ensures.feeds in
    sends_fed (the_view c.self.inside) c.feed.new.self c.args.piece.now e.1 h (rw (← c.self.view_is) at was)

use Rattle.std.proofs.Common.{◌≡◌, ◌∙◌, refl, sym}
use Rattle.std.specs.Prelude.{Option, Some, None, Err}
use Rattle.http_edge.specs.declared.fault.HttpFault.{HttpFault}
use Rattle.event_form.specs.declared.feed_fault.FeedFault.TheVariants.{Fault}
use Rattle.http_reply.specs.Reading.{Feeds}
use Rattle.hec_sender.specs.View.{sender_of}
use Rattle.hec_sender.proofs.Giving.{keeps_fed, sends_fed}
use Rattle.hec_sender.proofs.sender.HecSender.feed.Goals as goal

-- a reader that took a piece had no fault
same_fault : (old new kept : Option HttpFault) → kept ≡ old → new ≡ None → ((e : HttpFault) → old ≡ Some e → ⊥) → kept ≡ new
same_fault None new kept is none clean = is ∙ sym none
same_fault (Some e) new kept is none clean = absurd (clean e refl)

pub invariant_of-self : goal.invariant_of-self
invariant_of-self c =
    let s = sender_of c.self.inside in
    let i = c.self.invariant in
    record {
      keeps = keeps_fed s c.feed.new.self i.keeps;
      fault = same_fault s.reader.fault c.feed.new.self.fault c.self.inside.fault i.fault c.in-Ok.ensures.feeds.0 (λ e is. let never = (c.in-Ok.ensures.stays e is).0 in cc);
      size = i.size;
      within = i.within;
    }

pub invariant_of-self-in-Err-Fault : goal.invariant_of-self-in-Err-Fault
invariant_of-self-in-Err-Fault c =
    let s = sender_of c.self.inside in
    let i = c.self.invariant in
    let e : Feeds s.reader c.args.piece.now (Err (Fault c.in-Err-Fault.fault)) c.feed.new.self = rw c.in-Err-Fault.field-0-is at c.in-Err-Fault.ensures.feeds in
    record { keeps = keeps_fed s c.feed.new.self i.keeps; fault = sym e.0; size = i.size; within = i.within }

pub returns-in-Ok-clause-sends : goal.returns-in-Ok-clause-sends
returns-in-Ok-clause-sends c = λ h g.
    sends_fed (sender_of c.self.inside) c.feed.new.self c.args.piece.now c.in-Ok.ensures.feeds.1 h (rw (← c.self.view_is) at g)

pub returns-in-Err-Fault-clause-sends : goal.returns-in-Err-Fault-clause-sends
returns-in-Err-Fault-clause-sends c = λ h g.
    let s = sender_of c.self.inside in
    let e : Feeds s.reader c.args.piece.now (Err (Fault c.in-Err-Fault.fault)) c.feed.new.self = rw c.in-Err-Fault.field-0-is at c.in-Err-Fault.ensures.feeds in
    sends_fed s c.feed.new.self c.args.piece.now e.1 h (rw (← c.self.view_is) at g)

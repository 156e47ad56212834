use Rattle.std.proofs.Common.{sym, subst}
use Rattle.event_form.specs.declared.turn.Turn.{Turn}
use Rattle.hec_sender.specs.Sender.{Sender}
use Rattle.hec_sender.specs.Hearing.{StopsSo, stopped}
use Rattle.hec_sender.specs.Turns.{Acts, ending_of}
use Rattle.hec_sender.specs.View.{sender_of}
use Rattle.hec_sender.proofs.Hears.{act_stopping, keeps_stopping}
use Rattle.hec_sender.proofs.Taking.{Took, took, same_fault}
use Rattle.hec_sender.proofs.sender.HecSender.end_by.Goals as goal

pub invariant_of-self : goal.invariant_of-self
invariant_of-self c =
    let s = sender_of c.self.inside in
    let i = c.self.invariant in
    let r = c.take-reply.new.self in
    let e = c.take-reply.ensures in
    let x : StopsSo s c.args.stop = rw (← c.self.view_is) at c.requires in
    let t : Took s.reader x.hears.reply r = took s.reader r c.take-reply.result x.hears.reply x.hears.more x.hears.next e.gives e.none e.same e.reads in
    record {
      keeps = keeps_stopping s c.args.stop r i.keeps x;
      fault = same_fault s.reader r x.hears.reply c.self.inside.fault t i.fault;
      size = i.size;
      within = i.within;
    }

pub returns : goal.returns
returns c =
    let s = sender_of c.self.inside in
    let how = c.args.stop in
    let r = c.take-reply.new.self in
    let e = c.take-reply.ensures in
    let x : StopsSo s how = rw (← c.self.view_is) at c.requires in
    let t : Took s.reader x.hears.reply r = took s.reader r c.take-reply.result x.hears.reply x.hears.more x.hears.next e.gives e.none e.same e.reads in
    let acts : Acts s (ending_of how) (stopped s r how) = act_stopping s how r c.self.invariant.keeps x t in
    subst (λ (turn : Turn). Acts c.args.self.now turn (stopped s r how)) (sym c.turn.ensures) (subst (λ (y : Sender). Acts y (ending_of how) (stopped s r how)) c.self.view_is acts)

use Rattle.std.proofs.Common.{◌∙◌, List, [], ◌<◌, ◌≤◌, length, false, refl, ap, subst, arith}
use Rattle.event_form.specs.declared.event.Entry.{Entry}
use Rattle.lumber_sender.specs.Sender.{MayFollow, Sender, given, extent}
use Rattle.lumber_sender.specs.Sends.{History, Sends, SendsOn}
use Rattle.event_form.specs.Turn.{text_of}
use Rattle.lumber_sender.specs.Turns.{IsFor, TellsSent, spent}
use Rattle.lumber_sender.specs.View.{sender_of}
use Rattle.lumber_sender.proofs.Writing.{sends_told, sends_then}
use Rattle.lumber_sender.proofs.Telling.{for_same, for_taken, writes_none}
use Rattle.lumber_sender.proofs.Sent.{sent_at}
use Rattle.lumber_sender.proofs.Whole.{text_at, whole_at, begins_at, tells_at, most_at, within_at, left_at, spent_at}
use Rattle.lumber_sender.proofs.sender.LumberSender.turn.Goals as goal

pub loop-init : goal.loop-init
loop-init c =
    let s = sender_of c.self.inside in
    record {
      sends = λ h g. sends_told s s.told false h (rw (← c.self.view_is) at g);
      exactly = λ turn f. subst (λ (x : Sender). IsFor x turn) c.self.view_is (for_same s false turn f);
      asked = refl;
      written = (let all : length c.self.inside.batch.items ≤ c.self.inside.written = omega (arith, c.if-self-len.false, c.len.ensures, c.self.inside.batch.ok.0) in omega (arith, all, c.self.invariant.0.order));
      extent = ap extent c.self.view_is;
      spent = ap spent c.self.view_is;
      given = ap given c.self.view_is;
      first = ap (λ (x : Sender). x.first) c.self.view_is;
      told = ap (λ (x : Sender). x.told) c.self.view_is;
      finished = ap (λ (x : Sender). x.finished) c.self.view_is;
    }

pub loop-preserved : goal.loop-preserved
loop-preserved c =
    let inv = c.loop.invariant in
    let took = c.take_frame.ensures in
    let some : 0 < length c.loop.self.reader.waiting = let fewer = took.fewer c.loop-test.true in omega (arith, fewer) in
    record {
      sends = sends_then c.args.self.now c.loop.self c.take_frame.new.self [] [] inv.sends (took.sends c.loop-test.true);
      exactly = λ turn f. inv.exactly turn (for_taken c.loop.self turn (took.taken c.loop-test.true) some);
      asked = took.asked;
      written = took.written;
      extent = took.extent ∙ inv.extent;
      spent = took.spent ∙ inv.spent;
      given = took.given ∙ inv.given;
      first = took.first ∙ inv.first;
      told = took.told ∙ inv.told;
      finished = took.finished ∙ inv.finished;
    }

pub returns-clause-sends : goal.returns-clause-sends
returns-clause-sends c =
    let text = text_of c.act-turn.result in
    let same = (c.take_frame.ensures.none c.loop-test.false).0 in
    sends_then c.args.self.now c.loop.self c.act-turn.new.self [] text c.loop.invariant.sends (subst (λ (s : Sender). SendsOn s text c.act-turn.new.self) same c.act-turn.ensures.sends)

pub returns-clause-written : goal.returns-clause-written
returns-clause-written c = writes_none c.act-turn.result c.args.self.now c.act-turn.new.self c.act-turn.ensures.text c.act-turn.ensures.turn

pub returns-clause-begins : goal.returns-clause-begins
returns-clause-begins c = begins_at c.act-turn.new.self c.settle-2.ensures

pub returns-clause-whole : goal.returns-clause-whole
returns-clause-whole c = text_at c.act-turn.result c.act-turn.new.self c.settle-2.ensures c.act-turn.ensures.turn

pub returns-clause-all : goal.returns-clause-all
returns-clause-all c = whole_at c.act-turn.result c.act-turn.new.self c.settle-2.ensures c.act-turn.ensures.turn

pub returns-clause-known : goal.returns-clause-known
returns-clause-known c = tells_at c.act-turn.result c.act-turn.new.self c.settle-2.ensures c.act-turn.ensures.turn

pub returns-clause-most : goal.returns-clause-most
returns-clause-most c = most_at c.act-turn.new.self c.settle-2.ensures

pub returns-clause-within : goal.returns-clause-within
returns-clause-within c = within_at c.act-turn.new.self c.settle-2.ensures

pub returns-clause-left : goal.returns-clause-left
returns-clause-left c = left_at c.act-turn.result c.act-turn.new.self c.settle-2.ensures c.act-turn.ensures.turn

pub returns-clause-bound : goal.returns-clause-bound
returns-clause-bound c = spent_at c.act-turn.new.self c.settle-2.ensures

pub returns-then-self-len-clause-begins : goal.returns-then-self-len-clause-begins
returns-then-self-len-clause-begins c = begins_at c.write-turn.new.self c.settle.ensures

pub returns-clause-sent : goal.returns-clause-sent
returns-clause-sent c = sent_at c.act-turn.new.self c.settle-2.ensures

pub returns-clause-sent_before : goal.returns-clause-sent_before
returns-clause-sent_before c = subst (λ (s : Sender). (h : History) (more : List Entry) → Sends h s → MayFollow s more → TellsSent h more s) c.self.view_is (sent_at (sender_of c.self.inside) c.self.invariant.0)

pub returns-then-self-len-clause-sent : goal.returns-then-self-len-clause-sent
returns-then-self-len-clause-sent c = sent_at c.write-turn.new.self c.settle.ensures

pub returns-then-self-len-clause-sent_before : goal.returns-then-self-len-clause-sent_before
returns-then-self-len-clause-sent_before c = subst (λ (s : Sender). (h : History) (more : List Entry) → Sends h s → MayFollow s more → TellsSent h more s) c.self.view_is (sent_at (sender_of c.self.inside) c.self.invariant.0)

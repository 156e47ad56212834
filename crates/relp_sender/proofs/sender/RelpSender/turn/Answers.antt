use Rattle.std.proofs.Common.{◌≡◌, ◌∙◌, ◌≤◌, List, [], false, refl, ap, sym, subst, arith}
use Rattle.event_form.specs.declared.event.Entry.{Entry}
use Rattle.event_form.specs.Turn.{IsResting, text_of}
use Rattle.relp_sender.specs.declared.due.Due.TheVariants.{Hear}
use Rattle.relp_sender.specs.Due.{IsDue}
use Rattle.relp_sender.specs.Sender.{Sender, HasTold, given}
use Rattle.relp_sender.specs.Sends.{History, Sends, SendsOn}
use Rattle.relp_sender.specs.Spending.{spent}
use Rattle.relp_sender.specs.Turns.{Acts, Begins, Hears, IsFirstOf, Stays, TellsKnown, TellsSent, also_of}
use Rattle.relp_sender.specs.contracts.sender.RelpSender.{the_view}
use Rattle.relp_sender.proofs.Bounds.{most_at, within_at, left_at}
use Rattle.relp_sender.proofs.OneDue.{due_asked}
use Rattle.relp_sender.proofs.Sent.{sent_at}
use Rattle.relp_sender.proofs.Spending.{spent_most}
use Rattle.relp_sender.proofs.Taking.{spent_on}
use Rattle.relp_sender.proofs.Telling.{sends_told, sends_then, stays_then, suits_asked}
use Rattle.relp_sender.proofs.Whole.{whole_at, all_at, begins_at, done_at, tells_at}
use Rattle.relp_sender.proofs.sender.RelpSender.turn.Goals as goal

-- whether the last turn was Need doesn't change which frames are taken
heard_asked : (s : Sender) → Hears (record s { asked = false }) → Hears s
heard_asked s h = (due_asked Hear (record s { asked = false }) s.asked h.0, h.1)

pub loop-goes_on-init : goal.loop-goes_on-init
loop-goes_on-init c = let s = the_view c.self.inside in record {
  sends = λ h was. sends_told s s.told false h (rw (← c.self.view_is) at was);
  suits = suits_asked s _ false (rw (← c.self.view_is) at c.in_ok-next.ensures);
  still = λ not. (ap (λ (x : Sender). record x { asked = false }) c.self.view_is, refl);
  asked = refl;
  stays = subst (λ (x : Sender). Stays x (record s { asked = false })) c.self.view_is (record { finished = refl; first = refl; given = refl; reader = refl });
  told = ap (λ (x : Sender). x.told) c.self.view_is;
  raised = (let e = ap spent c.self.view_is in omega (arith, e));
  rests = λ told. ap spent c.self.view_is;
}

pub loop-goes_on-preserved : goal.loop-goes_on-preserved
loop-goes_on-preserved c = let inv = c.loop-goes_on.invariant in let old = c.args.self.now in record {
  sends = sends_then c.args.self.now c.loop-goes_on.self c.take_frame.new.self [] [] [] [] inv.sends (c.take_frame.ensures.sends c.loop-goes_on-test.true);
  suits = c.take_frame.ensures.suits _ inv.suits;
  still = λ not. absurd (let so = inv.still not in let hears = c.take_frame.ensures.hears c.loop-goes_on-test.true so.1 in not (heard_asked old (subst Hears so.0 hears)));
  asked = c.take_frame.ensures.asked;
  stays = stays_then old c.loop-goes_on.self c.take_frame.new.self inv.stays c.take_frame.ensures.stays;
  told = c.take_frame.ensures.told ∙ inv.told;
  raised = omega (arith, c.take_frame.ensures.spent, inv.raised);
  rests = λ told. (let was = c.take_frame.ensures.rests told in was.1 ∙ inv.rests was.0);
}

pub returns-clause-sends : goal.returns-clause-sends
returns-clause-sends c =
    let new = c.act-turn.new.self in
    let text = text_of c.act-turn.result in
    let inv = c.loop-goes_on.invariant in
    let same = (c.take_frame.ensures.none c.loop-goes_on-test.false).0 in
    let also = also_of c.args.self.now.first c.act-turn.result in
    let acted = subst (λ (s : Sender). SendsOn s text (also_of s.first c.act-turn.result) new) same c.act-turn.ensures.sends in
    let first : c.loop-goes_on.self.first ≡ c.args.self.now.first = inv.stays.first in
    sends_then c.args.self.now c.loop-goes_on.self new [] text [] also inv.sends (subst (λ n. SendsOn c.loop-goes_on.self text (also_of n c.act-turn.result) new) first acted)

pub returns-clause-stays : goal.returns-clause-stays
returns-clause-stays c =
    let same = (c.take_frame.ensures.none c.loop-goes_on-test.false).0 in
    stays_then c.args.self.now c.loop-goes_on.self c.act-turn.new.self c.loop-goes_on.invariant.stays (subst (λ (s : Sender). Stays s c.act-turn.new.self) same c.act-turn.ensures.stays)

pub returns-clause-acts : goal.returns-clause-acts
returns-clause-acts c = λ due is not.
    let old = c.args.self.now in
    let same = (c.take_frame.ensures.none c.loop-goes_on-test.false).0 ∙ (c.loop-goes_on.invariant.still not).0 in
    let before : Sender = record old { asked = false } in
    let acts = c.act-turn.ensures.acts due (subst (IsDue due) (sym same) (due_asked due old false is)) in
    subst (λ (s : Sender). Acts due s c.act-turn.result c.act-turn.new.self) same acts

pub returns-clause-known : goal.returns-clause-known
returns-clause-known c = λ told. tells_at c.act-turn.result c.act-turn.new.self c.settle.ensures c.act-turn.ensures.turn told

pub returns-clause-begins : goal.returns-clause-begins
returns-clause-begins c = begins_at c.act-turn.new.self c.settle.ensures

pub returns-clause-most : goal.returns-clause-most
returns-clause-most c = most_at c.act-turn.new.self c.settle.ensures

pub returns-clause-within : goal.returns-clause-within
returns-clause-within c = within_at c.act-turn.new.self c.settle.ensures

pub returns-clause-bound : goal.returns-clause-bound
returns-clause-bound c = spent_most c.act-turn.new.self

pub returns-clause-left : goal.returns-clause-left
returns-clause-left c = left_at c.act-turn.result c.act-turn.new.self c.settle.ensures c.act-turn.ensures.turn

pub returns-clause-spent : goal.returns-clause-spent
returns-clause-spent c =
    let old = c.args.self.now in
    let mid = c.take_frame.new.self in
    let inv = c.loop-goes_on.invariant in
    let same : mid ≡ c.loop-goes_on.self = (c.take_frame.ensures.none c.loop-goes_on-test.false).0 in
    let more : spent old ≤ spent mid = subst (λ (s : Sender). spent old ≤ spent s) (sym same) inv.raised in
    let rests : IsResting c.act-turn.result → spent mid ≡ spent old = λ rest. ap spent same ∙ inv.rests (subst HasTold same (c.act-turn.ensures.rests rest)) in
    spent_on c.act-turn.result c.act-turn.new.self (spent old) (spent mid) (spent c.act-turn.new.self) c.act-turn.ensures.turn more rests c.act-turn.ensures.spent

pub returns-in_err-next-clause-begins : goal.returns-in_err-next-clause-begins
returns-in_err-next-clause-begins c = subst (λ (s : Sender). (h : History) (more : List Entry) → Sends h s → IsFirstOf s more → Begins h more) c.self.view_is (begins_at (the_view c.self.inside) c.self.invariant.0)

pub returns-in_err-next-clause-most : goal.returns-in_err-next-clause-most
returns-in_err-next-clause-most c = subst (λ (s : Sender). (h : History) → Sends h s → TellsKnown h s) c.self.view_is (most_at (the_view c.self.inside) c.self.invariant.0)

pub returns-in_err-next-clause-within : goal.returns-in_err-next-clause-within
returns-in_err-next-clause-within c = subst (λ (s : Sender). s.told ≤ given s) c.self.view_is (within_at (the_view c.self.inside) c.self.invariant.0)

pub returns-in_err-next-clause-bound : goal.returns-in_err-next-clause-bound
returns-in_err-next-clause-bound c = spent_most c.args.self.now

pub returns-clause-whole : goal.returns-clause-whole
returns-clause-whole c = λ rests. whole_at c.act-turn.result c.act-turn.new.self c.settle.ensures c.act-turn.ensures.turn rests

pub returns-clause-all : goal.returns-clause-all
returns-clause-all c = λ rests not. all_at c.act-turn.result c.act-turn.new.self c.settle.ensures c.act-turn.ensures.turn rests not

pub returns-clause-done : goal.returns-clause-done
returns-clause-done c = done_at c.act-turn.result c.act-turn.new.self c.settle.ensures c.act-turn.ensures.turn

pub returns-clause-sent : goal.returns-clause-sent
returns-clause-sent c = sent_at c.act-turn.new.self c.settle.ensures

pub returns-clause-sent_before : goal.returns-clause-sent_before
returns-clause-sent_before c = subst (λ (s : Sender). (h : History) (more : List Entry) → Sends h s → TellsSent h more s) c.self.view_is (sent_at (the_view c.self.inside) c.self.invariant.0)

pub returns-in_err-next-clause-sent : goal.returns-in_err-next-clause-sent
returns-in_err-next-clause-sent c = subst (λ (s : Sender). (h : History) (more : List Entry) → Sends h s → TellsSent h more s) c.self.view_is (sent_at (the_view c.self.inside) c.self.invariant.0)

pub returns-in_err-next-clause-sent_before : goal.returns-in_err-next-clause-sent_before
returns-in_err-next-clause-sent_before c = subst (λ (s : Sender). (h : History) (more : List Entry) → Sends h s → TellsSent h more s) c.self.view_is (sent_at (the_view c.self.inside) c.self.invariant.0)

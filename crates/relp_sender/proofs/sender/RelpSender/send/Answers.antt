use Rattle.std.proofs.Common.{◌≡◌, ◌∙◌, ◌<◌, ℕ, [], length, ap, sym, subst, arith}
use Rattle.relp_sender.specs.Sender.{Sender, wrote}
use Rattle.relp_sender.specs.Sends.{SendsOn}
use Rattle.relp_sender.specs.Spending.{spent}
use Rattle.relp_sender.specs.Turns.{IsJoint}
use Rattle.event_form.specs.declared.turn.Turn.TheVariants.{Write}
use Rattle.relp_sender.proofs.Joining.{joint_wrote, length-wrote, sends_joined, spent_wrote, wrote_next, wrote_none}
use Rattle.relp_sender.proofs.Writing.{may_open}
use Rattle.relp_sender.proofs.sender.RelpSender.send.Goals as goal

pub loop-written-init : goal.loop-written-init
loop-written-init c = record { in_range = omega arith; is = sym (wrote_none c.args.self.now) }

pub loop-written-preserved : goal.loop-written-preserved
loop-written-preserved c =
    record {
      in_range = omega arith;
      is = c.advance.ensures ∙ ap (wrote 1) c.loop-written.invariant.is ∙ wrote_next c.loop-written.written c.args.self.now;
    }

pub advance-requires-clause-room : goal.advance-requires-clause-room
advance-requires-clause-room c =
    let s = c.args.self.now in
    let k = c.loop-written.written in
    subst (λ (t : Sender). length t.unanswered < 1024) (sym c.loop-written.invariant.is) (omega (arith, length-wrote k s, c.requires.next.1.room, c.loop-written-test.true))

pub returns-clause-sends : goal.returns-clause-sends
returns-clause-sends c =
    let s = c.args.self.now in
    let n = c.args.joined.count in
    let all : c.loop-written.written ≡ n = omega (arith, c.loop-written.invariant.in_range, c.loop-written-test.false) in
    let is : c.loop-written.self ≡ wrote n s = c.loop-written.invariant.is ∙ ap (λ (k : ℕ). wrote k s) all in
    subst (SendsOn s c.args.joined.text []) (sym is) (sends_joined n s c.args.joined.text (may_open s.stage s c.requires.next.0 c.requires.due.2) c.requires.next.1)

pub returns-clause-joint : goal.returns-clause-joint
returns-clause-joint c =
    let s = c.args.self.now in
    let n = c.args.joined.count in
    let all : c.loop-written.written ≡ n = omega (arith, c.loop-written.invariant.in_range, c.loop-written-test.false) in
    let is : c.loop-written.self ≡ wrote n s = c.loop-written.invariant.is ∙ ap (λ (k : ℕ). wrote k s) all in
    subst (IsJoint (Write c.args.joined.text)) (sym is) (λ _. joint_wrote n s c.args.joined.text c.requires.next.1)

pub returns-clause-spent : goal.returns-clause-spent
returns-clause-spent c =
    let s = c.args.self.now in
    let n = c.args.joined.count in
    let all : c.loop-written.written ≡ n = omega (arith, c.loop-written.invariant.in_range, c.loop-written-test.false) in
    let is : c.loop-written.self ≡ wrote n s = c.loop-written.invariant.is ∙ ap (λ (k : ℕ). wrote k s) all in
    subst (λ (t : Sender). spent s < spent t) (sym is) (spent_wrote n s c.requires.next.1.some c.requires.next.1.room c.requires.due.1)

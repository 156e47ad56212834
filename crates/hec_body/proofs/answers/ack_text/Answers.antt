use Rattle.std.proofs.Common.{rules, Vec, Global, ◌≡◌, false, ℕ, ◌++◌, codes, ◌∙◌, ap, arith}
use Rattle.hec_body.proofs.Answered.{member_at, one_more, first_one, answer_built, answer_short, fit_each}
use Rattle.hec_body.proofs.answers.ack_text.Goals as goal
use Rattle.hec_body.proofs.answers.ack_text.Goals.{then-i-gt0+in_ok-push, else-i-gt0}

pub loop-i-preserved : goal.loop-i-preserved
loop-i-preserved c =
    let ids = c.args.ids.now in
    let known = c.args.known.now in
    let written : c.extend_from_slice.new.self.items ≡ c.if-i-gt0.text.items ++ member_at c.loop-i.i ids known (0, false) = search rules in
    elim c.if-i-gt0.branch [
      | then-i-gt0+in_ok-push w ↦
          one_more (codes "{\"acks\":{") c.loop-i.text.items c.if-i-gt0.text.items c.extend_from_slice.new.self.items c.loop-i.i ids known (0, false) c.loop-i-test.true c.requires w.if-i-gt0.true
          c.loop-i.invariant (ap (λ (v : Vec ℕ Global). v.items) w.text-is ∙ w.in_ok-push.ensures.items) written
      | else-i-gt0 w ↦
          first_one (codes "{\"acks\":{") c.loop-i.text.items c.extend_from_slice.new.self.items c.loop-i.i ids known (0, false) c.loop-i-test.true c.requires w.if-i-gt0.false
          c.loop-i.invariant (written ∙ ap (λ (v : Vec ℕ Global). v.items ++ member_at c.loop-i.i ids known (0, false)) w.text-is)
    ]

pub returns-clause-text : goal.returns-clause-text
returns-clause-text c =
    answer_built c.loop-i.text.items c.of.result c.loop-i.i c.args.ids.now c.args.known.now c.loop-i.invariant c.loop-i-test.false (omega (arith, c.loop-i.auto.i-end)) c.requires (c.of.ensures ∙ c.in_ok-extend_from_slice-2.ensures.items)

pub returns-clause-short : goal.returns-clause-short
returns-clause-short c =
    let ids = c.args.ids.now in
    let known = c.args.known.now in
    let text = answer_built c.loop-i.text.items c.of.result c.loop-i.i ids known c.loop-i.invariant c.loop-i-test.false (omega (arith, c.loop-i.auto.i-end)) c.requires (c.of.ensures ∙ c.in_ok-extend_from_slice-2.ensures.items) in
    rw text (answer_short ids known (fit_each ids (λ k within. omega (arith, c.type_inv.ids k))))

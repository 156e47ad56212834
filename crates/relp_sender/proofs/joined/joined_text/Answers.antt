use Rattle.std.proofs.Common.{◌≡◌, ◌∙◌, inl, inr, ℕ, zero, suc, ◌+◌, ◌<◌, ◌≤◌, List, [], ◌++◌, length, take, ap, sym, arith}
use Rattle.relp_sender.specs.Texts.{event_text, frames_text}
use Rattle.relp_sender.proofs.TextLaws.{frames_next}
use Rattle.relp_sender.proofs.joined.joined_text.Goals as goal

none_yet : (k : ℕ) (out : List ℕ) → (0 < k → 0 < length out) → out ≡ [] → k + 1 ≤ 1
none_yet zero out some is = omega arith
none_yet (suc k) out some is = absurd (omega (arith, some (omega arith), ap length is))

pub loop-count-preserved : goal.loop-count-preserved
loop-count-preserved c =
    let es = c.args.entries.now.items in
    let place = c.args.place in
    let k = c.loop-count.count in
    let e = c.in-Some.entry.now in
    let inv = c.loop-count.invariant in
    let lt : k < length es = omega (arith, c.loop-count-test.true, c.requires.few) in
    let next : suc k ≡ k + 1 = omega arith in
    record {
      text = c.in_ok-joined.ensures.joined c.if-not-joined.false ∙ ap (λ (l : List ℕ). l ++ event_text (place + k) e.event) inv.text
          ∙ sym (frames_next es place k e lt c.in-Some.ensures.lookup) ∙ ap (λ (n : ℕ). frames_text place (take n es)) next;
      bytes = λ _. c.in_ok-joined.ensures.some c.if-not-joined.false;
      bound = elim (c.in_ok-joined.ensures.bound c.if-not-joined.false) [ inl none ↦ inl (none_yet k c.loop-count.out.items inv.bytes none) | inr few ↦ inr few ];
    }

use Rattle.std.proofs.Common.{ℕ, List, ◌++◌, reverse, refl, sym, ap, ◌∙◌, arith, eqb-true}
use Rattle.std.specs.Vec.{vec_len}
use Rattle.std.proofs.lemmas.List.{append-nil, nil_from_length, reverse-reverse}
use Rattle.spool_turns.proofs.turn.Turn.answer_all.Goals as goal

pub loop-self-init : goal.loop-self-init
loop-self-init g c =
    let r = c.reverse.ensures in
    let answers = c.args.answers.now.items in (
      ap (λ (l : List ℕ). answers ++ reverse l) r.items ∙ ap (λ (l : List ℕ). answers ++ l) (reverse-reverse c.args.letters.now.items),
      omega (arith, c.requires.room, r.len),
      refl,
      r.capacity,
    )

pub answer_last-requires-clause-room : goal.answer_last-requires-clause-room
answer_last-requires-clause-room g c = c.loop-self.invariant.1

pub loop-self-smaller : goal.loop-self-smaller
loop-self-smaller g c = c.answer_last.ensures.fewer

pub loop-self-preserved : goal.loop-self-preserved
loop-self-preserved g c =
    let i = c.loop-self.invariant in
    let a = c.answer_last.ensures in
    (a.answers ∙ i.0, a.room, a.capacity.0 ∙ i.2, a.capacity.1 ∙ i.3)

pub returns-clause-answers : goal.returns-clause-answers
returns-clause-answers g c =
    let none = nil_from_length c.loop-self.letters.items (sym c.loop-self.letters.ok.0 ∙ eqb-true (vec_len c.loop-self.letters) 0 (sym c.is_empty.ensures ∙ c.loop-self-test.false)) in
    sym (append-nil c.loop-self.answers.items) ∙ ap (λ (l : List ℕ). c.loop-self.answers.items ++ reverse l) (sym none) ∙ c.loop-self.invariant.0

pub returns-clause-capacity : goal.returns-clause-capacity
returns-clause-capacity g c = (c.loop-self.invariant.2, c.loop-self.invariant.3)

use Rattle.std.proofs.Common.{ℕ, ◌+◌, ◌<◌, ◌≤◌, arith, sym}
use Rattle.std.proofs.lemmas.List.Elements.{All-head, All-rest, All-same, All-set}
use Rattle.known_numbers.specs.declared.stretch.Stretch.{Stretch}
use Rattle.forward_core.proofs.course.Course.tell_next.Goals as goal

pub invariant_of-self-clause-small : goal.invariant_of-self-clause-small
invariant_of-self-clause-small c =
    let old = c.args.self.now in
    All-rest (λ (n : ℕ). n < old.end) c.in-Some.number c.pop_front.new.self.items old.numbers.items c.in-Some.ensures.items old.small

pub invariant_of-self-clause-ordered : goal.invariant_of-self-clause-ordered
invariant_of-self-clause-ordered c =
    let old = c.args.self.now in
    let front : Stretch = record { from = 0; to = c.in-Some.number + 1 } in
    All-set (λ (s : Stretch). s.from ≤ s.to) old.marks.items 0 front (omega arith) old.ordered

pub invariant_of-self-clause-within : goal.invariant_of-self-clause-within
invariant_of-self-clause-within c =
    let old = c.args.self.now in
    let front : Stretch = record { from = 0; to = c.in-Some.number + 1 } in
    let P : ℕ → Type 0 = λ n. n < old.end in
    let less : c.in-Some.number < old.end = All-head P c.in-Some.number c.pop_front.new.self.items (All-same P _ _ (sym c.in-Some.ensures.items) old.small) in
    All-set (λ (s : Stretch). s.to ≤ old.end) old.marks.items 0 front (omega (arith, less)) old.within

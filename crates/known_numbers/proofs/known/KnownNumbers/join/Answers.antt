use Rattle.std.proofs.Common.{◌≡◌, subst, arith}
use Rattle.known_numbers.specs.Numbers.{Numbers, numbers_of, fitting, joined}
use Rattle.known_numbers.proofs.Raising.{apart_lower}
use Rattle.known_numbers.proofs.Placing.{is_joined_low, is_joined_high}
use Rattle.known_numbers.proofs.known.KnownNumbers.join.Goals as goal

pub invariant_of-self : goal.invariant_of-self
invariant_of-self c =
    let one = is_joined_low (numbers_of c.self.inside.cursor c.self.inside.stretches.items) c.args.more c.max.result (numbers_of c.raise-self-inside.result c.raise-self-inside.new.stretches.items) c.self.invariant.0 (omega (arith, c.if-more.false)) (omega (arith, c.if-more-self.true)) c.max.ensures c.raise-self-inside.ensures.raised in
    (one.sound, omega (arith, c.self.invariant.1, c.raise-self-inside.ensures.room))

pub add-requires-clause-apart : goal.add-requires-clause-apart
add-requires-clause-apart c = apart_lower 0 c.self.inside.cursor c.self.inside.stretches.items (omega arith) c.self.invariant.0.apart

pub invariant_of-self-else-more-self : goal.invariant_of-self-else-more-self
invariant_of-self-else-more-self c =
    let one = is_joined_high (numbers_of c.self.inside.cursor c.self.inside.stretches.items) c.args.more c.add.new.stretches.items c.self.invariant.0 (omega (arith, c.if-more.false)) (omega (arith, c.if-more-self.false)) c.add.ensures.added in
    (one.sound, omega (arith, c.self.invariant.1, c.add.ensures.room))

pub returns-then-more-self : goal.returns-then-more-self
returns-then-more-self c =
    let one = is_joined_low (numbers_of c.self.inside.cursor c.self.inside.stretches.items) c.args.more c.max.result (numbers_of c.raise-self-inside.result c.raise-self-inside.new.stretches.items) c.self.invariant.0 (omega (arith, c.if-more.false)) (omega (arith, c.if-more-self.true)) c.max.ensures c.raise-self-inside.ensures.raised in
    subst (λ (x : Numbers). numbers_of c.raise-self-inside.result c.raise-self-inside.new.stretches.items ≡ fitting (joined x c.args.more) x) c.self.view_is one.is

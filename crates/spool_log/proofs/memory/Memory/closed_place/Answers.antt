use Rattle.std.proofs.Common.{sym, ◌∙◌, arith}
use Rattle.spool_log.proofs.Changes.Lowest.{lowest_full, lowest_found, lowest_later, length-knows}
use Rattle.spool_log.proofs.memory.Memory.closed_place.Goals as goal

pub returns-then-len-self-clause-lowest : goal.returns-then-len-self-clause-lowest
returns-then-len-self-clause-lowest c = λ s knows sound. lowest_full s sound (omega (arith, length-knows s.size s.older c.args.self.now.older.items knows.older, knows.slots, c.if-len-self.true, c.len.ensures))

pub returns-then-not-is_taken-clause-lowest : goal.returns-then-not-is_taken-clause-lowest
returns-then-not-is_taken-clause-lowest c = λ s knows sound.
    let free = sym (c.is_taken.ensures s knows sound) ∙ c.if-not-is_taken.true in
    sym (lowest_later s c.loop-place.place c.loop-place.place (lowest_found s c.loop-place.place (c.loop-place.invariant s knows sound) free) s.slots (omega (arith, c.loop-place-test.true, knows.slots)))

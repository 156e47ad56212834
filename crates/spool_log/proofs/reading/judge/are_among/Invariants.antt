use Rattle.std.proofs.Common.{◌↔◌, drop}
use Rattle.known_numbers.specs.Numbers.{AreApart, EndBy}
use Rattle.spool_log.proofs.reading.judge.are_among.Given as goal

abbrev pub invariant-loop-stretch : goal.invariant-loop-stretch
invariant-loop-stretch l = (AreApart l.cursor l.known × EndBy l.end l.known) ↔ (AreApart l.below (drop l.stretch-index l.known) × EndBy l.end (drop l.stretch-index l.known))

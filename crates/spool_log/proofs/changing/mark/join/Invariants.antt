use Rattle.std.proofs.Common.{◌≡◌, ◌⊎◌, ◌<◌, ℕ, take, All}
use Rattle.known_numbers.specs.Numbers.{IsInSome, IsKnown, IsSound, marked}
use Rattle.spool_log.specs.Device.{numbers_in, MayFollow}
use Rattle.spool_answers.specs.Stages.{total_of}
use Rattle.spool_answers.specs.Mark.{EndsBy}
use Rattle.spool_log.proofs.changing.mark.join.Given as goal

abbrev pub invariant-loop-stretch : goal.invariant-loop-stretch
invariant-loop-stretch l = record {
  may : MayFollow l.content.cursor l.end l.numbers;
  joined : All (EndsBy l.end) l.more → l.numbers ≡ marked (numbers_in l.content) (take l.stretch-index l.more);
  sound : IsSound l.numbers;
  keeps : (n : ℕ) → IsKnown (numbers_in l.content) n → IsKnown l.numbers n;
  only : (n : ℕ) → IsKnown l.numbers n → IsKnown (numbers_in l.content) n ⊎ IsInSome (take l.stretch-index l.more) n;
  rises : (l.numbers ≡ numbers_in l.content) ⊎ (total_of (numbers_in l.content) < total_of l.numbers);
}

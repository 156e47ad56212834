-- The range lies in the second list, or in both.
use Rattle.std.proofs.Common.{arith}
use Rattle.std.proofs.lemmas.Grind.{common_steps}
use Rattle.foundation.proofs.Joined.{range_back, range_over}
use Rattle.foundation.proofs.range.copy_range.Goals as goal

pub returns-then-from-n : goal.returns-then-from-n
returns-then-from-n c = grind (arith, common_steps, range_back c.args.front.now c.args.back.now c.args.from c.args.to)

pub returns-in_ok-extend_from_slice : goal.returns-in_ok-extend_from_slice
returns-in_ok-extend_from_slice c = grind (arith, common_steps, range_over c.args.front.now c.args.back.now c.args.from c.args.to)

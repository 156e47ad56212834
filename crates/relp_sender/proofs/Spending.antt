-- How much may be spent.
use Rattle.std.proofs.Common.{◌+◌, ◌*◌, ◌≤◌, arith}
use Rattle.relp_sender.specs.declared.stage.Stage.{Stage}
use Rattle.relp_sender.specs.declared.stage.Stage.TheVariants.{Fresh, Opening, Open, Closed}
use Rattle.relp_sender.specs.Sender.{Sender, given}
use Rattle.relp_sender.specs.Spending.{rank, spent}

rank_most : (stage : Stage) → rank stage ≤ 2
rank_most Fresh = omega arith
rank_most Opening = omega arith
rank_most Open = omega arith
rank_most Closed = omega arith

pub spent_most : (s : Sender) → spent s ≤ 2 * given s + 2050
spent_most s = omega (arith, rank_most s.stage)

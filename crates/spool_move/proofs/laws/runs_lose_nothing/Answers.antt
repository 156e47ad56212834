use Rattle.spool_move.proofs.Lasting.{lose_nothing, stand_once, move_all_there}
use Rattle.spool_move.proofs.laws.runs_lose_nothing.Goals as goal

pub returns : goal.returns
returns g c = record {
  nothing_lost = lose_nothing g.D.Disk.tells g.E.Disk.tells g.D.Disk.moment g.E.Disk.moment (λ tells x. g.met.D.Disk.lawful x tells) (λ tells y. g.met.E.Disk.lawful y tells);
  once = stand_once;
  all_moved = move_all_there g.D.Disk.tells g.E.Disk.tells g.D.Disk.moment g.E.Disk.moment (λ tells x. g.met.D.Disk.lawful x tells) (λ tells y. g.met.E.Disk.lawful y tells);
}

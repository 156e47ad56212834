use Rattle.std.proofs.Common.{refl}
use Rattle.conn_serve.proofs.lumberjack.act.stage.Goals as goal

pub returns-in_default : goal.returns-in_default
returns-in_default c =
    record {
      entries = tt;
      last = tt;
      limits = tt;
      commits = tt;
      err = refl;
    }

pub returns-then-is_err : goal.returns-then-is_err
returns-then-is_err c =
    record {
      entries = tt;
      last = tt;
      limits = tt;
      commits = tt;
      err = refl;
    }

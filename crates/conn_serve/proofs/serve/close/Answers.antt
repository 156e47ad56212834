use Rattle.std.proofs.Common.{refl, subst}
use Rattle.conn_serve.proofs.Faults.{counts_none, over_is_read, over_is_whole, counts_told, quiet_fine}
use Rattle.desk_access.specs.Endings.{IsAtMove}
use Rattle.conn_serve.proofs.serve.close.Goals as goal

pub finish-requires : goal.finish-requires
finish-requires g c =
    record {
      so_far = c.requires.so_far;
      may = c.requires.may;
      says = c.requires.says;
    }

pub returns-in-Ok : goal.returns-in-Ok
returns-in-Ok g c =
    record {
      closes = c.in-Ok.ensures.goes;
      unread = over_is_read _ c.requires.only;
      writes = counts_none _ _ _ (over_is_whole _ c.requires.only) (quiet_fine _ _ _ _ _ c.in-Ok.ensures.writes);
      same = c.in-Ok.ensures.same;
      apart = c.in-Ok.ensures.apart;
    }

pub returns-in-Err : goal.returns-in-Err
returns-in-Err g c =
    record {
      closes = c.in-Err.ensures.halts;
      unread = λ is. subst IsAtMove is c.in-Err.ensures.only;
      writes = counts_told _ _ _ _ _ _ refl c.in-Err.ensures.writes;
      same = c.in-Err.ensures.same;
      apart = c.in-Err.ensures.apart;
    }

use Rattle.std.proofs.Common.{[], refl, arith}
use Rattle.conn_serve.specs.Hec.{continued}
use Rattle.conn_serve.proofs.Acting.{err_then, ok_then}
use Rattle.conn_serve.proofs.HecActing.{leave_cut, ok_any, said_whole}
use Rattle.conn_serve.proofs.Faults.{said_counts, said_only}
use Rattle.conn_serve.proofs.hec.act.serve_item.Goals as goal

pub returns-in-Leave : goal.returns-in-Leave
returns-in-Leave g c =
    record {
      goes = rw c.in-Leave.is (ok_then c.say.result _ _ c.say.ensures.whole (λ wrote. said_whole _ _ _ _ _ _ [] continued _ (g.met.A.Access.ran_none _) (omega arith) refl wrote (refl, refl)));
      halts = rw c.in-Leave.is (err_then c.say.result _ _ c.say.ensures.part (λ talk h. leave_cut _ _ _ _ c.args.connection.now.number c.args.connection.now.taken talk (g.met.A.Access.ran_none _) h));
      number = refl;
      may = ok_any c.say.result _ c.requires.may;
      only = said_only _ (c.say.result) c.say.ensures.part;
      writes = said_counts _ (c.say.result) _ _ c.say.ensures.part c.say.ensures.writes;
      same = c.say.ensures.same;
      apart = c.say.ensures.apart;
    }

pub returns-in-Ok-2-clause-number : goal.returns-in-Ok-2-clause-number
returns-in-Ok-2-clause-number g c = c.in-Ok-2.ensures.number

pub returns-in-Ok-2-clause-writes : goal.returns-in-Ok-2-clause-writes
returns-in-Ok-2-clause-writes g c = c.in-Ok-2.ensures.writes

pub returns-in-Ok-2-clause-only : goal.returns-in-Ok-2-clause-only
returns-in-Ok-2-clause-only g c = tt

pub returns-in-Ok-2-clause-may : goal.returns-in-Ok-2-clause-may
returns-in-Ok-2-clause-may g c = c.in-Ok-2.ensures.may

pub returns-in-Ok-2-clause-same : goal.returns-in-Ok-2-clause-same
returns-in-Ok-2-clause-same g c = c.in-Ok-2.ensures.same

pub returns-in-Ok-2-clause-apart : goal.returns-in-Ok-2-clause-apart
returns-in-Ok-2-clause-apart g c = c.in-Ok-2.ensures.apart

pub returns-in-Err-clause-number : goal.returns-in-Err-clause-number
returns-in-Err-clause-number g c = c.in-Err.ensures.number

pub returns-in-Err-clause-writes : goal.returns-in-Err-clause-writes
returns-in-Err-clause-writes g c = c.in-Err.ensures.writes

pub returns-in-Err-clause-only : goal.returns-in-Err-clause-only
returns-in-Err-clause-only g c = c.in-Err.ensures.only

pub returns-in-Err-clause-may : goal.returns-in-Err-clause-may
returns-in-Err-clause-may g c = tt

pub returns-in-Err-clause-same : goal.returns-in-Err-clause-same
returns-in-Err-clause-same g c = c.in-Err.ensures.same

pub returns-in-Err-clause-apart : goal.returns-in-Err-clause-apart
returns-in-Err-clause-apart g c = c.in-Err.ensures.apart

pub say-requires : goal.say-requires
say-requires g c = record { permitted = c.requires.says _ [] continued (g.met.A.Access.ran_none _) (rw c.in-Leave.is (refl, refl)) }

pub carry_out-requires-clause-says : goal.carry_out-requires-clause-says
carry_out-requires-clause-says g c = rw c.in-Act.is at c.requires.says

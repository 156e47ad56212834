use Rattle.std.proofs.Common.{refl, arith}
use Rattle.load_run.proofs.Counted.{ok_not_err}
use Rattle.load_run.proofs.disk.SureDiskDisk.write_at.Goals as goal

pub returns-clause-calls : goal.returns-clause-calls
returns-clause-calls c = record {
  size = c.write_at.ensures.calls.size;
  later = omega arith;
  cause = λ err. absurd (ok_not_err c.write_at.result (c.write_at.ensures.never c.args.self.now.never).0 err);
  quiet = λ none. refl;
}

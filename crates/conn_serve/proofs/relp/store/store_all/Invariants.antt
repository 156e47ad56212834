use Rattle.std.proofs.Common.{◌≡◌, ◌+◌, ◌≤◌, length}
use Rattle.desk_access.specs.Batch.{AreNext}
use Rattle.conn_serve.specs.Done.{Done, LeadsBy}
use Rattle.conn_serve.specs.RelpServing.{HoldsOf}
use Rattle.conn_serve.proofs.relp.store.store_all.Given as goal

abbrev pub invariant-fronts : goal.invariant-fronts
invariant-fronts g l =
    let was = l.fn.connection in
    record {
      done : Done (λ calls. g.A.Access.ran l.fn.access calls l.access) (g.L.Sink.taken l.fn.link) (g.L.Sink.taken l.link) was.taken l.connection.taken
          (LeadsBy was.taken (HoldsOf was.number l.fn.run) (HoldsOf was.number l.run));
      next : AreNext was.number l.connection.taken l.run;
      few : length l.run ≤ length l.fn.run;
      sum : l.connection.taken + length l.run ≡ was.taken + length l.fn.run;
      same_number : l.connection.number ≡ was.number;
      may : g.A.Access.may_take l.access was.number l.connection.taken;
      writes : g.L.Sink.write_faults l.link ≡ g.L.Sink.write_faults l.fn.link;
      same : g.L.Object.same l.fn.link l.link;
      apart : g.L.Sink.write_apart l.fn.link l.link;
    }

abbrev pub decreases-fronts : goal.decreases-fronts
decreases-fronts g l = length l.run

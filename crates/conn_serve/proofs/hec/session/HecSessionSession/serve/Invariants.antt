use Rattle.std.proofs.Common.{◌≡◌, ◌+◌, ◌≤◌, length}
use Rattle.conn_serve.specs.Done.{Done, Leads, SoFar}
use Rattle.conn_serve.specs.Handled.{Handled, Served}
use Rattle.conn_serve.specs.Hec.{hec}
use Rattle.conn_serve.specs.HecReading.{ReadsKept, extent_of, waits_of}
use Rattle.conn_serve.proofs.hec.session.HecSessionSession.serve.Given as goal

abbrev pub invariant-loop-asked : goal.invariant-loop-asked
invariant-loop-asked g l =
    let was = l.fn.self in
    let now = l.self in
    let number = l.fn.connection.number in
    record {
      done : Done (λ calls. g.A.Access.ran l.fn.access calls l.access) (g.L.Sink.taken l.fn.link) (g.L.Sink.taken l.link) l.fn.connection.taken l.connection.taken
          (Leads l.fn.connection.taken (Served (Handled (hec was.core number)) (ReadsKept was.core was.intake was.met)) (Served (Handled (hec was.core number)) (ReadsKept was.core now.intake was.met)));
      so_far : SoFar (Served (Handled (hec was.core number)) (ReadsKept was.core now.intake was.met)) l.connection.taken 0;
      same_core : now.core ≡ was.core;
      same_met : now.met ≡ was.met;
      same_number : l.connection.number ≡ number;
      may : g.A.Access.may_take l.access number l.connection.taken;
      extent : extent_of now.intake ≤ extent_of was.intake;
      writes : g.L.Sink.write_faults l.link ≡ g.L.Sink.write_faults l.fn.link;
      same : g.L.Object.same l.fn.link l.link;
      apart : g.L.Sink.write_apart l.fn.link l.link;
    }

abbrev pub decreases-loop-asked : goal.decreases-loop-asked
decreases-loop-asked g l = waits_of l.self.intake

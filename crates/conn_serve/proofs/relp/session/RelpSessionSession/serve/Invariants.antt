use Rattle.std.proofs.Common.{◌≡◌, [], ◌+◌, ◌≤◌, length}
use Rattle.relp_frame.specs.Reading as stream
use Rattle.relp_frame.specs.Spelling.{IsSpelling}
use Rattle.conn_serve.specs.Done.{Done, Leads, SoFar}
use Rattle.conn_serve.specs.Handled.{Served, ReadBy}
use Rattle.conn_serve.specs.RelpServing.{Handles, IsStaged}
use Rattle.conn_serve.specs.Terms.{most_of}
use Rattle.conn_serve.proofs.relp.session.RelpSessionSession.serve.Given as goal

abbrev pub invariant-frames : goal.invariant-frames
invariant-frames g l =
    let was = l.fn.self in
    let now = l.self in
    let number = l.fn.connection.number in
    let most = most_of was.group in
    record {
      done : Done (λ calls. g.A.Access.ran l.fn.access calls l.access) (g.L.Sink.taken l.fn.link) (g.L.Sink.taken l.link) l.fn.connection.taken l.connection.taken
          (Leads l.fn.connection.taken (Served (Handles most number was.core []) (ReadBy stream.relp IsSpelling was.window was.fault)) (Served (Handles most number now.core now.run) (ReadBy stream.relp IsSpelling now.window now.fault)));
      so_far : SoFar (Served (Handles most number now.core now.run) (ReadBy stream.relp IsSpelling now.window now.fault)) l.connection.taken 0;
      staged : IsStaged most number l.connection.taken now.run;
      same_number : l.connection.number ≡ number;
      same_group : now.group ≡ was.group;
      may : g.A.Access.may_take l.access number l.connection.taken;
      extent : now.window.at + length now.window.rest ≤ was.window.at + length was.window.rest;
      writes : g.L.Sink.write_faults l.link ≡ g.L.Sink.write_faults l.fn.link;
      same : g.L.Object.same l.fn.link l.link;
      apart : g.L.Sink.write_apart l.fn.link l.link;
    }

abbrev pub decreases-frames : goal.decreases-frames
decreases-frames g l = length l.self.window.whole

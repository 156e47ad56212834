use Rattle.std.proofs.Common.{◌≡◌, ◌+◌, ◌-◌, ◌≤◌, length, take}
use Rattle.conn_serve.specs.Done.{Done, LeadsOn, SoFar}
use Rattle.conn_serve.proofs.feed.take_in.Given as goal

abbrev pub invariant-loop-fed : goal.invariant-loop-fed
invariant-loop-fed g l =
    let number = l.fn.connection.number in
    record {
      done : Done (λ calls. g.A.Access.ran l.fn.access calls l.access) (g.L.Sink.taken l.fn.link) (g.L.Sink.taken l.link) l.fn.connection.taken l.connection.taken
          (LeadsOn l.fn.connection.taken (take l.fed l.piece) (g.S.Session.served number l.fn.session) (g.S.Session.served number l.session));
      within : l.fed ≤ length l.piece;
      so_far : SoFar (g.S.Session.served number l.session) l.connection.taken (length l.piece - l.fed);
      idle : g.S.Session.idle l.session;
      extent : g.S.Session.extent l.session ≤ g.S.Session.extent l.fn.session + l.fed;
      same_number : l.connection.number ≡ number;
      same_terms : g.S.Session.terms l.session ≡ g.S.Session.terms l.fn.session;
      may : g.A.Access.may_take l.access number l.connection.taken;
      writes : g.L.Sink.write_faults l.link ≡ g.L.Sink.write_faults l.fn.link;
      same : g.L.Object.same l.fn.link l.link;
      apart : g.L.Sink.write_apart l.fn.link l.link;
    }

abbrev pub decreases-loop-fed : goal.decreases-loop-fed
decreases-loop-fed g l = length l.piece - l.fed

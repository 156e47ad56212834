use Rattle.std.proofs.Common.{None, length, ◌<◌, ◌-◌, ◌≡◌, ◌≤◌}
use Rattle.conn_serve.specs.Done.{told}
use Rattle.conn_serve.specs.Endings.{MayEnd}
use Rattle.conn_serve.proofs.Running.{Progress}
use Rattle.conn_serve.proofs.serve.run.Given as goal

abbrev pub invariant-loop-total : goal.invariant-loop-total
invariant-loop-total g l =
    let number = l.fn.connection.number in
    record {
      some : 0 < length l.buf.items;
      progress : Progress (g.S.Session.served number l.session)
          (told (g.L.Source.given l.fn.link) (g.L.Source.left l.fn.link) (g.L.Sink.taken l.fn.link))
          (told (g.L.Source.given l.link) (g.L.Source.left l.link) (g.L.Sink.taken l.link))
          (λ calls. g.A.Access.ran l.fn.access calls l.access) l.connection.taken l.total;
      idle : g.S.Session.idle l.session;
      may_end : MayEnd (g.S.Session.served number l.session) (g.S.Session.carried (g.S.Session.terms l.fn.session) number);
      same_number : l.connection.number ≡ number;
      same_terms : g.S.Session.terms l.session ≡ g.S.Session.terms l.fn.session;
      may : g.A.Access.may_take l.access number l.connection.taken;
      extent : g.S.Session.extent l.session ≤ l.total;
      below : l.total ≤ 1099511627776;
      same : g.L.Object.same l.fn.link l.link;
      lasts : g.L.Sink.taken l.fn.link ≡ None → g.L.Sink.taken l.link ≡ None;
      reads : g.L.Source.read_faults l.link ≡ g.L.Source.read_faults l.fn.link;
      writes : g.L.Sink.write_faults l.link ≡ g.L.Sink.write_faults l.fn.link;
    }

abbrev pub decreases-loop-total : goal.decreases-loop-total
decreases-loop-total g l = 1099511627776 - l.total

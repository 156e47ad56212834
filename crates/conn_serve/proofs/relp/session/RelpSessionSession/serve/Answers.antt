use Rattle.std.proofs.Common.{ℕ, [], ◌∙◌, refl, subst, arith}
use Rattle.relp_frame.specs.Reading as stream
use Rattle.relp_frame.specs.Spelling.{IsSpelling}
use Rattle.desk_access.specs.Carried.{Carried}
use Rattle.conn_serve.specs.Runs.{relp_runs}
use Rattle.conn_serve.specs.Done.{Anyway, Leads}
use Rattle.conn_serve.specs.Says.{CouldEnd}
use Rattle.conn_serve.specs.Terms.{most_of}
use Rattle.conn_serve.proofs.Saying.{says_then}
use Rattle.conn_serve.specs.Handled.{Served, ReadBy}
use Rattle.conn_serve.specs.RelpServing.{Handles, IsStaged}
use Rattle.conn_serve.proofs.Acting.{ok_then, err_then}
use Rattle.conn_serve.proofs.Faults.{err_of, quiet_fine}
use Rattle.conn_serve.proofs.Leading.{done_start, done_then, so_far_then}
use Rattle.conn_serve.proofs.RelpActing.{staged_none}
use Rattle.conn_serve.proofs.RelpSessions.{so_far_few, served_by, halted_by, last_due, last_stored, last_halt}
use Rattle.conn_serve.proofs.relp.session.RelpSessionSession.serve.Goals as goal

pub frames-init : goal.frames-init
frames-init g c =
    let none = c.clear.ensures in
    record {
      done = rw none (done_start _ _ _ _ (g.met.A.Access.ran_none _));
      so_far = rw none c.requires.so_far;
      staged = rw none (staged_none (most_of c.args.self.now.group) c.args.connection.now.number c.args.connection.now.taken);
      same_number = refl;
      same_group = refl;
      may = c.requires.may;
      extent = omega arith;
      writes = refl;
      same = g.L.Object.same_refl _;
      apart = g.met.L.Sink.apart_refl _;
    }

pub serve_next-requires-clause-early : goal.serve_next-requires-clause-early
serve_next-requires-clause-early g c =
    let l = c.frames in
    let now = l.self in
    omega (arith, so_far_few (most_of c.args.self.now.group) c.args.connection.now.number now.window now.core now.run now.fault l.connection.taken 0 l.invariant.so_far)

pub serve_next-requires-clause-says : goal.serve_next-requires-clause-says
serve_next-requires-clause-says g c =
    let l = c.frames in
    let inv = l.invariant in
    let now = l.self in
    let number = c.args.connection.now.number in
    let most = most_of c.args.self.now.group in
    let says = says_then g.A.Access.ran c.args.access.now l.access g.met.A.Access.ran_more _ _ _ _ (g.met.L.Sink.permits_last _ _ inv.apart) (CouldEnd (Carried (relp_runs most number))) _ _ _
    (Served (Handles most number now.core now.run) (ReadBy stream.relp IsSpelling now.window now.fault)) inv.done c.requires.says in
    λ at calls text made goes. says at calls text made (subst (λ (k : ℕ). Leads l.connection.taken (Served (Handles most k now.core now.run) (ReadBy stream.relp IsSpelling now.window now.fault))
    (CouldEnd (Carried (relp_runs most k))) calls text) inv.same_number (goes now.fault))

pub frames-preserved : goal.frames-preserved
frames-preserved g c =
    let l = c.frames in
    let inv = l.invariant in
    let was = l.self in
    let call = c.in_ok-serve_next.ensures in
    let number = c.args.connection.now.number in
    let most = most_of c.args.self.now.group in
    let now = c.serve_next.new in
    let frame = served_by _ _ _ l.connection.taken now.connection.taken most l.connection.number number inv.same_number was.window was.core was.run was.fault now.window now.core now.run (call.goes was.fault) in
    record {
      done = done_then _ _ _ _ _ _ _ _ _ _ _ (Served (Handles most number now.core now.run) (ReadBy stream.relp IsSpelling now.window was.fault)) (λ xs ys p q. g.met.A.Access.ran_more _ _ _ xs ys p q) inv.done frame;
      so_far = so_far_then _ _ _ _ _ _ _ _ inv.so_far frame;
      staged = subst (λ (k : ℕ). IsStaged most k now.connection.taken now.run) inv.same_number call.staged;
      same_number = call.number ∙ inv.same_number;
      same_group = inv.same_group;
      may = rw (← inv.same_number) call.may;
      extent = omega (arith, inv.extent, call.extent);
      writes = quiet_fine _ _ _ _ _ call.writes ∙ inv.writes;
      same = g.L.Object.same_trans _ _ _ inv.same call.same;
      apart = g.met.L.Sink.apart_trans _ _ _ inv.apart call.apart;
    }

pub returns-in_err-serve_next-clause-halts : goal.returns-in_err-serve_next-clause-halts
returns-in_err-serve_next-clause-halts g c =
    let l = c.frames in
    let inv = l.invariant in
    let was = l.self in
    let call = c.in_err-serve_next.ensures in
    let number = c.args.connection.now.number in
    let most = most_of c.args.self.now.group in
    let talk = c.in_err-serve_next.field-0.0 in
    rw (err_of c.from_residual.result talk c.from_residual.ensures.1)
    (done_then _ _ _ _ _ _ _ _ _ _ _ (Anyway (Carried (relp_runs most number)) talk) (λ xs ys p q. g.met.A.Access.ran_more _ _ _ xs ys p q) inv.done
    (halted_by _ _ _ l.connection.taken _ most l.connection.number number inv.same_number was.window was.core was.run was.fault talk (call.halts was.fault)))

pub store_all-requires-clause-early : goal.store_all-requires-clause-early
store_all-requires-clause-early g c =
    let l = c.frames in
    let inv = l.invariant in
    let was = l.self in
    let now = c.serve_next.new in
    let call = c.in_ok-serve_next.ensures in
    let number = c.args.connection.now.number in
    let most = most_of c.args.self.now.group in
    let frame = served_by _ _ _ l.connection.taken now.connection.taken most l.connection.number number inv.same_number was.window was.core was.run was.fault now.window now.core now.run (call.goes was.fault) in
    omega (arith, so_far_few most number now.window now.core now.run was.fault now.connection.taken 0 (so_far_then _ _ _ _ _ _ _ _ inv.so_far frame))

pub store_all-requires-clause-says : goal.store_all-requires-clause-says
store_all-requires-clause-says g c =
    let l = c.frames in
    let inv = l.invariant in
    let was = l.self in
    let now = c.serve_next.new in
    let call = c.in_ok-serve_next.ensures in
    let number = c.args.connection.now.number in
    let most = most_of c.args.self.now.group in
    let frame = served_by _ _ _ l.connection.taken now.connection.taken most l.connection.number number inv.same_number was.window was.core was.run was.fault now.window now.core now.run (call.goes was.fault) in
    let there = Served (Handles most number now.core now.run) (ReadBy stream.relp IsSpelling now.window was.fault) in
    let done = done_then _ _ _ _ _ _ _ _ _ _ _ there (λ xs ys p q. g.met.A.Access.ran_more _ _ _ xs ys p q) inv.done frame in
    let says = says_then g.A.Access.ran c.args.access.now now.access g.met.A.Access.ran_more _ _ _ _ (g.met.L.Sink.permits_last _ _ (g.met.L.Sink.apart_trans _ _ _ inv.apart call.apart)) (CouldEnd (Carried (relp_runs most number))) _ _ _ there done c.requires.says in
    λ at calls text made goes. says at calls text made (last_due most number now.connection.number (call.number ∙ inv.same_number) now.window now.core now.run was.fault now.connection.taken calls text goes)

pub returns-clause-goes : goal.returns-clause-goes
returns-clause-goes g c =
    let l = c.frames in
    let inv = l.invariant in
    let was = l.self in
    let now = c.serve_next.new in
    let call = c.in_ok-serve_next.ensures in
    let number = c.args.connection.now.number in
    let most = most_of c.args.self.now.group in
    let frame = served_by _ _ _ l.connection.taken now.connection.taken most l.connection.number number inv.same_number was.window was.core was.run was.fault now.window now.core now.run (call.goes was.fault) in
    let there = Served (Handles most number now.core now.run) (ReadBy stream.relp IsSpelling now.window was.fault) in
    let done = done_then _ _ _ _ _ _ _ _ _ _ _ there (λ xs ys p q. g.met.A.Access.ran_more _ _ _ xs ys p q) inv.done frame in
    rw inv.same_group
    (ok_then c.store_all.result _ _ c.store_all.ensures.goes (λ d. done_then _ _ _ _ _ _ _ _ _ _ _ (Served (Handles most number now.core []) (ReadBy stream.relp IsSpelling now.window was.fault)) (λ xs ys p q. g.met.A.Access.ran_more _ _ _ xs ys p q) done
    (last_stored most number now.connection.number (call.number ∙ inv.same_number) now.window now.core now.run was.fault now.connection.taken _ _ _ c.store_all.new.connection.taken d)))

pub returns-clause-halts : goal.returns-clause-halts
returns-clause-halts g c =
    let l = c.frames in
    let inv = l.invariant in
    let was = l.self in
    let now = c.serve_next.new in
    let call = c.in_ok-serve_next.ensures in
    let number = c.args.connection.now.number in
    let most = most_of c.args.self.now.group in
    let frame = served_by _ _ _ l.connection.taken now.connection.taken most l.connection.number number inv.same_number was.window was.core was.run was.fault now.window now.core now.run (call.goes was.fault) in
    let there = Served (Handles most number now.core now.run) (ReadBy stream.relp IsSpelling now.window was.fault) in
    let done = done_then _ _ _ _ _ _ _ _ _ _ _ there (λ xs ys p q. g.met.A.Access.ran_more _ _ _ xs ys p q) inv.done frame in
    err_then c.store_all.result _ _ c.store_all.ensures.halts (λ talk d. done_then _ _ _ _ _ _ _ _ _ _ _ (Anyway (Carried (relp_runs most number)) talk) (λ xs ys p q. g.met.A.Access.ran_more _ _ _ xs ys p q) done
    (last_halt most number now.connection.number (call.number ∙ inv.same_number) now.window now.core now.run was.fault now.connection.taken _ _ _ c.store_all.new.connection.taken talk d))

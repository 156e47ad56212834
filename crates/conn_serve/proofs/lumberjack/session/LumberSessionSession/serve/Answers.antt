use Rattle.std.proofs.Common.{ℕ, ◌∙◌, refl, subst, arith}
use Rattle.lumber_frame.specs.declared.side.Side.TheVariants.{Receiver}
use Rattle.lumber_frame.specs.Reading.{receiver}
use Rattle.lumber_frame.specs.Spelling.{Spells}
use Rattle.desk_access.specs.Carried.{Carried}
use Rattle.conn_serve.specs.Lumber.{lumberjack}
use Rattle.conn_serve.specs.Done.{Anyway, Leads}
use Rattle.conn_serve.specs.Says.{CouldEnd}
use Rattle.conn_serve.proofs.Saying.{says_then}
use Rattle.conn_serve.specs.Handled.{Served, ReadBy}
use Rattle.conn_serve.specs.LumberServing.{Handles}
use Rattle.conn_serve.proofs.Faults.{counts_fine, counts_passed, err_of, quiet_fine}
use Rattle.conn_serve.proofs.Leading.{done_start, done_then, so_far_then}
use Rattle.conn_serve.proofs.LumberSessions.{so_far_few, so_far_handles, served_by, halted_by}
use Rattle.conn_serve.proofs.lumberjack.session.LumberSessionSession.serve.Goals as goal

pub frames-init : goal.frames-init
frames-init g c = record {
  done = done_start _ _ _ _ (g.met.A.Access.ran_none _);
  so_far = c.requires.so_far;
  same_number = refl;
  may = c.requires.may;
  extent = omega arith;
  writes = refl;
  same = g.L.Object.same_refl _;
  apart = g.met.L.Sink.apart_refl _;
}

pub serve_next-requires-clause-early : goal.serve_next-requires-clause-early
serve_next-requires-clause-early g c =
    let l = c.frames in
    let now = l.self in
    omega (arith, so_far_few c.args.connection.now.number now.window now.core now.staged.entries.items now.staged.last now.fault l.connection.taken 0 l.invariant.so_far)

pub serve_next-requires-clause-so_far : goal.serve_next-requires-clause-so_far
serve_next-requires-clause-so_far g c =
    let l = c.frames in
    so_far_handles _ _ _ _ _ _ _ _ l.connection.number l.invariant.same_number l.invariant.so_far

pub serve_next-requires-clause-says : goal.serve_next-requires-clause-says
serve_next-requires-clause-says g c =
    let l = c.frames in
    let inv = l.invariant in
    let now = l.self in
    let number = c.args.connection.now.number in
    let says = says_then g.A.Access.ran c.args.access.now l.access g.met.A.Access.ran_more _ _ _ _ (g.met.L.Sink.permits_last _ _ inv.apart) (CouldEnd (Carried (lumberjack number))) _ _ _
    (Served (Handles number now.core now.staged.entries.items now.staged.last) (ReadBy receiver (Spells Receiver) now.window now.fault)) inv.done c.requires.says in
    λ at calls text made goes. says at calls text made (subst (λ (k : ℕ). Leads l.connection.taken (Served (Handles k now.core now.staged.entries.items now.staged.last) (ReadBy receiver (Spells Receiver) now.window now.fault))
    (CouldEnd (Carried (lumberjack k))) calls text) inv.same_number (goes now.fault))

pub frames-preserved : goal.frames-preserved
frames-preserved g c =
    let l = c.frames in
    let inv = l.invariant in
    let was = l.self in
    let call = c.in_ok-serve_next.ensures in
    let number = c.args.connection.now.number in
    let now = c.serve_next.new in
    let frame = served_by _ _ _ _ _ _ number inv.same_number was.window was.core was.staged.entries.items was.staged.last was.fault now.window now.core now.staged.entries.items now.staged.last (call.goes was.fault) in
    record {
      done = done_then _ _ _ _ _ _ _ _ _ _ _ (Served (Handles number now.core now.staged.entries.items now.staged.last) (ReadBy receiver (Spells Receiver) now.window was.fault))
          (λ xs ys p q. g.met.A.Access.ran_more _ _ _ xs ys p q) inv.done frame;
      so_far = so_far_then _ _ _ _ _ _ _ _ inv.so_far frame;
      same_number = call.number ∙ inv.same_number;
      may = rw (← inv.same_number) call.may;
      extent = omega (arith, inv.extent, call.extent);
      writes = quiet_fine _ _ _ _ _ call.writes ∙ inv.writes;
      same = g.L.Object.same_trans _ _ _ inv.same call.same;
      apart = g.met.L.Sink.apart_trans _ _ _ inv.apart call.apart;
    }

pub returns : goal.returns
returns g c =
    let l = c.frames in
    let inv = l.invariant in
    let was = l.self in
    let call = c.in_ok-serve_next.ensures in
    let number = c.args.connection.now.number in
    let now = c.serve_next.new in
    record {
      goes = done_then _ _ _ _ _ _ _ _ _ _ _ (Served (Handles number now.core now.staged.entries.items now.staged.last) (ReadBy receiver (Spells Receiver) now.window was.fault))
          (λ xs ys p q. g.met.A.Access.ran_more _ _ _ xs ys p q) inv.done
          (served_by _ _ _ _ _ _ number inv.same_number was.window was.core was.staged.entries.items was.staged.last was.fault now.window now.core now.staged.entries.items now.staged.last (call.goes was.fault));
      halts = tt;
      only = tt;
      idle = call.idle c.if-branch.false;
      extent = omega (arith, inv.extent, call.extent);
      terms = refl;
      number = call.number ∙ inv.same_number;
      may = rw (← inv.same_number) call.may;
      writes = counts_fine _ _ _ _ _ (quiet_fine _ _ _ _ _ call.writes ∙ inv.writes);
      same = g.L.Object.same_trans _ _ _ inv.same call.same;
      apart = g.met.L.Sink.apart_trans _ _ _ inv.apart call.apart;
    }

pub returns-in_err-serve_next : goal.returns-in_err-serve_next
returns-in_err-serve_next g c =
    let l = c.frames in
    let inv = l.invariant in
    let was = l.self in
    let call = c.in_err-serve_next.ensures in
    let number = c.args.connection.now.number in
    let talk = c.in_err-serve_next.field-0.0 in
    rw (err_of c.from_residual.result talk c.from_residual.ensures.1)
    (record {
      goes = tt;
      halts = (done_then _ _ _ _ _ _ _ _ _ _ _ (Anyway (Carried (lumberjack number)) talk) (λ xs ys p q. g.met.A.Access.ran_more _ _ _ xs ys p q) inv.done
          (halted_by _ _ _ _ _ _ number inv.same_number was.window was.core was.staged.entries.items was.staged.last was.fault talk (call.halts was.fault)));
      only = call.only;
      idle = tt;
      extent = tt;
      terms = tt;
      number = call.number ∙ inv.same_number;
      may = tt;
      writes = counts_passed _ _ _ _ _ _ _ inv.writes call.writes;
      same = g.L.Object.same_trans _ _ _ inv.same call.same;
      apart = g.met.L.Sink.apart_trans _ _ _ inv.apart call.apart;
    })

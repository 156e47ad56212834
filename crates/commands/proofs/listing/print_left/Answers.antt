use Rattle.std.proofs.Common.{[], ◌∙◌, refl, arith}
use Rattle.edge_disk.proofs.Calls.{calls_none, calls_as, calls_on}
use Rattle.edge_disk.proofs.Moments.{started}
use Rattle.notes.specs.declared.note.Note.TheVariants.{Fine}
use Rattle.commands.proofs.Printing.{printed_none}
use Rattle.commands.proofs.Sure.{read_on, parts_on, parts_end}
use Rattle.commands.proofs.listing.print_left.Goals as goal

pub loop-next-init : goal.loop-next-init
loop-next-init g c = record {
  within = omega arith;
  calls = calls_none _;
  writes = refl;
  goes = λ s tells held. (
    held,
    started (g.D.Disk.moment c.args.spool.now.disk).image _ (g.met.D.Disk.lawful c.args.spool.now.disk tells) (λ d image. image),
    record { first = []; parts = refl; printed = printed_none c.args.form _ },
  );
}

pub loop-next-preserved : goal.loop-next-preserved
loop-next-preserved g c =
    let inv = c.loop-next.invariant in
    let call = c.in-Ok-Some.ensures in
    let next = rw c.in-Ok-Some.field-0-is at call.next in
    record {
      within = next.1;
      calls = calls_on _ _ _ _ _ inv.calls (λ none. none) (calls_as _ _ _ _ call.calls (λ none. absurd none) (λ is. cc));
      writes = call.writes.quiet (λ is. cc) ∙ inv.writes;
      goes = λ s tells held.
          let before = inv.goes s tells held in
          let kept = call.kept s tells before.0 in
          let printed = rw c.in-Ok-Some.field-0-is at (call.printed s tells before.0) in
          (kept.0, read_on _ _ _ before.1 kept.1, parts_on c.args.form s _ _ _ 0 c.loop-next.number c.in-Ok-Some.next before.2 printed);
    }

pub returns-in-Ok-None-clause-printed : goal.returns-in-Ok-None-clause-printed
returns-in-Ok-None-clause-printed g c = λ s tells held.
    let before = c.loop-next.invariant.goes s tells held in
    let printed = rw c.in-Ok-None.field-0-is at (c.in-Ok-None.ensures.printed s tells before.0) in
    parts_end c.args.form s _ (g.K.Sink.taken c.loop-next.output) _ c.loop-next.number Fine before.2 printed

pub returns-in-Err-clause-printed : goal.returns-in-Err-clause-printed
returns-in-Err-clause-printed g c = λ s tells held.
    let before = c.loop-next.invariant.goes s tells held in
    parts_end c.args.form s _ (g.K.Sink.taken c.loop-next.output) _ c.loop-next.number c.in-Err.note before.2 (c.in-Err.ensures.printed s tells before.0)

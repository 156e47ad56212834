use Rattle.std.proofs.Common.{◌+◌, ◌∷◌, [], ℕ, All, length, sym, ◌∙◌, ap, subst, arith, length-append}
use Rattle.std.proofs.lemmas.List.Elements.{All-push}
use Rattle.event_form.specs.Entry.{IsEntry}
use Rattle.edge_disk.proofs.Moments.{untouched_then}
use Rattle.spool_state.specs.Image.{HoldsSegment}
use Rattle.spool_state.proofs.Segments.{holds_front}
use Rattle.spool_slots.proofs.Faults.{calls_passed, handed}
use Rattle.spool_slots.proofs.Marks.{mark_from, read_all, read_more}
use Rattle.spool_slots.proofs.slot.Slot.read_part.Goals as goal

pub returns-in_err-entry-clause-part : goal.returns-in_err-entry-clause-part
returns-in_err-entry-clause-part g c = λ segment tells knows mark.
    let lawful = g.met.D.Disk.lawful c.args.disk.now tells in
    let slot = c.args.self.now in
    let reads = (g.D.Disk.moment c.args.disk.now).reads in
    let holds = subst (λ (n : ℕ). HoldsSegment slot.at (n + 1) segment reads) (sym knows.gate) (holds_front slot.at slot.size segment reads (omega (arith, c.requires.place, lawful.reads_size)) knows.holds) in
    let holds_now = subst (HoldsSegment slot.at (slot.gate + 1) segment) (sym (c.loop-i.invariant.told tells).same) holds in
    let here = c.loop-i.invariant.read segment tells knows mark in
    handed _ _ _ _ c.from_residual.ensures.1
    (c.in_err-entry.ensures.next segment tells holds_now knows.sound here.0 (omega (arith, c.loop-i.invariant.number, c.loop-i-test.true, c.min-wanted.ensures, c.saturating_sub-left.ensures, knows.first, knows.count)))

pub loop-i-preserved : goal.loop-i-preserved
loop-i-preserved g c =
    let slot = c.args.self.now in
    let pushed = rw c.in-Ok.is at c.push.ensures.items in
    record {
      calls = calls_passed _ _ _ _ c.loop-i.invariant.calls c.in_ok-entry.ensures.calls (λ f. cc);
      told = λ tells. untouched_then _ _ _ (g.met.D.Disk.lawful c.args.disk.now tells) (c.loop-i.invariant.told tells) (c.next_entry.ensures.told tells);
      window = λ tells. c.in_ok-entry.ensures.window tells;
      number = omega (arith, c.in_ok-entry.ensures.number, c.loop-i.invariant.number);
      counted = omega (arith, c.loop-i.invariant.counted, ap length pushed, length-append c.loop-i.entries.items (c.in_ok-entry.entry ∷ []));
      limits = subst (All IsEntry) (sym pushed) (All-push IsEntry c.loop-i.entries.items c.in_ok-entry.entry c.loop-i.invariant.limits c.in_ok-entry.ensures.limits);
      read = λ segment tells knows mark.
          let lawful = g.met.D.Disk.lawful c.args.disk.now tells in
          let reads = (g.D.Disk.moment c.args.disk.now).reads in
          let holds = subst (λ (n : ℕ). HoldsSegment slot.at (n + 1) segment reads) (sym knows.gate) (holds_front slot.at slot.size segment reads (omega (arith, c.requires.place, lawful.reads_size)) knows.holds) in
          let holds_now = subst (HoldsSegment slot.at (slot.gate + 1) segment) (sym (c.loop-i.invariant.told tells).same) holds in
          let here = c.loop-i.invariant.read segment tells knows mark in
          let next = c.in_ok-entry.ensures.next segment tells holds_now knows.sound here.0 (omega (arith, c.loop-i.invariant.number, c.loop-i-test.true, c.min-wanted.ensures, c.saturating_sub-left.ensures, knows.first, knows.count)) in
          (next.goes_on, pushed ∙ read_more segment c.loop-i.here c.in_ok-entry.entry c.in_ok-entry.next c.args.mark.number c.loop-i.i c.loop-i.entries.items (mark_from segment c.args.mark mark) c.loop-i.invariant.number here.1 next);
    }

pub returns-clause-part : goal.returns-clause-part
returns-clause-part g c = λ segment tells knows mark.
    let here = c.loop-i.invariant.read segment tells knows mark in (
      read_all segment c.args.mark.number c.args.most c.saturating_sub-left.result c.loop-i.i c.loop-i.entries.items (mark_from segment c.args.mark mark)
          (omega (arith, c.saturating_sub-left.ensures, knows.first, knows.count)) (omega (arith, c.loop-i-test.false, c.loop-i.auto.i-end, c.min-wanted.ensures, c.from.ensures)) here.1,
      here.0,
    )

pub returns-in_default-clause-told : goal.returns-in_default-clause-told
returns-in_default-clause-told g c = λ tells. untouched_then _ _ _ (g.met.D.Disk.lawful c.args.disk.now tells) (c.loop-i.invariant.told tells) (c.next_entry.ensures.told tells)

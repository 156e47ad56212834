use Rattle.std.proofs.Common.{◌+◌, ℕ, sym, subst, arith}
use Rattle.edge_disk.proofs.Moments.{untouched_then}
use Rattle.spool_state.specs.Image.{HoldsSegment}
use Rattle.spool_state.proofs.Segments.{holds_front}
use Rattle.spool_slots.proofs.Faults.{calls_passed, handed}
use Rattle.spool_slots.proofs.slot.Slot.pass.Goals as goal

pub loop-here-preserved : goal.loop-here-preserved
loop-here-preserved g c =
    let slot = c.args.self.now in
    let number = c.in_ok-here.ensures.number in
    record {
      calls = calls_passed _ _ _ _ c.loop-here.invariant.calls c.in_ok-here.ensures.calls (λ f. cc);
      told = λ tells. untouched_then _ _ _ (g.met.D.Disk.lawful c.args.disk.now tells) (c.loop-here.invariant.told tells) (c.pass_some.ensures.told tells);
      window = λ tells. c.in_ok-here.ensures.window tells;
      before = number.1;
      mark = λ segment tells knows mark.
          let lawful = g.met.D.Disk.lawful c.args.disk.now tells in
          let reads = (g.D.Disk.moment c.args.disk.now).reads in
          let holds = subst (λ (n : ℕ). HoldsSegment slot.at (n + 1) segment reads) (sym knows.gate) (holds_front slot.at slot.size segment reads (omega (arith, c.requires.place, lawful.reads_size)) knows.holds) in
          let holds_now = subst (HoldsSegment slot.at (slot.gate + 1) segment) (sym (c.loop-here.invariant.told tells).same) holds in
          c.in_ok-here.ensures.passed segment tells holds_now knows.sound (c.loop-here.invariant.mark segment tells knows mark) (omega (arith, c.requires.ends, knows.first, knows.count));
    }

pub returns-in_err-here-clause-mark : goal.returns-in_err-here-clause-mark
returns-in_err-here-clause-mark g c = λ segment tells knows mark.
    let slot = c.args.self.now in
    let lawful = g.met.D.Disk.lawful c.args.disk.now tells in
    let reads = (g.D.Disk.moment c.args.disk.now).reads in
    let holds = subst (λ (n : ℕ). HoldsSegment slot.at (n + 1) segment reads) (sym knows.gate) (holds_front slot.at slot.size segment reads (omega (arith, c.requires.place, lawful.reads_size)) knows.holds) in
    let holds_now = subst (HoldsSegment slot.at (slot.gate + 1) segment) (sym (c.loop-here.invariant.told tells).same) holds in
    handed _ _ _ _ c.from_residual.ensures.1 (c.in_err-here.ensures.passed segment tells holds_now knows.sound (c.loop-here.invariant.mark segment tells knows mark) (omega (arith, c.requires.ends, knows.first, knows.count)))

use Rattle.std.proofs.Common.{arith}
use Rattle.spool_state.proofs.Entries.{entry_here, length-entries_more}
use Rattle.spool_slots.proofs.append.group_need.Goals as goal

pub loop-entry-preserved : goal.loop-entry-preserved
loop-entry-preserved c =
    let e = c.entry-item.result in
    let lt = c.loop-entry-test.true in
    let limits = entry_here c.args.entries.now c.loop-entry.entry-index e c.requires.limits lt c.entry-item.is in
    let more = length-entries_more c.args.entries.now c.loop-entry.entry-index e lt c.entry-item.is in
    record {
      so_far = omega (arith, c.loop-entry.invariant.so_far, c.entry_size-need.ensures, more);
      small = omega (arith, c.loop-entry.invariant.small, c.entry_size-need.ensures, limits.event.short);
    }

use Rattle.std.proofs.Common.{◌≡◌, ◌-◌, ◌^◌, ◌≤◌, []}
use Rattle.spool_state.specs.SpoolState.{SpoolState}
use Rattle.edge_disk.specs.Calls.{Calls}
use Rattle.edge_disk.specs.Disk.{LeavesOnly}
use Rattle.spool_log.specs.Memory.{end_of}
use Rattle.spool_log.specs.State.{view, IsIn}
use Rattle.commands.specs.Listed.{PrintsPart}
use Rattle.commands.proofs.listing.print_left.Given as goal

abbrev pub decreases-loop-next : goal.decreases-loop-next
decreases-loop-next g l = 2 ^ 64 - l.number

abbrev pub invariant-loop-next : goal.invariant-loop-next
invariant-loop-next g l = record {
  within : l.number ≤ end_of l.spool.memory;
  calls : Calls ⊥ (g.D.Disk.moment l.initial.spool.disk) (g.D.Disk.moment l.spool.disk);
  writes : g.K.Sink.write_faults l.output ≡ g.K.Sink.write_faults l.initial.output;
  goes : (s : SpoolState) → g.D.Disk.tells → IsIn s [] (view l.initial.spool.memory l.initial.spool.doubt (g.D.Disk.moment l.initial.spool.disk))
      → IsIn s [] (view l.spool.memory l.spool.doubt (g.D.Disk.moment l.spool.disk))
      × LeavesOnly (g.D.Disk.moment l.initial.spool.disk).image (g.D.Disk.moment l.initial.spool.disk) (g.D.Disk.moment l.spool.disk)
      × PrintsPart l.form s 0 l.number (g.K.Sink.taken l.initial.output) (g.K.Sink.taken l.output);
}

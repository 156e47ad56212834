use Rattle.std.proofs.Common.{◌≡◌, ◌++◌, ◌-◌, ◌^◌, ◌≤◌, List, []}
use Rattle.edge_disk.specs.Calls.{Calls}
use Rattle.edge_disk.specs.Disk.{LeavesOnly}
use Rattle.spool_state.specs.SpoolState.{SpoolState}
use Rattle.spool_state.specs.Left.{NumberedEntry, left, left_from}
use Rattle.spool_log.specs.Memory.{end_of}
use Rattle.spool_log.specs.State.{view, IsIn}
use Rattle.bridge_restore.specs.Fresh.{IsFresh}
use Rattle.bridge_restore.proofs.fresh.see_fresh.Given as goal

abbrev pub decreases-loop-page : goal.decreases-loop-page
decreases-loop-page g l = 2 ^ 64 - l.from

abbrev pub invariant-loop-page : goal.invariant-loop-page
invariant-loop-page g l = record {
  within : l.from ≤ end_of l.target.memory;
  calls : Calls ⊥ (g.E.Disk.moment l.initial.target.disk) (g.E.Disk.moment l.target.disk);
  seen : (u : SpoolState) → g.E.Disk.tells → IsIn u [] (view l.initial.target.memory l.initial.target.doubt (g.E.Disk.moment l.initial.target.disk))
      → (before : List NumberedEntry) × (left u ≡ before ++ left_from u l.from) × IsFresh l.tag before;
  kept : (u : SpoolState) → g.E.Disk.tells → IsIn u [] (view l.initial.target.memory l.initial.target.doubt (g.E.Disk.moment l.initial.target.disk))
      → IsIn u [] (view l.target.memory l.target.doubt (g.E.Disk.moment l.target.disk))
      × LeavesOnly (g.E.Disk.moment l.initial.target.disk).image (g.E.Disk.moment l.initial.target.disk) (g.E.Disk.moment l.target.disk);
}

use Rattle.std.proofs.Common.{◌++◌, List, [], take}
use Rattle.edge_disk.specs.Calls.{Calls}
use Rattle.edge_disk.specs.Disk.{LeavesOnly}
use Rattle.spool_state.specs.SpoolState.{SpoolState}
use Rattle.spool_state.specs.Left.{NumberedEntry}
use Rattle.spool_answers.specs.Pend.{given_entries}
use Rattle.spool_log.specs.State.{view, IsIn}
use Rattle.spool_move.specs.Reading.{IsSearched}
use Rattle.spool_move.proofs.presence.look_at_page.Given as goal

abbrev pub invariant-loop-one : goal.invariant-loop-one
invariant-loop-one g l = record {
  calls : Calls ⊥ (g.D.Disk.moment l.initial.source.disk) (g.D.Disk.moment l.source.disk);
  looked : (m : SpoolState) (before : List NumberedEntry) → g.D.Disk.tells → IsIn m [] (view l.initial.source.memory l.initial.source.doubt (g.D.Disk.moment l.initial.source.disk))
      → IsSearched l.tag m before l.initial.present → IsSearched l.tag m (before ++ given_entries (take l.one-index l.page)) l.present;
  kept : (m : SpoolState) → g.D.Disk.tells → IsIn m [] (view l.initial.source.memory l.initial.source.doubt (g.D.Disk.moment l.initial.source.disk))
      → IsIn m [] (view l.source.memory l.source.doubt (g.D.Disk.moment l.source.disk))
      × LeavesOnly (g.D.Disk.moment l.initial.source.disk).image (g.D.Disk.moment l.initial.source.disk) (g.D.Disk.moment l.source.disk);
}

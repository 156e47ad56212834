use Rattle.std.proofs.Common.{◌-◌, ◌^◌, ◌≤◌}
use Rattle.edge_disk.specs.Calls.{Calls}
use Rattle.spool_state.specs.SpoolState.{SpoolState}
use Rattle.spool_log.specs.State.{view}
use Rattle.spool_move.specs.Stands.{IsMoving}
use Rattle.spool_move.specs.Turns.{LeavesBoth}
use Rattle.spool_move.specs.Walking.{IsOnCourse, IsUnderWay}
use Rattle.spool_move.proofs.walking.pages.move_all.Given as goal

abbrev pub decreases-loop : goal.decreases-loop
decreases-loop g l = 2 ^ 64 - l.course.upto

abbrev pub invariant-loop : goal.invariant-loop
invariant-loop g l = record {
  few : l.course.taken ≤ l.course.upto;
  source_calls : Calls ⊥ (g.D.Disk.moment l.initial.source.disk) (g.D.Disk.moment l.source.disk);
  target_calls : Calls ⊥ (g.E.Disk.moment l.initial.target.disk) (g.E.Disk.moment l.target.disk);
  under_way : g.D.Disk.tells → g.E.Disk.tells → IsUnderWay l.tag l.present l.course
      (view l.source.memory l.source.doubt (g.D.Disk.moment l.source.disk)) (view l.target.memory l.target.doubt (g.E.Disk.moment l.target.disk));
  walks : (m u : SpoolState) → g.D.Disk.tells → g.E.Disk.tells → IsOnCourse l.tag m u l.present (record { upto = 0; taken = 0 })
      (view l.initial.source.memory l.initial.source.doubt (g.D.Disk.moment l.initial.source.disk)) (view l.initial.target.memory l.initial.target.doubt (g.E.Disk.moment l.initial.target.disk))
      → IsOnCourse l.tag m u l.present l.course
      (view l.source.memory l.source.doubt (g.D.Disk.moment l.source.disk)) (view l.target.memory l.target.doubt (g.E.Disk.moment l.target.disk))
      × LeavesBoth g.D.Disk.moment g.E.Disk.moment (IsMoving l.tag m u) l.initial.source.disk l.initial.target.disk l.source.disk l.target.disk;
}

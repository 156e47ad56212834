-- A rescue over a disk that another one holds.
use Rattle.edge_disk.specs.Disk.{Moment}
use Rattle.std.specs.Prelude.{Option}
use Rattle.notes.specs.declared.note.Note.{Note}
use Rattle.bridge_parts.specs.Run.{OutputRun}
use Rattle.bridge_rescue.specs.declared.layout.Layout.{Layout}
use Rattle.bridge_rescue.specs.declared.rescued.Report.{Report}
use Rattle.bridge_rescue.specs.RescueRun.{IsRescueRun}

-- of which value it is nothing is said
pub of_any_value : (given : Option Layout) (tells : Type 0) (old new : Moment) (same other : Type 0) (output : OutputRun) (report : Option Report) (note : Note)
    → IsRescueRun given (record { tells = tells; old = old; new = new; same = same }) output report note
    → IsRescueRun given (record { tells = tells; old = old; new = new; same = other }) output report note
of_any_value given tells old new same other output report note run = record {
  known = run.known;
  calls = run.calls;
  writes = run.writes;
  unchanged = run.unchanged;
  silent = run.silent;
  done = run.done;
}

-- A rescue from one disk into another, each of which another one holds.
use Rattle.std.proofs.Common.{◌≡◌, ℕ, List, inl, inr, ap}
use Rattle.std.specs.Prelude.{Option, None, Some}
use Rattle.edge_disk.specs.Disk.{Moment}
use Rattle.spool_state.specs.SpoolState.{OpenSlot}
use Rattle.notes.specs.declared.note.Note.{Note}
use Rattle.bridge_parts.specs.Run.{DiskRun, disk_run}
use Rattle.bridge_rescue.specs.declared.layout.Layout.{Layout}
use Rattle.bridge_rescue.specs.declared.rescued.Report.{Report}
use Rattle.bridge_restore.specs.Into.{GoesInto}
use Rattle.bridge_restore.specs.RestoreRun.{Restores, IsRestoreRun}

abbrev run_as : Type 0 → Moment → Moment → Type 0 → DiskRun
run_as tells old new same = record { tells = tells; old = old; new = new; same = same }

-- ---- of which value the other disk is nothing is said, but where it was left alone

module _ (tells : Type 0) (old new : Moment) (same other : Type 0) where
  goes_as : (tag : ℕ) (found : List OpenSlot) (why : Option Note) (count : ℕ) → GoesInto tag found (run_as tells old new same) why count
      → GoesInto tag found (run_as tells old new other) why count
  goes_as tag found why count (inl un) = inl (
    record { fault = un.0.fault; why_is = un.0.why_is; broken = un.0.broken; any_moment = un.0.any_moment },
    un.1,
  )
  goes_as tag found why count (inr did) = inr (record {
    result = did.result;
    memory = did.memory;
    doubt = did.doubt;
    why_is = did.why_is;
    stores = λ told.
        let f = did.stores told in
        record {
          u = f.u;
          stood = f.stood;
          front = f.front;
          rest = f.rest;
          parts = f.parts;
          t = f.t;
          taken = f.taken;
          count_is = f.count_is;
          ends = f.ends;
          any_moment = f.any_moment;
        };
  })

  restores_as : (given : Option Layout) (tag : ℕ) (c : List ℕ) (report : Option Report) (stored : ℕ) (note : Note) → Restores given tag c report (run_as tells old new same) stored note
      → Restores given tag c report (run_as tells old new other) stored note
  restores_as given tag c None stored note did = did
  restores_as given tag c (Some report) stored note did = record {
    size = did.size;
    found = did.found;
    layout = did.layout;
    judged = did.judged;
    counted = did.counted;
    missing = did.missing;
    why = did.why;
    goes = goes_as tag did.found did.why stored did.goes;
    ends = did.ends;
  }

-- what was done over both is done over those that they hold
pub restores_held : {D E V W : Type 0} (tells told : Type 0) (moment : D → Moment) (onto : E → Moment) (disk_of : V → D) (target_of : W → E) (v v' : V) (w w' : W) (given : Option Layout)
    (tag : ℕ) (report : Option Report) (stored : ℕ) (note : Note)
    → IsRestoreRun given tag (disk_run tells (λ (x : V). moment (disk_of x)) v v') (disk_run told (λ (x : W). onto (target_of x)) w w') report stored note
    → IsRestoreRun given tag (disk_run tells moment (disk_of v) (disk_of v')) (disk_run told onto (target_of w) (target_of w')) report stored note
restores_held tells told moment onto disk_of target_of v v' w w' given tag report stored note run = record {
  known = run.known;
  calls = run.calls;
  unchanged = run.unchanged;
  alone = λ none.
      let did = run.alone none in (
        record { same = ap target_of did.0.same; size = did.0.size; faults = did.0.faults },
        did.1,
      );
  done = λ tells'.
      restores_as told (onto (target_of w)) (onto (target_of w')) (w' ≡ w) (target_of w' ≡ target_of w) given tag (moment (disk_of v)).reads report stored note (run.done tells');
}

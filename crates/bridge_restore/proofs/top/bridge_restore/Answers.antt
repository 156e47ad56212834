use Rattle.std.proofs.Common.{ℕ, List, inl, inr, refl, ap, sym, subst}
use Rattle.std.specs.Prelude.{Err}
use Rattle.edge_disk.proofs.Calls.{calls_none, calls_as}
use Rattle.edge_disk.proofs.Moments.{untouched_then}
use Rattle.bridge_parts.specs.Run.{disk_run}
use Rattle.bridge_rescue.specs.RescueRun.{IsLayoutOf}
use Rattle.bridge_restore.specs.RestoreRun.{Restores}
use Rattle.bridge_restore.proofs.Finishing.{header_known, calls_later}
use Rattle.bridge_restore.proofs.top.bridge_restore.Goals as goal

-- there is a layout
pub returns-in-Ok-clause-run : goal.returns-in-Ok-clause-run
returns-in-Ok-clause-run g c =
    let first = c.in-Ok.ensures in
    let target = disk_run g.E.Disk.tells g.E.Disk.moment c.args.target c.restore_slots.result.target in
    let layout = λ (tells : g.D.Disk.tells).
    subst (λ (l : List ℕ). IsLayoutOf c.args.given l c.in-Ok.layout.slots c.in-Ok.layout.size) (sym (first.told tells).same) (first.found tells) in
    let did = c.restore_slots.ensures.run c.args.given layout in
    record {
      known = did.known;
      calls = calls_later _ _ _ _ _ _ _ _ (calls_as _ ⊥ _ _ first.calls (λ never. absurd never) (λ is. absurd (cc))) did.calls;
      unchanged = λ tells. untouched_then _ _ _ (g.met.D.Disk.lawful c.args.disk tells) (first.told tells) (did.unchanged tells);
      alone = did.alone;
      done = λ tells.
          subst (λ (l : List ℕ). Restores c.args.given c.args.tag l c.restore_slots.result.report target c.restore_slots.result.stored c.restore_slots.result.note)
          (first.told tells).same (did.done tells);
    }

-- there is no layout
pub returns-in-Err-clause-run : goal.returns-in-Err-clause-run
returns-in-Err-clause-run g c =
    let first = c.in-Err.ensures in
    rw (c.of.ensures.note, c.of.ensures.report, c.of.ensures.stored, c.of.ensures.disk, c.of.ensures.target)
    record {
      known = header_known c.in-Err.note first.known;
      calls = inl (calls_as _ _ _ _ first.calls (λ by. ap Err by) (λ is. cc), calls_none _);
      unchanged = first.told;
      alone = λ none. (record { same = refl; size = refl; faults = refl }, refl);
      done = λ tells. inl (first.broken tells);
    }

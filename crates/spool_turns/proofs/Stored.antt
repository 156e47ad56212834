-- Takes that were stored as one group, from where the journal led to.
use Rattle.std.proofs.Common.{◌≡◌, ℕ, List, ◌∷◌, sym, ap, ◌∙◌, subst}
use Rattle.std.specs.Prelude.{Result, None}
use Rattle.atomic_table.specs.Table.{Me}
use Rattle.event_form.specs.declared.event.Entry.{Entry}
use Rattle.spool_answers.specs.declared.receipt.Receipt.{Receipt}
use Rattle.spool_faults.specs.declared.fault.TakeFault.{TakeFault}
use Rattle.edge_disk.specs.declared.disk.Disk.{Ghosts}
use Rattle.hec_ids.specs.Table.{Table}
use Rattle.hec_ids.specs.Table as Ids
use Rattle.desk_access.specs.Division.{DividedRun}
use Rattle.desk_access.specs.declared.standing.Standing.{Standing}
use Rattle.desk_access.specs.JointRecords.{Part, joined, ArePartsOf, joint_of}
use Rattle.desk_access.specs.Desk.{DeskState}
use Rattle.spool_desk.specs.declared.alone.Alone.{Alone}
use Rattle.spool_desk.specs.Alone.{alone_at, RunsTo}
use Rattle.spool_desk.specs.Standing.{standing_in}
use Rattle.spool_turns.specs.declared.view.Twin.{Twin}
use Rattle.spool_turns.specs.Rules.{View}
use Rattle.spool_turns.specs.Passes.{Beginning}
use Rattle.spool_turns.specs.Stands.{with_ids, IsKept, AreMade, IsStoredAll}
use Rattle.spool_turns.proofs.OtherIds.{runs_beside, joint_of_spool}

-- once the two seats met
pub stored_all : {D : Type 0} (disks : Ghosts D) (start : DeskState → Type 0) (run : DividedRun) (seats : ℕ) (began : Beginning) (ids : Table) (me : Me ℕ View) (twin other : Me (Alone D disks) (Twin (Alone D disks)))
    (entries : List Entry) (before : Standing) (result : Result Receipt TakeFault) (now : Alone D disks) (kept : IsKept disks start run seats began ids me twin) (done : AreMade disks entries before result other now)
    → done.from ≡ kept.desk → IsStoredAll disks start run seats began ids me entries before result now
stored_all {D = D} disks start run seats began ids me twin other entries before result now kept done same = record {
  from = kept.desk;
  turn = kept.turn;
  replays = kept.replays;
  met = kept.met;
  unused = subst (λ (t : Table). Ids.IsSound t × (t.run ≡ ids.run)) (sym (done.same_ids ∙ ap (λ (a : Alone D disks). a.desk.ids) same)) kept.unused;
  standing = done.standing ∙ ap (λ (a : Alone D disks). standing_in a.desk.spool.memory) same;
  made = λ part parts are all.
      runs_beside disks.tells ids None None (alone_at kept.desk) (alone_at now) (joint_of result (disks.moment now.desk.spool.disk).clock before (part ∷ parts))
      (joint_of_spool result (disks.moment now.desk.spool.disk).clock before (part ∷ parts)) kept.unused.0 kept.unused.1
      (subst (λ (a : Alone D disks). RunsTo disks.tells (alone_at a) (joint_of result (disks.moment now.desk.spool.disk).clock before (part ∷ parts)) (alone_at now)) same (done.made part parts are all));
  only = done.only;
}

-- by the numbers that memory had, and by the entries as a slice
pub stored_made : {D : Type 0} (disks : Ghosts D) (start : DeskState → Type 0) (run : DividedRun) (seats : ℕ) (began : Beginning) (ids : Table) (me : Me ℕ View) (entries slice : List Entry) (before : Standing)
    (result : Result Receipt TakeFault) (now : Alone D disks) → slice ≡ entries → (s : IsStoredAll disks start run seats began ids me entries before result now)
    → (part : Part) (parts : List Part) → joined (part ∷ parts) ≡ slice → ArePartsOf (part ∷ parts)
    → RunsTo disks.tells (with_ids ids None (alone_at s.from)) (joint_of result (disks.moment now.desk.spool.disk).clock (standing_in s.from.desk.spool.memory) (part ∷ parts)) (with_ids ids None (alone_at now))
stored_made disks start run seats began ids me entries slice before result now same s part parts are all =
    subst (λ (k : Standing). RunsTo disks.tells (with_ids ids None (alone_at s.from)) (joint_of result (disks.moment now.desk.spool.disk).clock k (part ∷ parts)) (with_ids ids None (alone_at now))) s.standing
    (s.made part parts (are ∙ same) all)

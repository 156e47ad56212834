-- Where a desk stands whose spool and whose ids have a lock each: the spool as its last call left it, and the ids as they are.
use Rattle.std.specs.Prelude.{◌≡◌, ℕ, ◌-◌, ◌≤◌, List, [], ◌∷◌, false, Option, None, Some, Result, IfErr}
use Rattle.atomic_table.specs.Table.{Me}
use Rattle.event_form.specs.declared.event.Entry.{Entry}
use Rattle.spool_answers.specs.declared.receipt.Receipt.{Receipt}
use Rattle.spool_faults.specs.declared.fault.TakeFault.{TakeFault}
use Rattle.spool_faults.specs.declared.fault.TakeFault.TheVariants as Take
use Rattle.edge_disk.specs.declared.disk.Disk.{Ghosts}
use Rattle.hec_ids.specs.Table.{Table}
use Rattle.hec_ids.specs.Table as Ids
use Rattle.desk_access.specs.Division.{DividedRun}
use Rattle.desk_access.specs.declared.standing.Standing.{Standing}
use Rattle.desk_access.specs.Call.{Call, counts, issues, settles, forgets, asks, Record}
use Rattle.desk_access.specs.JointRecords.{Part, joined, ArePartsOf, joint_of}
use Rattle.desk_access.specs.Desk.{DeskState}
use Rattle.desk_access.specs.Legal.{Met}
use Rattle.spool_desk.specs.declared.alone.Alone.{Alone}
use Rattle.spool_desk.specs.Alone.{AloneView, alone_view, alone_at, Makes, RunsTo}
use Rattle.spool_desk.specs.Standing.{standing_in}
use Rattle.spool_turns.specs.Rules.{View}
use Rattle.spool_turns.specs.declared.view.Twin.{Twin}
use Rattle.spool_turns.specs.declared.view.Twin.TheVariants.{OfJournal}
use Rattle.spool_turns.specs.Twins.{of_spool, of_journal}
use Rattle.spool_turns.specs.Passes.{Beginning, IsTurn, facts_in}
use Rattle.spool_turns.specs.Replays.{Replays}

-- the desk with these ids in place of its own, and the numbers that a call met
abbrev pub with_ids : Table → Option Standing → AloneView → AloneView
with_ids ids met v = alone_view v.spool ids met v.end_known v.cursor_known

-- the words of the end and the cursor are no less than what memory has
abbrev pub IsTold : AloneView → Type 0
IsTold v = ((standing_in v.spool.memory).end ≤ v.end_known) × ((standing_in v.spool.memory).cursor ≤ v.cursor_known)

-- the call is one of the spool, and leaves the ids alone
abbrev pub IsOfSpool : Call → Type 0
IsOfSpool (issues channel result) = ⊥
IsOfSpool (settles channel id answer) = ⊥
IsOfSpool (forgets channel id answer) = ⊥
IsOfSpool (asks channel ids known) = ⊥
IsOfSpool _ = Unit {0}

abbrev pub AreOfSpool : List Record → Type 0
AreOfSpool [] = Unit {0}
AreOfSpool (one ∷ records) = IsOfSpool one.call × AreOfSpool records

-- What lies under the lock of the journal: its seat, the seat that knows where the spool's last call left the desk, and the ids. The
-- journal led to there, with these ids.
pub record IsKept {D : Type 0} (disks : Ghosts D) (start : DeskState → Type 0) (run : DividedRun) (seats : ℕ) (began : Beginning) (ids : Table) (me : Me ℕ View) (twin : Me (Alone D disks) (Twin (Alone D disks))) : Type 0 where
  pub desk : Alone D disks
  pub twin_is : twin ≡ of_journal desk
  pub turn : IsTurn seats me (with_ids ids None (alone_at desk))
  pub replays : Replays disks.tells start run began (facts_in me.0).log (with_ids ids None (alone_at desk))
  pub met : Met run (seats - 1) [] (facts_in me.0).log
  pub told : IsTold (alone_at desk)
  -- the desk's own ids aren't used
  pub unused : Ids.IsSound desk.desk.ids × (desk.desk.ids.run ≡ ids.run)

-- A call of the spool was made, from where the spool's seat knows the desk to be.
pub record IsMade {D : Type 0} (disks : Ghosts D) (call : Call) (twin : Me (Alone D disks) (Twin (Alone D disks))) (now : Alone D disks) : Type 0 where
  pub before : Alone D disks
  pub twin_is : twin ≡ of_spool before
  pub of_spool_is : IsOfSpool call
  pub makes : Makes disks.tells (alone_at before) call (alone_at now)
  pub same_ids : now.desk.ids ≡ before.desk.ids

-- The takes of any parts of these entries were made as one group, where those numbers stood, from where the spool's seat knows the desk
-- to be.
pub record AreMade {D : Type 0} (disks : Ghosts D) (entries : List Entry) (before : Standing) (result : Result Receipt TakeFault)
    (twin : Me (Alone D disks) (Twin (Alone D disks))) (now : Alone D disks) : Type 0 where
  pub from : Alone D disks
  pub twin_is : twin ≡ of_spool from
  pub standing : before ≡ standing_in from.desk.spool.memory
  pub made : (part : Part) (parts : List Part) → joined (part ∷ parts) ≡ entries → ArePartsOf (part ∷ parts)
      → RunsTo disks.tells (alone_at from) (joint_of result (disks.moment now.desk.spool.disk).clock before (part ∷ parts)) (alone_at now)
  pub only : IfErr result (λ fault. fault ≡ Take.DiskFault)
  pub same_ids : now.desk.ids ≡ from.desk.ids

-- The same, once the two seats met: from where the journal led to.
pub record IsStoredAll {D : Type 0} (disks : Ghosts D) (start : DeskState → Type 0) (run : DividedRun) (seats : ℕ) (began : Beginning) (ids : Table) (me : Me ℕ View)
    (entries : List Entry) (before : Standing) (result : Result Receipt TakeFault) (now : Alone D disks) : Type 0 where
  pub from : Alone D disks
  pub turn : IsTurn seats me (with_ids ids None (alone_at from))
  pub replays : Replays disks.tells start run began (facts_in me.0).log (with_ids ids None (alone_at from))
  pub met : Met run (seats - 1) [] (facts_in me.0).log
  pub unused : Ids.IsSound now.desk.ids × (now.desk.ids.run ≡ ids.run)
  pub standing : before ≡ standing_in from.desk.spool.memory
  pub made : (part : Part) (parts : List Part) → joined (part ∷ parts) ≡ entries → ArePartsOf (part ∷ parts)
      → RunsTo disks.tells (with_ids ids None (alone_at from)) (joint_of result (disks.moment now.desk.spool.disk).clock before (part ∷ parts)) (with_ids ids None (alone_at now))
  pub only : IfErr result (λ fault. fault ≡ Take.DiskFault)

-- the record of a call of the ids: the numbers are those that the spool's last call left, and so is the clock
abbrev pub idle_record : {D : Type 0} {disks : Ghosts D} → Call → Twin (Alone D disks) → Record
idle_record {disks = disks} call (OfJournal a) = record {
  by = 0;
  call = call;
  joins = false;
  met = Some (standing_in a.desk.spool.memory);
  after = standing_in a.desk.spool.memory;
  clock = (disks.moment a.desk.spool.disk).clock;
}
idle_record call v = record {
  by = 0;
  call = call;
  joins = false;
  met = None;
  after = record { base = 0; end = 0; cursor = 0; known_count = 0; room = 0 };
  clock = 0;
}

-- How a rescue ends.
use Rattle.std.proofs.Common.{◌≡◌, ◌≢◌, ◌⊎◌, inl, inr, ℕ, ◌+◌, List, length, refl, sym, ◌∙◌, ap, subst}
use Rattle.std.specs.Prelude.{Some, Result, Ok, Err, IsErrOf}
use Rattle.std.specs.Result.{IsErrAnd}
use Rattle.edge_disk.specs.Calls.{Calls}
use Rattle.edge_disk.specs.Disk.{Moment}
use Rattle.edge_disk.proofs.Calls.{calls_then}
use Rattle.spool_state.specs.SpoolState.{OpenSlot, entries_in}
use Rattle.spool_slots.specs.declared.fault.ScanFault.{ScanFault}
use Rattle.spool_slots.specs.declared.fault.ScanFault.TheVariants as Scan
use Rattle.notes.specs.declared.note.Note.{Note}
use Rattle.notes.specs.declared.note.Note.TheVariants.{Fine, NotSpool, NoMemory, WriteFault, DiskFault}
use Rattle.bridge_parts.specs.Run.{OutputRun}
use Rattle.bridge_rescue.specs.declared.layout.Layout.{Layout}
use Rattle.bridge_rescue.specs.declared.fault.SlotFault.{SlotFault}
use Rattle.bridge_rescue.specs.declared.found.Found.{Found}
use Rattle.bridge_rescue.specs.declared.gaps.Span.{Span}
use Rattle.bridge_rescue.specs.declared.rescued.Report.{Report}
use Rattle.bridge_rescue.specs.Layout.{IsHeaderNote}
use Rattle.bridge_rescue.specs.Faults.{HasUnread, IsVerdict, broken_in}
use Rattle.bridge_rescue.specs.Gaps.{gaps_in, spans_of}
use Rattle.bridge_rescue.specs.Slots.{AreJudged}
use Rattle.bridge_rescue.specs.Lines.{IsLineNote, IsPrintNote}
use Rattle.bridge_rescue.specs.Looking.{AreKnown, note_of_scan}
use Rattle.bridge_rescue.specs.RescueRun.{IsLayoutOf, IsRescueNote, Ends, RescuesBy}
use Rattle.bridge_rescue.proofs.Gapping.{same_spans}

-- ---- notes

pub verdict_known : (faults : List SlotFault) (gaps : List Span) (note : Note) → IsVerdict faults gaps note → IsRescueNote note
verdict_known faults gaps Fine is = tt
verdict_known faults gaps (NotSpool at) is = tt
verdict_known faults gaps DiskFault is = tt
verdict_known faults gaps note is = absurd is

pub verdict_unread : (faults : List SlotFault) (gaps : List Span) (note : Note) → IsVerdict faults gaps note → note ≡ DiskFault → HasUnread faults
verdict_unread faults gaps note is by = subst (IsVerdict faults gaps) by is

pub verdict_written : (faults : List SlotFault) (gaps : List Span) (note : Note) → IsVerdict faults gaps note → note ≡ WriteFault → ⊥
verdict_written faults gaps note is by = subst (IsVerdict faults gaps) by is

pub print_known : (note : Note) → IsPrintNote note → IsRescueNote note
print_known (NotSpool at) is = tt
print_known DiskFault is = tt
print_known NoMemory is = tt
print_known WriteFault is = tt
print_known note is = absurd is

pub print_unfinished : (note : Note) → IsPrintNote note → note ≢ Fine
print_unfinished note is by = subst IsPrintNote by is

pub line_print : (note : Note) → IsLineNote note → IsPrintNote note
line_print NoMemory is = tt
line_print WriteFault is = tt
line_print note is = absurd is

pub line_read : (note : Note) → IsLineNote note → note ≡ DiskFault → ⊥
line_read note is by = subst IsLineNote by is

pub line_unfinished : (note : Note) → IsLineNote note → note ≡ Fine → ⊥
line_unfinished note is by = subst IsLineNote by is

-- ---- calls of the disk

module _ (faults : List SlotFault) (old mid new : Moment) (looked : Calls (HasUnread faults) old mid) where
  pub calls_whole : (gaps : List Span) (note : Note) (count : ℕ) → IsVerdict faults gaps note → Calls (IsErrOf {T = ℕ} (Ok count) DiskFault) mid new
      → Calls ((note ≡ DiskFault) ⊎ HasUnread faults) old new
  calls_whole gaps note count is printed =
      calls_then (HasUnread faults) (IsErrOf {T = ℕ} (Ok count) DiskFault) ((note ≡ DiskFault) ⊎ HasUnread faults) old mid new looked printed
      (λ f. elim f [ inl by ↦ inl (verdict_unread faults gaps note is by) | inr has ↦ inl has ])
      (λ none. ((λ has. none (inr has)), λ e. cc))

  pub calls_stopped : (note : Note) → Calls (IsErrOf {T = ℕ} (Err note) DiskFault) mid new → Calls ((note ≡ DiskFault) ⊎ HasUnread faults) old new
  calls_stopped note printed =
      calls_then (HasUnread faults) (IsErrOf {T = ℕ} (Err note) DiskFault) ((note ≡ DiskFault) ⊎ HasUnread faults) old mid new looked printed
      (λ f. elim f [ inl by ↦ inr (ap Err by) | inr has ↦ inl has ])
      (λ none. ((λ has. none (inr has)), λ e. none (inl (cc))))

-- ---- what was found and printed

pub rescues_by : (layout : Layout) (c : List ℕ) (sound : List OpenSlot) (items : List Found) (report : Report) (output : OutputRun) (note : Note)
    → AreKnown sound items c → AreJudged layout.slots layout.size c sound report.faults.items → report.slots ≡ layout.slots → report.sound + broken_in report.faults.items ≡ length sound
    → report.gaps.items ≡ gaps_in (spans_of items)
    → Ends report (entries_in sound) output note → RescuesBy layout c (Some report) output note
rescues_by layout c sound items report output note known judged slots_are counted missing ends = λ given is. record {
  size = layout.size;
  found = sound;
  layout = subst (λ (n : ℕ). IsLayoutOf given c n layout.size) (sym slots_are) is;
  judged = subst (λ (n : ℕ). AreJudged n layout.size c sound report.faults.items) (sym slots_are) judged;
  counted = counted;
  missing = missing ∙ ap gaps_in (same_spans sound items c known);
  ends = ends;
}

-- ---- with no report

pub header_known : (note : Note) → IsHeaderNote note → IsRescueNote note
header_known (NotSpool at) is = tt
header_known DiskFault is = tt
header_known note is = absurd is

pub header_written : (note : Note) → IsHeaderNote note → note ≡ WriteFault → ⊥
header_written note is by = subst IsHeaderNote by is

-- ---- errors that are handed on

pub err_note : {T : Type 0} (r : Result T Note) (note other : Note) → IsErrAnd r (λ x. x ≡ note) → r ≡ Err other → note ≡ other
err_note (Ok x) note other is by = absurd is
err_note (Err e) note other is by = let same : e ≡ other = cc in sym is ∙ same

pub scan_known : (fault : ScanFault) → IsPrintNote (note_of_scan fault)
scan_known (Scan.NotSpool at) = tt
scan_known Scan.DiskFault = tt
scan_known Scan.NoMemory = tt

pub scan_written : (fault : ScanFault) → note_of_scan fault ≡ WriteFault → ⊥
scan_written (Scan.NotSpool at) is = cc
scan_written Scan.DiskFault is = cc
scan_written Scan.NoMemory is = cc

pub scan_failed : (fault : ScanFault) → note_of_scan fault ≡ DiskFault → fault ≡ Scan.DiskFault
scan_failed Scan.DiskFault is = refl
scan_failed fault is = absurd (cc)

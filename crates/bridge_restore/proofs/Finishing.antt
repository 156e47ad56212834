-- How a rescue into another spool ends.
use Rattle.std.proofs.Common.{◌≡◌, ◌⊎◌, inl, inr, ℕ, ◌+◌, List, length, refl, sym, ◌∙◌, ap, subst}
use Rattle.std.specs.Prelude.{Option, None, Some, IfSome}
use Rattle.edge_disk.specs.Calls.{Calls}
use Rattle.edge_disk.specs.Disk.{Moment}
use Rattle.edge_disk.proofs.Calls.{calls_as, calls_on, calls_then}
use Rattle.spool_state.specs.SpoolState.{OpenSlot}
use Rattle.notes.specs.declared.note.Note.{Note}
use Rattle.notes.specs.declared.note.Note.TheVariants.{Fine, NotSpool, DiskFault}
use Rattle.bridge_parts.specs.Run.{DiskRun}
use Rattle.bridge_rescue.specs.declared.fault.SlotFault.{SlotFault}
use Rattle.bridge_rescue.specs.declared.found.Found.{Found}
use Rattle.bridge_rescue.specs.declared.gaps.Span.{Span}
use Rattle.bridge_rescue.specs.declared.layout.Layout.{Layout}
use Rattle.bridge_rescue.specs.declared.rescued.Report.{Report}
use Rattle.bridge_rescue.specs.Faults.{HasUnread, IsVerdict, broken_in}
use Rattle.bridge_rescue.specs.Gaps.{gaps_in, spans_of}
use Rattle.bridge_rescue.specs.Layout.{IsHeaderNote}
use Rattle.bridge_rescue.specs.Looking.{AreKnown}
use Rattle.bridge_rescue.specs.RescueRun.{IsLayoutOf}
use Rattle.bridge_rescue.specs.Slots.{AreJudged}
use Rattle.bridge_rescue.proofs.Ending.{verdict_unread}
use Rattle.bridge_rescue.proofs.Gapping.{same_spans}
use Rattle.bridge_restore.specs.Into.{GoesInto, IsStoreNote, TellsTwo}
use Rattle.bridge_restore.specs.RestoreRun.{EndsBy, EndsWith, IsRestoreNote, RestoresSlots}

-- ---- notes

store_known : (note : Note) → IsStoreNote note → IsRestoreNote note
store_known Fine is = tt
store_known note is = is

verdict_known : (faults : List SlotFault) (gaps : List Span) (note : Note) → IsVerdict faults gaps note → IsRestoreNote note
verdict_known faults gaps Fine is = tt
verdict_known faults gaps (NotSpool at) is = tt
verdict_known faults gaps DiskFault is = tt
verdict_known faults gaps note is = absurd is

pub ends_known : (why : Option Note) (count : ℕ) (faults : List SlotFault) (gaps : List Span) (ended : Note × Option ℕ) → IfSome why IsStoreNote → EndsWith why count faults gaps ended
    → IsRestoreNote ended.0
ends_known None count faults gaps ended known is = verdict_known faults gaps ended.0 is.0
ends_known (Some note) count faults gaps ended known is = subst IsRestoreNote (sym is.0) (store_known note known)

pub header_known : (note : Note) → IsHeaderNote note → IsRestoreNote note
header_known (NotSpool at) is = tt
header_known DiskFault is = tt
header_known note is = absurd is

-- ---- calls of the two disks

module _ (faults : List SlotFault) (gaps : List Span) (count : ℕ) (old mid new onto onto' : Moment) (looked : Calls (HasUnread faults) old mid) where
  pub both_calls : (why : Option Note) (ended : Note × Option ℕ) → EndsWith why count faults gaps ended → TellsTwo (why ≡ Some DiskFault) mid new onto onto'
      → (Calls ((ended.0 ≡ DiskFault) ⊎ HasUnread faults) old new × Calls ⊥ onto onto') ⊎ (Calls (HasUnread faults) old new × Calls (ended.0 ≡ DiskFault) onto onto')
  both_calls None ended is (inl of) = inl (
    calls_then (HasUnread faults) (None ≡ Some DiskFault) ((ended.0 ≡ DiskFault) ⊎ HasUnread faults) old mid new looked of.0
        (λ f. elim f [ inl by ↦ inl (verdict_unread faults gaps ended.0 is.0 by) | inr has ↦ inl has ])
        (λ none. ((λ has. none (inr has)), λ e. cc)),
    of.1,
  )
  both_calls None ended is (inr of) = inl (
    calls_then (HasUnread faults) ⊥ ((ended.0 ≡ DiskFault) ⊎ HasUnread faults) old mid new looked of.0
        (λ f. elim f [ inl by ↦ inl (verdict_unread faults gaps ended.0 is.0 by) | inr has ↦ inl has ])
        (λ none. ((λ has. none (inr has)), λ e. e)),
    calls_as (None ≡ Some DiskFault) ⊥ onto onto' of.1 (λ f. absurd f) (λ e. cc),
  )
  both_calls (Some note) ended is (inl of) = inl (
    calls_then (HasUnread faults) (Some note ≡ Some DiskFault) ((ended.0 ≡ DiskFault) ⊎ HasUnread faults) old mid new looked of.0
        (λ f. elim f [ inl by ↦ inr (ap Some (sym is.0 ∙ by)) | inr has ↦ inl has ])
        (λ none. ((λ has. none (inr has)), λ e. let same : note ≡ DiskFault = cc in none (inl (is.0 ∙ same)))),
    of.1,
  )
  both_calls (Some note) ended is (inr of) = inr (
    calls_then (HasUnread faults) ⊥ (HasUnread faults) old mid new looked of.0 (λ has. inl has) (λ none. (none, λ e. e)),
    calls_as (Some note ≡ Some DiskFault) (ended.0 ≡ DiskFault) onto onto' of.1 (λ by. ap Some (sym is.0 ∙ by)) (λ e. let same : note ≡ DiskFault = cc in is.0 ∙ same),
  )

-- the calls of the first disk before failed at nothing
pub calls_later : (Failed Unread Noted : Type 0) (old mid new onto onto' : Moment) → Calls ⊥ old mid
    → (Calls Failed mid new × Calls ⊥ onto onto') ⊎ (Calls Unread mid new × Calls Noted onto onto')
    → (Calls Failed old new × Calls ⊥ onto onto') ⊎ (Calls Unread old new × Calls Noted onto onto')
calls_later Failed Unread Noted old mid new onto onto' first (inl of) = inl (calls_on ⊥ Failed old mid new first (λ f. f) of.0, of.1)
calls_later Failed Unread Noted old mid new onto onto' first (inr of) = inr (calls_on ⊥ Unread old mid new first (λ f. f) of.0, of.1)

-- ---- what was found and stored

ends_by : (report : Report) (why : Option Note) (count : ℕ) (ended : Note × Option ℕ) → report.printed ≡ ended.1
    → EndsWith why count report.faults.items report.gaps.items ended → EndsBy report why count ended.0
ends_by report None count ended same is = (same ∙ is.1, is.0)
ends_by report (Some why) count ended same is = (same ∙ is.1, is.0)

pub restores_by : (given : Option Layout) (tag : ℕ) (layout : Layout) (c : List ℕ) (found : List OpenSlot) (items : List Found) (report : Report) (target : DiskRun) (why : Option Note) (count : ℕ) (ended : Note × Option ℕ)
    → IsLayoutOf given c layout.slots layout.size → AreKnown found items c → AreJudged layout.slots layout.size c found report.faults.items → report.slots ≡ layout.slots
    → report.sound + broken_in report.faults.items ≡ length found → report.gaps.items ≡ gaps_in (spans_of items) → GoesInto tag found target why count
    → report.printed ≡ ended.1 → EndsWith why count report.faults.items report.gaps.items ended → RestoresSlots given tag c report target count ended.0
restores_by given tag layout c found items report target why count ended is known judged slots_are counted missing goes printed ends = record {
  size = layout.size;
  found = found;
  layout = subst (λ (n : ℕ). IsLayoutOf given c n layout.size) (sym slots_are) is;
  judged = subst (λ (n : ℕ). AreJudged n layout.size c found report.faults.items) (sym slots_are) judged;
  counted = counted;
  missing = missing ∙ ap gaps_in (same_spans found items c known);
  why = why;
  goes = goes;
  ends = ends_by report why count ended printed ends;
}

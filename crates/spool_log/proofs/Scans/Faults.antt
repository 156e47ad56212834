-- Faults of calls, answered as faults of the reading.
use Rattle.std.proofs.Common.{◌≡◌, ℕ, ◌<◌, List, subst, sym}
use Rattle.std.specs.Prelude.{Result, Ok, Err, OnOk, IfErr, IsErrAnd}
use Rattle.spool_state.specs.Image.{slot_at}
use Rattle.spool_slots.specs.declared.slot.Slot.{Slot}
use Rattle.spool_slots.specs.declared.fault.ScanFault.{ScanFault}
use Rattle.spool_slots.specs.declared.fault.ScanFault.TheVariants as Scan
use Rattle.spool_slots.specs.Scan.{IsScanFault}
use Rattle.spool_log.specs.Reading.{IsSlotsFault, KnowsOpened}
use Rattle.spool_slots.specs.Fault.{of_scan}
use Rattle.spool_log.proofs.Scans.Scanned.{first_breaks}

-- the error that an answer has
pub if_err : {T E : Type 0} (r : Result T E) (P : E → Type 0) (e : E) → IsErrAnd r (λ x. x ≡ e) → P e → IfErr r P
if_err (Ok v) P e is h = tt
if_err (Err x) P e is h = subst P (sym is) h

-- a slot that breaks the rule of its groups after others that don't
pub slots_fault : (slots size place : ℕ) (items : List Slot) (c : List ℕ) (fault : ScanFault) → place < slots → KnowsOpened place size items c → IsScanFault (slot_at size place) size c fault → IsSlotsFault slots size c (of_scan fault)
slots_fault slots size place items c (Scan.NotSpool at) lt known breaks = first_breaks size place items c known slots at lt breaks
slots_fault slots size place items c Scan.DiskFault lt known breaks = tt
slots_fault slots size place items c Scan.NoMemory lt known breaks = tt

-- what follows from a clause on success
pub on_ok : {T E : Type 0} (r : Result T E) (P Q : Type 0) → OnOk r P → (P → Q) → OnOk r Q
on_ok (Ok v) P Q p f = f p
on_ok (Err x) P Q p f = tt

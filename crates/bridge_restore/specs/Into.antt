-- Another spool, opened, and entries stored into it.
use Rattle.std.specs.Prelude.{◌≡◌, ◌⊎◌, ℕ, Bool, List, [], ◌++◌, length, Option, Some, Result, Ok, Err}
use Rattle.event_form.specs.declared.event.Entry.{Entry}
use Rattle.edge_disk.specs.Calls.{Calls}
use Rattle.edge_disk.specs.declared.disk.Disk.{Ghosts as Disks}
use Rattle.edge_disk.specs.Disk.{Moment, LeavesOnly}
use Rattle.spool_state.specs.SpoolState.{OpenSlot, SpoolState}
use Rattle.spool_state.specs.Left.{left}
use Rattle.spool_state.specs.Image.{StandsFor}
use Rattle.spool_faults.specs.declared.fault.PendFault.TheVariants as Pend
use Rattle.spool_faults.specs.declared.fault.TakeFault.TheVariants as Take
use Rattle.spool_slots.specs.declared.fault.ScanFault.TheVariants as Scan
use Rattle.spool_log.specs.declared.fault.RecoverFault.{RecoverFault}
use Rattle.spool_log.specs.declared.memory.Memory.{Memory}
use Rattle.spool_log.specs.declared.opening.Opening.TheVariants.{Keep}
use Rattle.spool_log.specs.declared.spool.Spool.{Spool}
use Rattle.spool_log.specs.Opening.{IsRefusedAs}
use Rattle.spool_log.specs.State.{View, view, IsIn}
use Rattle.spool_move.specs.Stands.{HasTaken}
use Rattle.notes.specs.declared.note.Note.{Note}
use Rattle.notes.specs.declared.note.Note.TheVariants.{NotSpool, Full, TooLarge, NoMemory, DiskFault, RunsSpent, Spent, Worn, Strange}
use Rattle.bridge_parts.specs.Refused.{note_of_recover}
use Rattle.bridge_parts.specs.Run.{DiskRun}
use Rattle.bridge_restore.specs.declared.fault.StoreFault.{StoreFault}
use Rattle.bridge_restore.specs.declared.fault.StoreFault.TheVariants as Store
use Rattle.bridge_restore.specs.Fault.{why_of}
use Rattle.bridge_restore.specs.Fresh.{IsFresh, FindsTagged}
use Rattle.bridge_restore.specs.Storing.{HasStored, StopsStoring, StopsAt, IsStoring}
use Rattle.bridge_restore.specs.Told.{told}

-- ---- calls of the two disks

-- a call of one of the two failed exactly where that is so
abbrev pub TellsTwo : Type 0 → Moment → Moment → Moment → Moment → Type 0
TellsTwo Failed from from' onto onto' = (Calls Failed from from' × Calls ⊥ onto onto') ⊎ (Calls ⊥ from from' × Calls Failed onto onto')

abbrev pub IsDiskFault : StoreFault → Type 0
IsDiskFault (Store.Strange number) = ⊥
IsDiskFault (Store.Unseen fault) = fault ≡ Pend.DiskFault
IsDiskFault (Store.Unread fault) = fault ≡ Scan.DiskFault
IsDiskFault (Store.Untaken fault) = fault ≡ Take.DiskFault

abbrev pub FailsDisk : Result Unit StoreFault → Type 0
FailsDisk (Ok done) = ⊥
FailsDisk (Err fault) = IsDiskFault fault

-- ---- over a spool that is open

-- The tag was fresh, and all entries were stored; or it was fresh, and this ended it; or it wasn't, or the pending entries weren't read, and
-- nothing was stored.
abbrev pub StoresSeen : ℕ → SpoolState → List Entry → Result Unit StoreFault → View → View → Type 0
StoresSeen tag u entries (Ok done) old new = IsFresh tag (left u) × HasStored u entries old new
StoresSeen tag u entries (Err (Store.Strange number)) old new = FindsTagged tag (left u) (Store.Strange number) × HasStored u [] old new
StoresSeen tag u entries (Err (Store.Unseen fault)) old new = FindsTagged tag (left u) (Store.Unseen fault) × HasStored u [] old new
StoresSeen tag u entries (Err (Store.Unread fault)) old new = IsFresh tag (left u) × StopsStoring u entries (Store.Unread fault) old new
StoresSeen tag u entries (Err (Store.Untaken fault)) old new = IsFresh tag (left u) × StopsStoring u entries (Store.Untaken fault) old new

-- so many of the entries were stored
abbrev pub Counts : ℕ → (u : SpoolState) (entries : List Entry) (result : Result Unit StoreFault) (old new : View) → (tag : ℕ)
    → StoresSeen tag u entries result old new → Type 0
Counts count u entries (Ok done) old new tag did = count ≡ length entries
Counts count u entries (Err (Store.Strange number)) old new tag did = count ≡ 0
Counts count u entries (Err (Store.Unseen fault)) old new tag did = count ≡ 0
Counts count u entries (Err (Store.Unread fault)) old new tag did = count ≡ length did.1.front
Counts count u entries (Err (Store.Untaken fault)) old new tag did = count ≡ length did.1.front

-- Entries that were found of these slots were stored into a spool that was open, not in doubt.
pub record StoresOpen {E : Type 0} {disks : Disks E} (tag : ℕ) (found : List OpenSlot) (target : Spool E disks) (after : E) (why : Option Note)
    (count : ℕ) : Type 0 where
  pub result : Result Unit StoreFault
  pub memory : Memory
  pub doubt : Bool
  pub why_is : why ≡ why_of result
  pub stores : (u : SpoolState) → disks.tells → IsIn u [] (view target.memory target.doubt (disks.moment target.disk))
      → (did : StoresSeen tag u (told tag found) result (view target.memory target.doubt (disks.moment target.disk)) (view memory doubt (disks.moment after)))
      × Counts count u (told tag found) result (view target.memory target.doubt (disks.moment target.disk)) (view memory doubt (disks.moment after)) tag did

-- ---- over a device

-- The device wasn't opened: it breaks a rule, the first one at that place, or a call of the disk failed, or no memory was found. Whatever
-- a crash leaves of it is what it could leave before.
pub record IsUnopened (target : DiskRun) (why : Option Note) : Type 0 where
  pub fault : RecoverFault
  pub why_is : why ≡ Some (note_of_recover fault)
  pub broken : target.tells → IsRefusedAs Keep target.old.reads fault
  pub any_moment : target.tells → LeavesOnly target.old.image target.old target.new

-- where storing ends: all were taken, and the tag was fresh; or it wasn't, or not all was read, or an entry wasn't taken
abbrev pub EndsAs : ℕ → SpoolState → SpoolState → List Entry → List Entry → Result Unit StoreFault → View → Type 0
EndsAs tag u t front rest (Ok done) shown = IsFresh tag (left u) × (rest ≡ []) × IsIn t [] shown
EndsAs tag u t front rest (Err (Store.Strange number)) shown = FindsTagged tag (left u) (Store.Strange number) × (front ≡ []) × IsIn t [] shown
EndsAs tag u t front rest (Err (Store.Unseen fault)) shown = FindsTagged tag (left u) (Store.Unseen fault) × (front ≡ []) × IsIn t [] shown
EndsAs tag u t front rest (Err (Store.Unread fault)) shown = IsFresh tag (left u) × StopsAt t rest (Store.Unread fault) shown
EndsAs tag u t front rest (Err (Store.Untaken fault)) shown = IsFresh tag (left u) × StopsAt t rest (Store.Untaken fault) shown

-- The device stood for a spool, and that has taken the first of these entries, so many, in order and after all that it had. Whenever a crash
-- came meanwhile, it left what it could leave before, or the spool with the first of them.
pub record StoresFrom (entries : List Entry) (tag : ℕ) (target : DiskRun) (result : Result Unit StoreFault) (shown : View) (count : ℕ) : Type 0 where
  pub u : SpoolState
  pub stood : StandsFor u target.old.reads
  pub front : List Entry
  pub rest : List Entry
  pub parts : entries ≡ front ++ rest
  pub t : SpoolState
  pub taken : HasTaken u front t
  pub count_is : count ≡ length front
  pub ends : EndsAs tag u t front rest result shown
  pub any_moment : LeavesOnly (λ d. target.old.image d ⊎ IsStoring u entries d) target.old target.new

-- The device was opened, and this is the answer of storing, with the note for it, and what memory has of the spool then.
pub record StoresInto (entries : List Entry) (tag : ℕ) (target : DiskRun) (why : Option Note) (count : ℕ) : Type 0 where
  pub result : Result Unit StoreFault
  pub memory : Memory
  pub doubt : Bool
  pub why_is : why ≡ why_of result
  pub stores : target.tells → StoresFrom entries tag target result (view memory doubt target.new) count

-- The device wasn't opened, and nothing was stored; or it was, and entries were.
abbrev pub GoesInto : ℕ → List OpenSlot → DiskRun → Option Note → ℕ → Type 0
GoesInto tag found target why count = (IsUnopened target why × (count ≡ 0)) ⊎ StoresInto (told tag found) tag target why count

-- why not all were stored
abbrev pub IsStoreNote : Note → Type 0
IsStoreNote (NotSpool at) = Unit {0}
IsStoreNote (Full need free) = Unit {0}
IsStoreNote (TooLarge need most) = Unit {0}
IsStoreNote NoMemory = Unit {0}
IsStoreNote DiskFault = Unit {0}
IsStoreNote (RunsSpent run) = Unit {0}
IsStoreNote (Spent at) = Unit {0}
IsStoreNote (Worn ordinal) = Unit {0}
IsStoreNote (Strange number) = Unit {0}
IsStoreNote note = ⊥

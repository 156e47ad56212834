-- How storing ends.
use Rattle.std.proofs.Common.{◌≡◌, ◌⊎◌, inl, inr, ℕ, ◌-◌, List, [], ◌++◌, length, refl, sym, ap, arith}
use Rattle.std.specs.Prelude.{Bool, Some, Result, Ok, Err, IfErr, IfSome, IsErrOf}
use Rattle.std.proofs.lemmas.List.{append-nil}
use Rattle.event_form.specs.declared.event.Entry.{Entry}
use Rattle.edge_disk.specs.Calls.{Calls}
use Rattle.edge_disk.specs.Disk.{Moment, LeavesOnly}
use Rattle.edge_disk.proofs.Calls.{calls_none, calls_as, calls_on}
use Rattle.edge_disk.proofs.Moments.{both, weaker}
use Rattle.spool_state.specs.SpoolState.{SpoolState, end}
use Rattle.spool_state.specs.Left.{left}
use Rattle.spool_state.specs.Image.{StandsFor}
use Rattle.spool_faults.specs.declared.fault.TakeFault.{TakeFault}
use Rattle.spool_faults.specs.declared.fault.TakeFault.TheVariants as Take
use Rattle.spool_faults.specs.declared.fault.PendFault.{PendFault}
use Rattle.spool_faults.specs.declared.fault.PendFault.TheVariants as Pend
use Rattle.spool_slots.specs.declared.fault.ScanFault.{ScanFault}
use Rattle.spool_slots.specs.declared.fault.ScanFault.TheVariants as Scan
use Rattle.spool_log.specs.declared.fault.RecoverFault.{RecoverFault}
use Rattle.spool_log.specs.declared.fault.RecoverFault.TheVariants as Recover
use Rattle.spool_log.specs.declared.memory.Memory.{Memory}
use Rattle.spool_log.specs.declared.opening.Opening.TheVariants.{Keep}
use Rattle.spool_log.specs.Opening.{IsRefusing}
use Rattle.spool_log.specs.Memory.{end_of}
use Rattle.spool_log.specs.State.{View, view, IsIn}
use Rattle.notes.specs.declared.note.Note.TheVariants.{DiskFault}
use Rattle.bridge_parts.specs.Refused.{note_of_pend, note_of_recover}
use Rattle.bridge_rescue.specs.Looking.{note_of_scan}
use Rattle.bridge_restore.specs.Fault.{note_of_take, note_of_store, why_of}
use Rattle.spool_move.specs.Stands.{HasTaken}
use Rattle.spool_move.specs.Walking.{AfterRefusal}
use Rattle.spool_move.proofs.Growing.{taken_none}
use Rattle.bridge_parts.proofs.Numbers.{end_seen}
use Rattle.bridge_parts.specs.Run.{DiskRun}
use Rattle.bridge_restore.specs.declared.fault.StoreFault.{StoreFault}
use Rattle.bridge_restore.specs.declared.fault.StoreFault.TheVariants.{Strange, Unseen, Unread, Untaken}
use Rattle.bridge_restore.specs.Fresh.{IsFresh, FindsTagged, IsOfSeeing}
use Rattle.bridge_restore.specs.Into.{StoresSeen, Counts, EndsAs, StoresFrom, TellsTwo, FailsDisk, IsDiskFault, IsStoreNote}
use Rattle.bridge_restore.specs.Storing.{HasFront, HasStored, StopsStoring, StopsAt, Stores, IsStoring, IsOfStoring}
use Rattle.bridge_restore.proofs.Joining.{stored_then, stops_then, storing_more}

-- ---- after the tag was looked for

module _ (tag : ℕ) (u : SpoolState) (entries : List Entry) (old mid new : View) (held : IsIn u [] old) (kept : IsIn u [] mid) (run : LeavesOnly old.moment.image old.moment mid.moment) where
  abbrev begun : HasStored u [] old mid
  begun = record {
    t = u;
    reached = kept;
    taken = taken_none u held.sound.from_base;
    any_moment = weaker old.moment.image (IsStoring u []) old.moment mid.moment run
        (λ c image. (u, held.each c image, record { front = []; rest = []; parts = refl; taken = taken_none u held.sound.from_base }));
  }

  -- it wasn't fresh, or not seen to be
  pub seen_stops : (fault : StoreFault) → FindsTagged tag (left u) fault → StoresSeen tag u entries (Err fault) old mid
  seen_stops (Strange number) finds = (finds, begun)
  seen_stops (Unseen fault) finds = (finds, begun)
  seen_stops (Unread fault) finds = absurd finds
  seen_stops (Untaken fault) finds = absurd finds

  -- it was, and then entries were stored
  pub seen_stores : (result : Result (Unit {0}) StoreFault) → IfErr result IsOfStoring → IsFresh tag (left u) → Stores u entries result mid new → StoresSeen tag u entries result old new
  seen_stores (Ok done) known fresh s = (fresh, stored_then u [] entries old mid new begun s)
  seen_stores (Err (Strange number)) known fresh s = absurd known
  seen_stores (Err (Unseen fault)) known fresh s = absurd known
  seen_stores (Err (Unread fault)) known fresh s = (fresh, stops_then u [] entries old mid new begun (Unread fault) s)
  seen_stores (Err (Untaken fault)) known fresh s = (fresh, stops_then u [] entries old mid new begun (Untaken fault) s)

-- ---- how many were stored

refused_end : (t : SpoolState) (fault : TakeFault) (new : View) → AfterRefusal t fault new → end_of new.memory ≡ end t
refused_end t (Take.TooLarge need most) new is = end_seen t [] new is
refused_end t (Take.Spent at) new is = end_seen t [] new is
refused_end t (Take.Full need free) new is = end_seen t [] new is
refused_end t (Take.NotSpool at) new is = absurd is
refused_end t Take.NoMemory new is = absurd is
refused_end t Take.DiskFault new is = end_seen t is.0 new is.1

module _ (u : SpoolState) (entries : List Entry) (old new : View) (held : IsIn u [] old) (tag : ℕ) where
  abbrev rise : ℕ
  rise = end_of new.memory - end_of old.memory

  abbrev began : end_of old.memory ≡ end u
  began = end_seen u [] old held

  stored_rise : (more : List Entry) → HasStored u more old new → rise ≡ length more
  stored_rise more h = omega (arith, began, end_seen h.t [] new h.reached, h.taken.ends)

  pub seen_counts : (result : Result (Unit {0}) StoreFault) (did : StoresSeen tag u entries result old new) → Counts rise u entries result old new tag did
  seen_counts (Ok done) did = stored_rise entries did.1
  seen_counts (Err (Strange number)) did = stored_rise [] did.1
  seen_counts (Err (Unseen fault)) did = stored_rise [] did.1
  seen_counts (Err (Unread fault)) did = omega (arith, began, end_seen did.1.t [] new did.1.stops.1, did.1.taken.ends)
  seen_counts (Err (Untaken fault)) did = omega (arith, began, refused_end did.1.t fault new did.1.stops.4, did.1.taken.ends)

-- ---- over a device that was opened

module _ (tag : ℕ) (u : SpoolState) (entries : List Entry) (target : DiskRun) (memory : Memory) (doubt : Bool) (old : View) (count : ℕ) (stood : StandsFor u target.old.reads)
    (opened : LeavesOnly target.old.image target.old old.moment) where
  abbrev new : View
  new = view memory doubt target.new

  meanwhile : LeavesOnly (IsStoring u entries) old.moment target.new → LeavesOnly (λ d. target.old.image d ⊎ IsStoring u entries d) target.old target.new
  meanwhile one =
      both target.old.image (IsStoring u entries) (λ d. target.old.image d ⊎ IsStoring u entries d) target.old old.moment target.new opened one (λ c image. inl image) (λ c s. inr s)

  -- nothing was stored
  none_from : (result : Result (Unit {0}) StoreFault) (h : HasStored u [] old new) → count ≡ 0 → EndsAs tag u h.t [] entries result new → StoresFrom entries tag target result new count
  none_from result h counted ends = record {
    u = u;
    stood = stood;
    front = [];
    rest = entries;
    parts = refl;
    t = h.t;
    taken = h.taken;
    count_is = counted;
    ends = ends;
    any_moment = meanwhile (storing_more u [] entries old.moment target.new h.any_moment);
  }

  -- not all were
  first_from : (result : Result (Unit {0}) StoreFault) (fault : StoreFault) (k : StopsStoring u entries fault old new) → count ≡ length k.front
      → EndsAs tag u k.t k.front k.rest result new → StoresFrom entries tag target result new count
  first_from result fault k counted ends = record {
    u = u;
    stood = stood;
    front = k.front;
    rest = k.rest;
    parts = k.parts;
    t = k.t;
    taken = k.taken;
    count_is = counted;
    ends = ends;
    any_moment = meanwhile k.any_moment;
  }

  pub from_seen : (result : Result (Unit {0}) StoreFault) (did : StoresSeen tag u entries result old new) → Counts count u entries result old new tag did
      → StoresFrom entries tag target result new count
  from_seen (Ok done) did counted = record {
    u = u;
    stood = stood;
    front = entries;
    rest = [];
    parts = sym (append-nil entries);
    t = did.1.t;
    taken = did.1.taken;
    count_is = counted;
    ends = (did.0, refl, did.1.reached);
    any_moment = meanwhile did.1.any_moment;
  }
  from_seen (Err (Strange number)) did counted = none_from (Err (Strange number)) did.1 counted (did.0, refl, did.1.reached)
  from_seen (Err (Unseen fault)) did counted = none_from (Err (Unseen fault)) did.1 counted (did.0, refl, did.1.reached)
  from_seen (Err (Unread fault)) did counted = first_from (Err (Unread fault)) (Unread fault) did.1 counted (did.0, did.1.stops)
  from_seen (Err (Untaken fault)) did counted = first_from (Err (Untaken fault)) (Untaken fault) did.1 counted (did.0, did.1.stops)

-- ---- calls of the two disks

-- the other's calls before failed at nothing
pub tells_later : (Failed : Type 0) (from from' onto mid onto' : Moment) → Calls ⊥ onto mid → TellsTwo Failed from from' mid onto' → TellsTwo Failed from from' onto onto'
tells_later Failed from from' onto mid onto' first (inl of) = inl (of.0, calls_on ⊥ ⊥ onto mid onto' first (λ f. f) of.1)
tells_later Failed from from' onto mid onto' first (inr of) = inr (of.0, calls_on ⊥ Failed onto mid onto' first (λ f. f) of.1)

-- a call of the other failed, exactly where the tag wasn't looked for to the end
pub seen_tells : (fault : StoreFault) (from onto onto' : Moment) → IsOfSeeing fault → Calls (IsErrOf {T = Unit {0}} (Err fault) (Unseen Pend.DiskFault)) onto onto'
    → TellsTwo (IsDiskFault fault) from from onto onto'
seen_tells (Strange number) from onto onto' is calls = inr (calls_none from, calls_as _ ⊥ onto onto' calls (λ f. absurd f) (λ e. absurd (cc)))
seen_tells (Unseen fault) from onto onto' is calls = inr (
  calls_none from,
  calls_as _ (fault ≡ Pend.DiskFault) onto onto' calls (λ by. ap (λ (f : PendFault). Err (Unseen f)) by) (λ e. let same : fault ≡ Pend.DiskFault = cc in same),
)
seen_tells (Unread fault) from onto onto' is calls = absurd is
seen_tells (Untaken fault) from onto onto' is calls = absurd is

-- one of the first disk where an entry was not read again, and of the other where one was not taken
pub stored_tells : (result : Result (Unit {0}) StoreFault) (from from' onto onto' : Moment) → IfErr result IsOfStoring → Calls (IsErrOf result (Unread Scan.DiskFault)) from from'
    → Calls (IsErrOf result (Untaken Take.DiskFault)) onto onto' → TellsTwo (FailsDisk result) from from' onto onto'
stored_tells (Ok done) from from' onto onto' known read taken = inl (
  calls_as _ ⊥ from from' read (λ f. absurd f) (λ e. absurd (cc)),
  calls_as _ ⊥ onto onto' taken (λ f. absurd f) (λ e. absurd (cc)),
)
stored_tells (Err (Strange number)) from from' onto onto' known read taken = absurd known
stored_tells (Err (Unseen fault)) from from' onto onto' known read taken = absurd known
stored_tells (Err (Unread fault)) from from' onto onto' known read taken = inl (
  calls_as _ (fault ≡ Scan.DiskFault) from from' read (λ by. ap (λ (f : ScanFault). Err (Unread f)) by) (λ e. let same : fault ≡ Scan.DiskFault = cc in same),
  calls_as _ ⊥ onto onto' taken (λ f. absurd f) (λ e. absurd (cc)),
)
stored_tells (Err (Untaken fault)) from from' onto onto' known read taken = inr (
  calls_as _ ⊥ from from' read (λ f. absurd f) (λ e. absurd (cc)),
  calls_as _ (fault ≡ Take.DiskFault) onto onto' taken (λ by. ap (λ (f : TakeFault). Err (Untaken f)) by) (λ e. let same : fault ≡ Take.DiskFault = cc in same),
)

-- a failure by another word
pub tells_as : (Failed Same : Type 0) (from from' onto onto' : Moment) → (Failed → Same) → (Same → Failed) → TellsTwo Failed from from' onto onto' → TellsTwo Same from from' onto onto'
tells_as Failed Same from from' onto onto' to back (inl of) = inl (calls_as Failed Same from from' of.0 back to, of.1)
tells_as Failed Same from from' onto onto' to back (inr of) = inr (of.0, calls_as Failed Same onto onto' of.1 back to)

-- ---- notes

pub why_known : (fault : StoreFault) → IsStoreNote (note_of_store fault)
why_known (Strange number) = tt
why_known (Unseen (Pend.NotSpool at)) = tt
why_known (Unseen Pend.DiskFault) = tt
why_known (Unseen Pend.NoMemory) = tt
why_known (Unread (Scan.NotSpool at)) = tt
why_known (Unread Scan.DiskFault) = tt
why_known (Unread Scan.NoMemory) = tt
why_known (Untaken (Take.TooLarge need most)) = tt
why_known (Untaken (Take.Spent at)) = tt
why_known (Untaken (Take.Full need free)) = tt
why_known (Untaken (Take.NotSpool at)) = tt
why_known (Untaken Take.NoMemory) = tt
why_known (Untaken Take.DiskFault) = tt

-- a disk failed exactly where the note says so
pub why_failed : (fault : StoreFault) → note_of_store fault ≡ DiskFault → IsDiskFault fault
why_failed (Unseen Pend.DiskFault) is = refl
why_failed (Unread Scan.DiskFault) is = refl
why_failed (Untaken Take.DiskFault) is = refl
why_failed fault is = absurd (cc)

pub why_disk : (fault : StoreFault) → IsDiskFault fault → note_of_store fault ≡ DiskFault
why_disk (Strange number) is = absurd is
why_disk (Unseen fault) is = ap note_of_pend is
why_disk (Unread fault) is = ap note_of_scan is
why_disk (Untaken fault) is = ap note_of_take is

pub recover_known : (fault : RecoverFault) → IsStoreNote (note_of_recover fault)
recover_known (Recover.NotSpool at) = tt
recover_known (Recover.RunsSpent run) = tt
recover_known (Recover.Worn ordinal) = tt
recover_known Recover.DiskFault = tt
recover_known Recover.NoMemory = tt

pub recover_failed : (fault : RecoverFault) → note_of_recover fault ≡ DiskFault → fault ≡ Recover.DiskFault
recover_failed Recover.DiskFault is = refl
recover_failed fault is = absurd (cc)

-- refused, it has what it had
pub closed_images : (fault : RecoverFault) (old new : Moment) → LeavesOnly (IsRefusing Keep fault old) old new → LeavesOnly old.image old new
closed_images fault old new only = weaker _ old.image old new only (same fault) where
  same : (fault : RecoverFault) (c : List ℕ) → IsRefusing Keep fault old c → old.image c
  same (Recover.NotSpool at) c h = h
  same (Recover.RunsSpent run) c h = h
  same (Recover.Worn ordinal) c h = h
  same Recover.DiskFault c h = h
  same Recover.NoMemory c h = h

pub whys_known : (ended : Result (Unit {0}) StoreFault) → IfSome (why_of ended) IsStoreNote
whys_known (Ok done) = tt
whys_known (Err fault) = why_known fault

pub fails_why : (ended : Result (Unit {0}) StoreFault) → FailsDisk ended → why_of ended ≡ Some DiskFault
fails_why (Ok done) fails = absurd fails
fails_why (Err fault) fails = ap Some (why_disk fault fails)

pub why_fails : (ended : Result (Unit {0}) StoreFault) → why_of ended ≡ Some DiskFault → FailsDisk ended
why_fails (Ok done) is = absurd (cc)
why_fails (Err fault) is = let same : note_of_store fault ≡ DiskFault = cc in why_failed fault same

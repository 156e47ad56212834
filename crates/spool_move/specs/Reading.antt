-- The reading of the target's entries, before anything is moved.
use Rattle.std.specs.Prelude.{◌≡◌, ◌≢◌, ℕ, List, All}
use Rattle.std.specs.List.{Contains}
use Rattle.std.specs.BTreeSet.{BTreeSet, contains}
use Rattle.std.specs.Ordering.{nat_cmp}
use Rattle.event_form.specs.declared.event.Entry.{Entry}
use Rattle.spool_state.specs.SpoolState.{SpoolState}
use Rattle.spool_state.specs.Left.{NumberedEntry, left}
use Rattle.spool_answers.specs.declared.numbered.Numbered.{Numbered}
use Rattle.spool_move.specs.declared.fault.MoveFault.{MoveFault}
use Rattle.spool_move.specs.declared.fault.MoveFault.TheVariants.{Strange, TooLarge, Spent, Full, Worn, NotSpool, SourceFault, TargetFault, NoMemory}
use Rattle.spool_move.specs.declared.presence.Own.{Own}
use Rattle.spool_move.specs.declared.presence.Own.TheVariants.{NotLeft, Same, Other}
use Rattle.spool_move.specs.Moved.{is_present}
use Rattle.spool_move.specs.Strange.{NoneIsStrange, IsFirstStrange}

-- an entry that was read, as the state has it
abbrev pub as_entry : Numbered → NumberedEntry
as_entry one = record { number = one.number; entry = one.entry }

-- an entry that the source has left has the index of this one
pub record IsOwned (m : SpoolState) (e : Entry) : Type 0 where
  pub one : NumberedEntry
  pub here : Contains (left m) one
  pub number_is : one.number ≡ e.index

-- no entry that is left has its index, or one with the same event has, or one with another
abbrev pub IsOwn : SpoolState → Entry → Own → Type 0
IsOwn m e NotLeft = IsOwned m e → ⊥
IsOwn m e Same = (own : IsOwned m e) × (own.one.entry.event ≡ e.event)
IsOwn m e Other = (own : IsOwned m e) × (own.one.entry.event ≢ e.event)

-- Of the numbers of the source's entries that are left the set has those whose entries are present among these.
abbrev pub IsPresence : ℕ → SpoolState → List NumberedEntry → BTreeSet ℕ → Type 0
IsPresence tag m there present = All (λ one. contains nat_cmp present one.number ≡ is_present tag there one.number) (left m)

-- the fault is of a reading: a call of a disk failed, or no memory was found
abbrev pub IsReading : MoveFault → Type 0
IsReading (Strange number) = ⊥
IsReading (TooLarge need most) = ⊥
IsReading (Spent at) = ⊥
IsReading (Full need free) = ⊥
IsReading (Worn ordinal) = ⊥
IsReading (NotSpool at) = ⊥
IsReading SourceFault = Unit {0}
IsReading TargetFault = Unit {0}
IsReading NoMemory = Unit {0}

-- also where the device read as no spool
abbrev pub IsUnread : MoveFault → Type 0
IsUnread (Strange number) = ⊥
IsUnread (TooLarge need most) = ⊥
IsUnread (Spent at) = ⊥
IsUnread (Full need free) = ⊥
IsUnread (Worn ordinal) = ⊥
IsUnread (NotSpool at) = Unit {0}
IsUnread SourceFault = Unit {0}
IsUnread TargetFault = Unit {0}
IsUnread NoMemory = Unit {0}

-- or a strange entry was found
abbrev pub IsOfLook : MoveFault → Type 0
IsOfLook (Strange number) = Unit {0}
IsOfLook (TooLarge need most) = ⊥
IsOfLook (Spent at) = ⊥
IsOfLook (Full need free) = ⊥
IsOfLook (Worn ordinal) = ⊥
IsOfLook (NotSpool at) = Unit {0}
IsOfLook SourceFault = Unit {0}
IsOfLook TargetFault = Unit {0}
IsOfLook NoMemory = Unit {0}

-- The faults by which a reading of these entries ends: the first strange one is found, or a reading failed.
abbrev pub FindsFault : ℕ → SpoolState → List NumberedEntry → MoveFault → Type 0
FindsFault tag m there (Strange number) = IsFirstStrange tag m there number
FindsFault tag m there (TooLarge need most) = ⊥
FindsFault tag m there (Spent at) = ⊥
FindsFault tag m there (Full need free) = ⊥
FindsFault tag m there (Worn ordinal) = ⊥
FindsFault tag m there (NotSpool at) = ⊥
FindsFault tag m there SourceFault = Unit {0}
FindsFault tag m there TargetFault = Unit {0}
FindsFault tag m there NoMemory = Unit {0}

-- none of these entries is strange, and the set has those that are present
pub record IsSearched (tag : ℕ) (m : SpoolState) (there : List NumberedEntry) (present : BTreeSet ℕ) : Type 0 where
  pub none_strange : NoneIsStrange tag m there
  pub presence : IsPresence tag m there present

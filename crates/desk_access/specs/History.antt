-- What calls leave of the list of entries.
use Rattle.std.specs.Prelude.{◌≡◌, ◌⊎◌, ℕ, ◌+◌, ◌-◌, ◌<◌, ◌≤◌, List, [], ◌∷◌, ◌++◌, length, take, drop, All, Result, Ok, Err}
use Rattle.event_form.specs.declared.event.Entry.{Entry}
use Rattle.spool_state.specs.SpoolState.{SpoolState, list, base, end, entry_at, Follows, IsSound}
use Rattle.spool_state.specs.Image.{StandsFor}
use Rattle.spool_answers.specs.declared.receipt.Receipt.{Receipt}
use Rattle.spool_faults.specs.declared.fault.TakeFault.{TakeFault}
use Rattle.spool_faults.specs.declared.fault.TakeFault.TheVariants.{DiskFault}
use Rattle.spool_answers.specs.Stages.{IsOneOf}
use Rattle.hec_ids.specs.Table as Ids
use Rattle.desk_access.specs.Standing.{standing_of}
use Rattle.desk_access.specs.Call.{Call, takes}
use Rattle.desk_access.specs.Desk.{DeskState}

-- a later state of the same device in the same run
pub record IsLater (s later : SpoolState) : Type 0 where
  pub sound : IsSound later
  pub follows : Follows s later
  pub slots : later.slots ≡ s.slots
  pub size : later.size ≡ s.size
  pub run : later.run ≡ s.run

-- no two of the state and the stages of a doubt have the same numbers
abbrev pub AreTold : SpoolState → List SpoolState → Type 0
AreTold s doubt = (m n : SpoolState) → IsOneOf s doubt m → IsOneOf s doubt n → standing_of m ≡ standing_of n → m ≡ n

-- the rules of a desk's state
pub record IsDesk (x : DeskState) : Type 0 where
  pub sound : IsSound x.spool
  pub later : All (IsLater x.spool) x.doubt
  pub told : AreTold x.spool x.doubt
  pub ids : Ids.IsSound x.ids
  pub run : x.ids.run ≡ x.spool.run

-- The later list is the earlier one with these entries added at its end, but for first ones that are gone.
pub record Grown (s : SpoolState) (more : List Entry) (later : SpoolState) : Type 0 where
  pub base_rises : base s ≤ base later
  pub within : base later ≤ end s + length more
  pub list_is : list later ≡ drop (base later - base s) (list s ++ more)

-- what an answered take adds: its group, or nothing, and after a fault of the disk one of both
abbrev pub TakeAdds : List Entry → Result Receipt TakeFault → List Entry → Type 0
TakeAdds group (Ok receipt) more = more ≡ group
TakeAdds group (Err DiskFault) more = (more ≡ []) ⊎ (more ≡ group)
TakeAdds group (Err _) more = more ≡ []

abbrev pub Adds : Call → List Entry → Type 0
Adds (takes group result) more = TakeAdds group result more
Adds _ more = more ≡ []

-- These are the entries that the calls added, in order: the groups of all takes that were answered Ok, each whole,
-- and of those that were answered DiskFault each whole or not at all.
abbrev pub AddsAll : List Call → List Entry → Type 0
AddsAll [] more = more ≡ []
AddsAll (call ∷ calls) more =
    (here : List Entry) × (rest : List Entry) × Adds call here × AddsAll calls rest × (more ≡ here ++ rest)

-- The calls led from the desk to this state: mending reached one of its states, and the list grew by what the calls added.
pub record Grows (x : DeskState) (calls : List Call) (later : SpoolState) : Type 0 where
  pub mended : SpoolState
  pub one : IsOneOf x.spool x.doubt mended
  pub more : List Entry
  pub adds : AddsAll calls more
  pub grown : Grown mended more later

-- the entry of that number is below the cursor, or it stands there
abbrev pub IsKept : SpoolState → ℕ → List Entry → Type 0
IsKept s number entry = (number < s.cursor) ⊎ (entry_at s number ≡ entry)

-- the whole group, with numbers from the first on
abbrev pub AreKept : SpoolState → ℕ → List Entry → Type 0
AreKept s first group = (k : ℕ) → k < length group → IsKept s (first + k) (take 1 (drop k group))

-- a call's group is kept, where it was taken
abbrev pub IsCallKept : SpoolState → Call → Type 0
IsCallKept s (takes group (Ok receipt)) = AreKept s receipt.first group
IsCallKept s _ = Unit {0}

-- each group that was taken
abbrev pub AllKept : SpoolState → List Call → Type 0
AllKept s [] = Unit {0}
AllKept s (call ∷ calls) = IsCallKept s call × AllKept s calls

-- the group of a take that was answered Ok, or DiskFault: it was written, or perhaps; none of a take that was refused
abbrev pub written_by : Call → List Entry
written_by (takes group (Ok receipt)) = group
written_by (takes group (Err DiskFault)) = group
written_by _ = []

-- that of the first of the calls
abbrev pub written_next : List Call → List Entry
written_next [] = []
written_next (call ∷ calls) = written_by call

-- At a moment of the calls these bytes stood for a later state. Its list grew by what the first of the calls had added,
-- and perhaps by the group of the call that came next, whole; not by a group that was refused.
pub record Was (x : DeskState) (calls : List Call) (c : List ℕ) : Type 0 where
  pub state : SpoolState
  pub stands : StandsFor state c
  pub later : IsLater x.spool state
  pub first : List Call
  pub rest : List Call
  pub parts : calls ≡ first ++ rest
  pub mended : SpoolState
  pub one : IsOneOf x.spool x.doubt mended
  pub more : List Entry
  pub adds : AddsAll first more
  pub next : List Entry
  pub whole : (next ≡ []) ⊎ (next ≡ written_next rest)
  pub grown : Grown mended (more ++ next) state

-- The records of takes of several callers that were stored as one group.
use Rattle.std.specs.Prelude.{ℕ, ◌+◌, ◌-◌, ◌≤◌, if◌then◌else◌, Bool, true, false, List, [], ◌∷◌, ◌++◌, length, All, Some, Result, Ok, Err}
use Rattle.event_form.specs.declared.event.Entry.{Entry}
use Rattle.event_form.specs.Entry.{IsEntry}
use Rattle.spool_state.specs.Segment.{entries_text, need_of}
use Rattle.spool_answers.specs.declared.receipt.Receipt.{Receipt}
use Rattle.spool_faults.specs.declared.fault.TakeFault.{TakeFault}
use Rattle.spool_faults.specs.declared.fault.TakeFault.TheVariants as Take
use Rattle.desk_access.specs.declared.standing.Standing.{Standing}
use Rattle.desk_access.specs.Call.{Record, takes}

-- the entries that one caller hands in
pub record Part : Type 0 where
  pub by : ℕ
  pub entries : List Entry

-- the entries of all parts, in order
abbrev pub joined : List Part → List Entry
joined [] = []
joined (part ∷ parts) = part.entries ++ joined parts

-- each part has an entry, and all are within their limits
abbrev pub ArePartsOf : List Part → Type 0
ArePartsOf [] = Unit {0}
ArePartsOf (part ∷ parts) = (1 ≤ length part.entries) × All IsEntry part.entries × ArePartsOf parts

-- the numbers once so many entries more stand there, which take so many bytes
abbrev pub standing_with : Standing → ℕ → ℕ → Standing
standing_with at count bytes = record { base = at.base; end = at.end + count; cursor = at.cursor; known_count = at.known_count; room = at.room - bytes }

-- the bytes that a part takes: its entries go on with a group, or have a group of their own
abbrev pub bytes_of : Bool → List Entry → ℕ
bytes_of joins entries = if joins then length (entries_text entries) else need_of entries

-- The records of the parts, which were stored as one group where these numbers stood, and answered at the moment of that clock: the first is
-- a take of its own, with its group's head, and each other one goes on with that group.
abbrev pub stored_from : ℕ → Bool → Standing → List Part → List Record
stored_from clock joins at [] = []
stored_from clock joins at (part ∷ parts) =
    let after = standing_with at (length part.entries) (bytes_of joins part.entries) in
    record { by = part.by; call = takes part.entries (Ok (record { first = at.end; count = length part.entries })); joins = joins; met = Some at; after = after; clock = clock }
    ∷ stored_from clock true after parts

-- The same where the disk failed: none of the parts is surely there, and the numbers stay. What each part met is what mending finds if it
-- finds the group.
abbrev pub failed_from : ℕ → Bool → Standing → Standing → List Part → List Record
failed_from clock joins stay at [] = []
failed_from clock joins stay at (part ∷ parts) =
    let after = standing_with at (length part.entries) (bytes_of joins part.entries) in
    record { by = part.by; call = takes part.entries (Err Take.DiskFault); joins = joins; met = Some at; after = stay; clock = clock }
    ∷ failed_from clock true stay after parts

-- and where they were refused, each for itself
abbrev pub refused_from : ℕ → TakeFault → Standing → List Part → List Record
refused_from clock fault at [] = []
refused_from clock fault at (part ∷ parts) = record { by = part.by; call = takes part.entries (Err fault); joins = false; met = Some at; after = at; clock = clock } ∷ refused_from clock fault at parts

-- the records of the parts, by the answer of the one take of all their entries and by the clock of its answer
abbrev pub joint_of : Result Receipt TakeFault → ℕ → Standing → List Part → List Record
joint_of (Ok receipt) clock at parts = stored_from clock false at parts
joint_of (Err Take.DiskFault) clock at parts = failed_from clock false at at parts
joint_of (Err fault) clock at parts = refused_from clock fault at parts

-- Letters that are stored as one group: the part of each, and the records of their takes.
use Rattle.std.specs.Prelude.{◌≡◌, ℕ, ◌+◌, ◌^◌, ◌<◌, ◌≤◌, Bool, true, false, List, [], ◌∷◌, ◌++◌, length, Option, None, Some, Result, Ok, Err, IfOk, IfErr}
use Rattle.atomic_table.specs.Table.{Me}
use Rattle.event_form.specs.declared.event.Entry.{Entry}
use Rattle.spool_state.specs.Segment.{need_of}
use Rattle.spool_answers.specs.declared.receipt.Receipt.{Receipt}
use Rattle.spool_faults.specs.declared.fault.TakeFault.{TakeFault}
use Rattle.spool_faults.specs.declared.fault.TakeFault.TheVariants as Take
use Rattle.desk_access.specs.Division.{DividedRun}
use Rattle.desk_access.specs.declared.standing.Standing.{Standing}
use Rattle.desk_access.specs.Call.{takes, Record}
use Rattle.desk_access.specs.Desk.{DeskState}
use Rattle.desk_access.specs.JointRecords.{Part, standing_with}
use Rattle.spool_turns.specs.Rules.{View, Handed, PassView, made_by}
use Rattle.desk_seats.specs.Passes.{LeadsAbove, AllJoin, Calls}
use Rattle.spool_turns.specs.Passes.{known_of, IsPass, pass_in}
use Rattle.spool_turns.specs.Letters.{IsLetter, claimed}

-- the entries that a pass is out with, and its part of a group
abbrev pub entries_out : Option Handed → List Entry
entries_out None = []
entries_out (Some h) = h.entries

abbrev pub part_of : PassView → Part
part_of m = record { by = m.number; entries = entries_out m.out }

abbrev pub parts_of : List PassView → List Part
parts_of [] = []
parts_of (m ∷ passes) = part_of m ∷ parts_of passes

abbrev pub numbers_of : List PassView → List ℕ
numbers_of [] = []
numbers_of (m ∷ passes) = m.number ∷ numbers_of passes

-- the callers' numbers rise, from this one on
abbrev pub AreRising : ℕ → List Part → Type 0
AreRising least [] = Unit {0}
AreRising least (part ∷ parts) = (least ≤ part.by) × AreRising (part.by + 1) parts

-- whether a part that stands behind these entries goes on with their group, and the numbers that it meets
abbrev pub joins_behind : List Entry → Bool
joins_behind [] = false
joins_behind (entry ∷ first) = true

abbrev pub standing_behind : Standing → List Entry → Standing
standing_behind before [] = before
standing_behind before (entry ∷ first) = standing_with before (length (entry ∷ first)) (need_of (entry ∷ first))

-- and the numbers after it: where the disk failed they stay
abbrev pub standing_left : Standing → List Entry → Result Receipt TakeFault → Standing
standing_left before all (Ok receipt) = standing_behind before all
standing_left before all (Err fault) = before

-- The record of the take of a part that stands behind these entries in a group, which was stored where those numbers stood.
abbrev pub joint_record : Standing → ℕ → List Entry → List Entry → Result Receipt TakeFault → Record
joint_record before clock first part answer = record {
  by = 0;
  call = takes part answer;
  joins = joins_behind first;
  met = Some (standing_behind before first);
  after = standing_left before (first ++ part) answer;
  clock = clock;
}

-- its answer: where the group was stored, its place
abbrev pub part_answer : Bool → ℕ → List Entry → List Entry → Result Receipt TakeFault
part_answer true end first part = Ok (record { first = end + length first; count = length part })
part_answer false end first part = Err Take.DiskFault

-- the records of parts that stand behind these entries, one after another
abbrev pub records_behind : Bool → Standing → ℕ → List Entry → List Part → List Record
records_behind stored before clock first [] = []
records_behind stored before clock first (part ∷ parts) =
    made_by part.by (joint_record before clock first part.entries (part_answer stored before.end first part.entries))
    ∷ records_behind stored before clock (first ++ part.entries) parts

-- after each of the records the journal leads to a desk whose end and cursor are at least these
abbrev pub LeadOn : (DeskState → Type 0) → ℕ → ℕ → List Record → List Record → Type 0
LeadOn start least_end least_cursor log [] = Unit {0}
LeadOn start least_end least_cursor log (one ∷ records) =
    ((x : DeskState) → start x → LeadsAbove x (log ++ one ∷ []) least_end least_cursor) × LeadOn start least_end least_cursor (log ++ one ∷ []) records

-- the passes have seen more records than that many
abbrev pub AreBehind : ℕ → List PassView → Type 0
AreBehind seen [] = Unit {0}
AreBehind seen (m ∷ passes) = (seen < length m.seen) × AreBehind seen passes

-- The takes of the passes were entered in the journal as one group: all records behind the first one are of takes that were stored with it.
pub record AreJoint (log : List Record) (passes : List PassView) : Type 0 where
  pub before : List Record
  pub one : Record
  pub behind : List Record
  pub parts : log ≡ before ++ one ∷ behind
  pub join : AllJoin behind
  pub seen : AreBehind (length before) passes

-- A letter of this number, whose entries stand in a group: so many, for which there is room when they come back.
pub record IsJoined (run : DividedRun) (seats number count room : ℕ) (front : Bool) (me : Me ℕ View) : Type 0 where
  pub entries : List Entry
  pub letter : IsLetter run seats number entries front me
  pub count_is : count ≡ length entries
  pub fits : count ≤ room

-- Its take was entered in the journal, with this answer. The pass hasn't seen what was entered behind it.
pub record IsEntered (start : DeskState → Type 0) (run : DividedRun) (seats number count room : ℕ) (answer : Result Receipt TakeFault) (me : Me ℕ View) : Type 0 where
  pub pass : IsPass me
  pub number_is : (pass_in me.0).number ≡ number
  pub one_of : number < seats
  pub handed : Handed
  pub out : (pass_in me.0).out ≡ Some handed
  pub count_is : count ≡ length handed.entries
  pub some : 0 < count
  pub fits : count ≤ room
  pub calls : Calls start run seats (claimed number handed) (takes handed.entries answer) (known_of (pass_in me.0))
  pub receipt : IfOk answer (λ receipt. (receipt.count ≡ count) × (receipt.first + receipt.count ≤ 2 ^ 63))
  pub only : IfErr answer (λ fault. fault ≡ Take.DiskFault)

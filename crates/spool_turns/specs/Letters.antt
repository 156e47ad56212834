-- What a pass hands in, and what comes back to it.
use Rattle.std.specs.Prelude.{◌≡◌, ℕ, ◌+◌, ◌^◌, ◌<◌, ◌≤◌, Bool, true, false, List, length, take, All, Some, Result, IfOk, IfErr}
use Rattle.atomic_table.specs.Table.{Me}
use Rattle.event_form.specs.declared.event.Entry.{Entry}
use Rattle.event_form.specs.Entry.{IsEntry}
use Rattle.edge_disk.specs.declared.disk.Disk.{Ghosts}
use Rattle.spool_answers.specs.declared.receipt.Receipt.{Receipt}
use Rattle.spool_faults.specs.declared.fault.TakeFault.{TakeFault}
use Rattle.spool_answers.specs.Take.{IsRefusal}
use Rattle.desk_access.specs.Division.{DividedRun}
use Rattle.desk_access.specs.Call.{takes}
use Rattle.desk_access.specs.Batch.{MayTake, MayUse, IsPlain}
use Rattle.desk_access.specs.Desk.{DeskState}
use Rattle.desk_access.specs.Legal.{IsNext, IsUnused}
use Rattle.spool_turns.specs.Rules.{View, Handed, handed_by}
use Rattle.desk_seats.specs.Passes.{Known, known, Calls}
use Rattle.spool_turns.specs.Passes.{Beginning, known_of, IsPass, pass_in, Sound}
use Rattle.spool_turns.specs.Replays.{IsReal}

-- The seat is that of the pass of this number, one of so many. It is out with these entries, and may take them, or any front of them where
-- that was allowed.
pub record IsLetter (run : DividedRun) (seats number : ℕ) (entries : List Entry) (front : Bool) (me : Me ℕ View) : Type 0 where
  pub pass : IsPass me
  pub number_is : (pass_in me.0).number ≡ number
  pub one_of : number < seats
  pub out : (pass_in me.0).out ≡ Some (handed_by (pass_in me.0) entries front)
  pub some : 0 < length entries
  pub few : length entries < 2 ^ 32
  pub limits : All IsEntry entries
  pub next : MayTake (IsNext run number (pass_in me.0).own) entries
  pub units : MayUse (IsUnused (pass_in me.0).own) entries
  pub plain : front ≡ true → All IsPlain entries

-- what a pass of that number knew that handed this in
abbrev pub claimed : ℕ → Handed → Known
claimed number h = known number h.seen h.own h.end_known h.cursor_known

-- The seat is that of the pass of this number, one of so many, which was out with these entries. Since then its take of the first so many
-- of them was made, with this answer, and no other call: of all of them, but where a front was allowed.
pub record IsAnswered {D : Type 0} (disks : Ghosts D) (start : DeskState → Type 0) (run : DividedRun) (seats : ℕ) (began : Beginning) (number : ℕ)
    (entries : List Entry) (count : ℕ) (answer : Result Receipt TakeFault) (me : Me ℕ View) : Type 0 where
  pub pass : IsPass me
  pub number_is : (pass_in me.0).number ≡ number
  pub one_of : number < seats
  pub handed : Handed
  pub out : (pass_in me.0).out ≡ Some handed
  pub same : entries ≡ handed.entries
  pub sound : Sound start (pass_in me.0)
  pub calls : Calls start run seats (claimed number handed) (takes (take count handed.entries) answer) (known_of (pass_in me.0))
  pub real : IsReal disks start run seats began (pass_in me.0).seen
  pub some : 0 < count
  pub within : count ≤ length handed.entries
  pub whole : handed.front ≡ false → count ≡ length handed.entries
  pub receipt : IfOk answer (λ receipt. (receipt.count ≡ count) × (receipt.first + receipt.count ≤ 2 ^ 63))
  pub alone : handed.front ≡ true → IfErr answer (λ fault. IsRefusal fault → count ≡ 1)

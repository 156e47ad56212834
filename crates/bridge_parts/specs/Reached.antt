-- Where calls on a spool lead, and what a crash leaves of it.
use Rattle.std.specs.Prelude.{ℕ, List}
use Rattle.edge_disk.specs.Disk.{Moment}
use Rattle.spool_state.specs.SpoolState.{SpoolState}
use Rattle.spool_state.specs.Image.{StandsFor}
use Rattle.spool_answers.specs.Stages.{StandsForOne}
use Rattle.desk_access.specs.Call.{Call, Record, AreBy}
use Rattle.desk_access.specs.Desk.{DeskState, Goes}
use Rattle.desk_access.specs.History.{IsLater, Grows, AllKept}
use Rattle.bridge_parts.specs.Opened.{desk_in}

-- What stands after calls on the spool from a state: whatever a crash leaves now stands for a later state of
-- the same run. Each entry that was taken, so each that was answered, is there at its number or is below the
-- cursor. The list grew by the groups that were taken, in order, each whole.
pub record IsKeptIn (s : SpoolState) (calls : List Call) (c : List ℕ) : Type 0 where
  pub state : SpoolState
  pub stands : StandsFor state c
  pub later : IsLater s state
  pub kept : AllKept state calls
  pub grows : Grows (desk_in s) calls state

-- Calls on a spool in that state lead to where its disk is now. Each has an answer that the spool gives in the state
-- after those before it: so a refusal comes exactly where the spool is full or spent. Whatever a crash leaves now
-- stands for the one state after the calls, or for a stage of the change that failed last. So the calls alone changed
-- anything, and no number is known as confirmed but by them.
pub record Reaches (s : SpoolState) (now : Moment) (calls : List Call) : Type 0 where
  pub records : List Record
  pub by : AreBy 0 calls records
  pub after : DeskState
  pub goes : Goes (desk_in s) records after
  pub images : (c : List ℕ) → now.image c → StandsForOne after.spool after.doubt c
  pub each : (c : List ℕ) → now.image c → IsKeptIn s calls c

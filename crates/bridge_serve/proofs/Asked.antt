-- From what the words let be told to what is asked of the run: those who ask are told the spool's numbers.
use Rattle.std.proofs.Common.{◌≡◌, ℕ, ◌-◌, ◌≤◌, ◌∙◌, sym, ap}
use Rattle.std.specs.Prelude.{Bool}
use Rattle.edge_disk.specs.declared.disk.Disk.{Ghosts}
use Rattle.edge_io.specs.declared.monitor.EventCounts.{EventCounts}
use Rattle.edge_io.specs.declared.monitor.SpoolNumbers.{SpoolNumbers}
use Rattle.spool_state.specs.Layout.{slot_loss}
use Rattle.spool_state.specs.SpoolState.{SpoolState}
use Rattle.spool_log.specs.declared.memory.Memory.{Memory}
use Rattle.spool_log.specs.State.{View, view, IsIn}
use Rattle.desk_access.specs.Division.{DividedRun}
use Rattle.desk_access.specs.Desk.{DeskState, Stood}
use Rattle.desk_access.proofs.Steps.{goes_later}
use Rattle.spool_desk.proofs.Leading.{standing_known}
use Rattle.spool_turns.specs.declared.level.Level.{Level}
use Rattle.spool_turns.specs.Levels.{level_in, HasLevel}
use Rattle.spool_turns.proofs.Levels.{known_free}
use Rattle.spool_turns.specs.Passes.{Beginning, begun}
use Rattle.serve_desk.specs.Telling.{numbers_of, MayTell as MayTellLevels}
use Rattle.bridge_serve.specs.Numbers.{numbers_in, AreNumbers, MayTell}
use Rattle.bridge_serve.specs.Opened.{IsOpenedDesk, opened_at, IsOpenedFrom}
use Rattle.bridge_serve.proofs.Opening.{opened_desk, any_moment}

-- the numbers of memory are those of the state that it knows
known_numbers : (run : ℕ) (s : SpoolState) (doubt : _) (v : View) (stored : EventCounts) → IsIn s doubt v → run ≡ s.run
    → numbers_of run (level_in v.memory) stored ≡ numbers_in s stored
known_numbers run s doubt v stored held same =
    let standing = standing_known s doubt v held in
    let knows = held.knows in
    let free = known_free s v.memory knows in
    λ i. record {
      run = same i;
      end = (standing i).end;
      cursor = (standing i).cursor;
      known_count = (standing i).known_count;
      room = (standing i).room;
      slots = knows.slots i;
      free_slots = free i;
      most = knows.size i - slot_loss;
      stored = stored;
    }

-- of a spool that was opened for storing, and of the desk over it
module _ {D : Type 0} (disks : Ghosts D) (given now : D) (memory : Memory) (in_doubt : Bool) (clock : ℕ) (grouped : Bool) (run : DividedRun) (seats : ℕ)
    (from : IsOpenedFrom disks.tells (disks.moment given) (view memory in_doubt (disks.moment now))) (later : disks.tells → (disks.moment given).clock ≤ clock) where
  abbrev start : DeskState → Type 0
  start = IsOpenedDesk disks.tells (disks.moment given).reads

  abbrev began : Beginning
  began = begun (opened_at disks.tells (disks.moment given) clock) grouped

  -- a desk to which a journal led stood at this level
  with_level : (level : Level) (stored : EventCounts) → (has : HasLevel disks start run seats began level)
      → AreNumbers disks.tells (disks.moment given) (disks.moment has.desk.desk.spool.disk) (numbers_of run.number level stored)
  with_level level stored has = record {
    log = has.log;
    led = λ told.
        let x = opened_desk disks.tells (disks.moment given).reads (view memory in_doubt (disks.moment now)) from.opens told in
        let lead = has.replays.leads x.0 x.1 in record {
          start = x.0;
          opened = x.1;
          after = lead.after;
          goes = lead.goes;
          any_moment = any_moment disks.tells (disks.moment given) (disks.moment has.desk.desk.spool.disk) clock (Stood x.0 has.log) told (later told)
              lead.any_moment;
        };
    numbers_are = λ told.
        let x = opened_desk disks.tells (disks.moment given).reads (view memory in_doubt (disks.moment now)) from.opens told in
        let begins = has.replays.begins x.0 x.1 in
        let lead = has.replays.leads x.0 x.1 in
        let same = goes_later x.0 lead.after has.log begins.rules lead.goes in
        ap (λ (l : Level). numbers_of run.number l stored) has.level_is
        ∙ known_numbers run.number lead.after.spool lead.after.doubt _ stored lead.reached.spool (sym begins.of_run ∙ sym same.1.run);
  }

  -- what may be told of the spool, the run may tell of each level
  pub levels_may : (May : SpoolNumbers → Type 0) → MayTell disks.tells (λ (d : D). disks.moment d) given May
      → MayTellLevels (HasLevel disks start run seats began) run.number May
  levels_may May may level stored has = may has.desk.desk.spool.disk (numbers_of run.number level stored) (with_level level stored has)

-- A call that mends the spool before it goes on.
use Rattle.std.specs.Prelude.{◌≡◌, ◌⊎◌, ℕ, true, List, [], Result, Ok, Err}
use Rattle.std.specs.Global.{Vec}
use Rattle.event_form.specs.declared.event.Entry.{Entry}
use Rattle.known_numbers.specs.declared.stretch.Stretch.{Stretch}
use Rattle.spool_state.specs.SpoolState.{SpoolState, Follows}
use Rattle.edge_disk.specs.Disk.{LeavesOnly}
use Rattle.spool_faults.specs.declared.fault.PendFault.{PendFault}
use Rattle.spool_answers.specs.declared.receipt.Receipt.{Receipt}
use Rattle.spool_faults.specs.declared.fault.TakeFault.{TakeFault}
use Rattle.spool_answers.specs.declared.numbered.Numbered.{Numbered}
use Rattle.spool_faults.specs.declared.fault.ConfirmFault.{ConfirmFault}
use Rattle.spool_faults.specs.Fault.{as_take, as_confirm}
use Rattle.spool_answers.specs.Pend.{IsNotBroken, Pends}
use Rattle.spool_answers.specs.Stages.{IsOneOf, AllFollow}
use Rattle.spool_log.specs.State.{View, IsIn, LeavesStages}
use Rattle.spool_answers.specs.Mark.{Marks, after_mark, mark_stages, mark_doubt}
use Rattle.spool_answers.specs.Take.{Takes, after_take, take_stages, take_doubt}

-- The spool was in doubt, and mending failed, for want of memory or of the disk: the state and the doubt stay the same,
-- and a crash left what it could leave before.
pub record StaysInDoubt (s : SpoolState) (doubt : List SpoolState) (fault : PendFault) (old new : View) : Type 0 where
  pub in_doubt : old.in_doubt ≡ true
  pub why : IsNotBroken fault
  pub stays : IsIn s doubt new
  pub any_moment : LeavesOnly old.moment.image old.moment new.moment

-- Mending reached one of the state and the doubt. Where there was no doubt, that is the state. Nothing was written: a
-- crash left what it could leave before.
pub record IsMended (s : SpoolState) (doubt : List SpoolState) (m : SpoolState) (old new : View) : Type 0 where
  pub one : IsOneOf s doubt m
  pub follows : Follows s m
  pub reached : IsIn m [] new
  pub any_moment : LeavesOnly old.moment.image old.moment new.moment

abbrev pub Mends : SpoolState → List SpoolState → Result Unit PendFault → View → View → Type 0
Mends s doubt (Ok done) old new = (m : SpoolState) × IsMended s doubt m old new
Mends s doubt (Err fault) old new = StaysInDoubt s doubt fault old new

-- Mending reached m. From there a change with these stages led to a state and a doubt; or none was made, where there
-- is no stage. Whenever a crash came meanwhile, it left what it could leave before, or what stands for m or a stage.
-- All of these follow the state.
pub record GoesOn (s : SpoolState) (doubt : List SpoolState) (m : SpoolState) (stages : List SpoolState) (after : SpoolState) (later : List SpoolState) (old new : View) : Type 0 where
  pub one : IsOneOf s doubt m
  pub follows : Follows s after
  pub stages_follow : AllFollow s stages
  pub reached : IsIn after later new
  pub any_moment : LeavesStages m stages old.moment new.moment

-- a take of a group that isn't empty
abbrev pub TakesFrom : SpoolState → List SpoolState → List Entry → Result Receipt TakeFault → View → View → Type 0
TakesFrom s doubt group result old new =
    ((fault : PendFault) × (result ≡ Err (as_take fault)) × StaysInDoubt s doubt fault old new)
    ⊎ ((m : SpoolState) × Takes m group result × GoesOn s doubt m (take_stages m group result) (after_take m group result) (take_doubt m group result) old new)

-- a mark of known numbers
abbrev pub MarksFrom : SpoolState → List SpoolState → List Stretch → Result Unit ConfirmFault → View → View → Type 0
MarksFrom s doubt more result old new =
    ((fault : PendFault) × (result ≡ Err (as_confirm fault)) × StaysInDoubt s doubt fault old new)
    ⊎ ((m : SpoolState) × Marks m more result × GoesOn s doubt m (mark_stages m more result) (after_mark m more result) (mark_doubt m more result) old new)

-- a reading of entries
abbrev pub PendsFrom : SpoolState → List SpoolState → ℕ → ℕ → Result (Vec Numbered) PendFault → View → View → Type 0
PendsFrom s doubt from most result old new =
    ((fault : PendFault) × (result ≡ Err fault) × StaysInDoubt s doubt fault old new)
    ⊎ ((m : SpoolState) × Pends m from most result × GoesOn s doubt m [] m [] old new)

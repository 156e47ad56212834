-- A device that is opened for storing.
use Rattle.std.specs.Prelude.{◌≡◌, []}
use Rattle.edge_disk.specs.Disk.{Moment, LeavesOnly}
use Rattle.spool_state.specs.SpoolState.{SpoolState}
use Rattle.spool_log.specs.declared.fault.RecoverFault.{RecoverFault}
use Rattle.spool_log.specs.declared.opening.Opening.TheVariants.{Raise}
use Rattle.spool_log.specs.Opening.{IsRefusing, IsRefusedAs}
use Rattle.hec_ids.specs.Rows as Ids
use Rattle.desk_access.specs.Desk.{DeskState, desk_of}
use Rattle.notes.specs.declared.note.Note.{Note}
use Rattle.bridge_parts.specs.Refused.{note_of_recover}

-- the desk of a spool that was opened in this state: nothing is in doubt, and no id of its run was issued
abbrev pub desk_in : SpoolState → DeskState
desk_in s = desk_of s [] (Ids.opened s.run 0)

-- The device was not opened: it breaks a rule, the first one at that place; or its run or its register can't be
-- raised; or a call of the disk failed, or no memory was found. Unless the disk failed, a crash left what it could
-- leave before.
pub record IsUnopened (tells : Type 0) (old new : Moment) (note : Note) : Type 0 where
  pub fault : RecoverFault
  pub note_is : note ≡ note_of_recover fault
  pub why : tells → IsRefusedAs Raise old.reads fault
  pub any_moment : tells → LeavesOnly (IsRefusing Raise fault old) old new

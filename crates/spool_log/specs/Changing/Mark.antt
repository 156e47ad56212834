-- What a mark of known numbers comes to, in memory and on the device.
use Rattle.std.specs.Prelude.{◌≡◌, List, Result}
use Rattle.known_numbers.specs.declared.stretch.Stretch.{Stretch}
use Rattle.spool_state.specs.Layout.{most_number}
use Rattle.spool_state.specs.SpoolState.{SpoolState, Follows}
use Rattle.spool_faults.specs.declared.fault.ConfirmFault.{ConfirmFault}
use Rattle.spool_faults.specs.declared.fault.ConfirmFault.TheVariants.{Worn, NotSpool, DiskFault, NoMemory}
use Rattle.spool_answers.specs.Mark.{Marks, after_mark, mark_stages, mark_doubt}
use Rattle.spool_log.specs.declared.memory.Memory.{Memory}
use Rattle.spool_answers.specs.Stages.{AllFollow}
use Rattle.spool_log.specs.State.{View, IsIn, LeavesStages}

-- What a mark outside doubt leads to.
pub record MarksTo (s : SpoolState) (more : List Stretch) (result : Result Unit ConfirmFault) (old new : View) : Type 0 where
  pub answer : Marks s more result
  pub follows : Follows s (after_mark s more result)
  pub stages_follow : AllFollow s (mark_stages s more result)
  pub reached : IsIn (after_mark s more result) (mark_doubt s more result) new
  pub any_moment : LeavesStages s (mark_stages s more result) old.moment new.moment

-- Worn comes only at the last ordinal that memory has, also of a disk that doesn't tell what it reads.
abbrev pub WornBy : Memory → ConfirmFault → Type 0
WornBy memory (Worn ordinal) = (ordinal ≡ memory.register.ordinal) × (memory.register.ordinal ≡ most_number)
WornBy memory (NotSpool at) = Unit {0}
WornBy memory DiskFault = Unit {0}
WornBy memory NoMemory = Unit {0}

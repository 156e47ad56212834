-- What a take of a group comes to, in memory and on the device.
use Rattle.std.specs.Prelude.{◌≡◌, ◌+◌, ◌<◌, ◌≤◌, List, length, Result, Ok, Err}
use Rattle.event_form.specs.declared.event.Entry.{Entry}
use Rattle.spool_state.specs.Segment.{need_of}
use Rattle.spool_state.specs.Layout.{most_number}
use Rattle.spool_state.specs.SpoolState.{SpoolState, Follows}
use Rattle.spool_answers.specs.declared.receipt.Receipt.{Receipt}
use Rattle.spool_faults.specs.declared.fault.TakeFault.{TakeFault}
use Rattle.spool_faults.specs.declared.fault.TakeFault.TheVariants.{TooLarge, Spent, Full, NotSpool, NoMemory, DiskFault}
use Rattle.spool_answers.specs.Take.{after_take, take_stages, take_doubt}
use Rattle.spool_log.specs.declared.memory.Memory.{Memory}
use Rattle.spool_log.specs.Memory.{end_of, room_of, most_of}
use Rattle.spool_answers.specs.Stages.{AllFollow}
use Rattle.spool_log.specs.State.{View, IsIn, LeavesStages}

-- A refusal by the numbers that memory has, also of a disk that doesn't tell what it reads.
abbrev pub RefusedBy : Memory → List Entry → TakeFault → Type 0
RefusedBy memory group (TooLarge need most) = (need ≡ need_of group) × (most ≡ most_of memory) × (most < need)
RefusedBy memory group (Spent at) = (need_of group ≤ most_of memory) × (at ≡ end_of memory) × (most_number < at + length group)
RefusedBy memory group (Full need free) = (need_of group ≤ most_of memory) × (need ≡ need_of group) × (free ≡ room_of memory) × (free < need)
RefusedBy memory group (NotSpool at) = Unit {0}
RefusedBy memory group NoMemory = Unit {0}
RefusedBy memory group DiskFault = Unit {0}

-- What a take outside doubt leads to. Where it is refused, a crash leaves what it could leave before.
pub record StoresTo (s : SpoolState) (group : List Entry) (result : Result Receipt TakeFault) (old new : View) : Type 0 where
  pub follows : Follows s (after_take s group result)
  pub stages_follow : AllFollow s (take_stages s group result)
  pub reached : IsIn (after_take s group result) (take_doubt s group result) new
  pub any_moment : LeavesStages s (take_stages s group result) old.moment new.moment

-- no entries were taken: the receipt has the end, as memory knows it
abbrev pub TakesNothing : Memory → Result Receipt TakeFault → Type 0
TakesNothing memory (Ok receipt) = (receipt.first ≡ end_of memory) × (receipt.count ≡ 0)
TakesNothing memory (Err fault) = ⊥

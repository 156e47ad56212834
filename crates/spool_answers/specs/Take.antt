-- What a take of a group answers, and what comes of it.
use Rattle.std.specs.Prelude.{◌≡◌, ◌⊎◌, ℕ, ◌+◌, ◌<◌, ◌≤◌, List, [], length, Result, Ok, Err}
use Rattle.event_form.specs.declared.event.Entry.{Entry}
use Rattle.spool_state.specs.Segment.{need_of}
use Rattle.spool_state.specs.Layout.{most_number}
use Rattle.spool_state.specs.SpoolState.{SpoolState, end, room, most_room}
use Rattle.spool_state.specs.Free.{IsFree, NoneIsFree}
use Rattle.spool_answers.specs.declared.receipt.Receipt.{Receipt}
use Rattle.spool_faults.specs.declared.fault.TakeFault.{TakeFault}
use Rattle.spool_faults.specs.declared.fault.TakeFault.TheVariants.{TooLarge, Spent, Full, NotSpool, NoMemory, DiskFault}
use Rattle.spool_answers.specs.Stages.{last_of, group_stages}

-- the active slot has room for the group, or a slot is free
abbrev pub HasPlace : SpoolState → List Entry → Type 0
HasPlace s group = (need_of group ≤ room s) ⊎ ((place : ℕ) × IsFree s place)

-- nothing but the disk stands in the way of the group
pub record Fits (s : SpoolState) (group : List Entry) : Type 0 where
  pub small : need_of group ≤ most_room s
  pub numbers : end s + length group ≤ most_number
  pub place : HasPlace s group

-- This is the answer in that state: the reasons to refuse a group in the order of the table.
abbrev pub Takes : SpoolState → List Entry → Result Receipt TakeFault → Type 0
Takes s group (Ok receipt) = Fits s group × (receipt.first ≡ end s) × (receipt.count ≡ length group)
Takes s group (Err (TooLarge need most)) = (need ≡ need_of group) × (most ≡ most_room s) × (most < need)
Takes s group (Err (Spent at)) = (need_of group ≤ most_room s) × (at ≡ end s) × (most_number < at + length group)
Takes s group (Err (Full need free)) =
    (need_of group ≤ most_room s) × (end s + length group ≤ most_number) × (need ≡ need_of group) × (free ≡ room s) × (free < need) × NoneIsFree s
Takes s group (Err (NotSpool at)) = ⊥
Takes s group (Err NoMemory) = ⊥
Takes s group (Err DiskFault) = Fits s group

-- the state after it
abbrev pub after_take : SpoolState → List Entry → Result Receipt TakeFault → SpoolState
after_take s group (Ok receipt) = last_of s (group_stages s group)
after_take s group (Err fault) = s

-- the stages of the change that was made, or that failed on the way: none where the group was refused
abbrev pub take_stages : SpoolState → List Entry → Result Receipt TakeFault → List SpoolState
take_stages s group (Ok receipt) = group_stages s group
take_stages s group (Err (TooLarge need most)) = []
take_stages s group (Err (Spent at)) = []
take_stages s group (Err (Full need free)) = []
take_stages s group (Err (NotSpool at)) = []
take_stages s group (Err NoMemory) = []
take_stages s group (Err DiskFault) = group_stages s group

-- the doubt after it
abbrev pub take_doubt : SpoolState → List Entry → Result Receipt TakeFault → List SpoolState
take_doubt s group (Ok receipt) = []
take_doubt s group (Err (TooLarge need most)) = []
take_doubt s group (Err (Spent at)) = []
take_doubt s group (Err (Full need free)) = []
take_doubt s group (Err (NotSpool at)) = []
take_doubt s group (Err NoMemory) = []
take_doubt s group (Err DiskFault) = group_stages s group

-- the group was refused: for want of room or of numbers
abbrev pub IsRefusal : TakeFault → Type 0
IsRefusal (TooLarge need most) = Unit {0}
IsRefusal (Spent at) = Unit {0}
IsRefusal (Full need free) = Unit {0}
IsRefusal (NotSpool at) = ⊥
IsRefusal NoMemory = ⊥
IsRefusal DiskFault = ⊥

-- or the disk failed
abbrev pub IsAnswered : TakeFault → Type 0
IsAnswered (TooLarge need most) = Unit {0}
IsAnswered (Spent at) = Unit {0}
IsAnswered (Full need free) = Unit {0}
IsAnswered (NotSpool at) = ⊥
IsAnswered NoMemory = ⊥
IsAnswered DiskFault = Unit {0}

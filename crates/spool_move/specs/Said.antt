-- What a refusal says by the numbers that memory has of both spools, also of disks that don't tell what they read.
use Rattle.std.specs.Prelude.{◌≡◌, ◌<◌}
use Rattle.spool_state.specs.Layout.{most_number}
use Rattle.spool_log.specs.declared.memory.Memory.{Memory}
use Rattle.spool_log.specs.Memory.{end_of, room_of, most_of}
use Rattle.spool_move.specs.declared.fault.MoveFault.{MoveFault}
use Rattle.spool_move.specs.declared.fault.MoveFault.TheVariants.{Strange, TooLarge, Spent, Full, Worn, NotSpool, SourceFault, TargetFault, NoMemory}

-- a refused take says what the target has, and a worn register what the source has
abbrev pub IsSaidBy : Memory → Memory → MoveFault → Type 0
IsSaidBy source target (Strange number) = Unit {0}
IsSaidBy source target (TooLarge need most) = (most ≡ most_of target) × (most < need)
IsSaidBy source target (Spent at) = at ≡ end_of target
IsSaidBy source target (Full need free) = (free ≡ room_of target) × (free < need)
IsSaidBy source target (Worn ordinal) = (ordinal ≡ source.register.ordinal) × (source.register.ordinal ≡ most_number)
IsSaidBy source target (NotSpool at) = Unit {0}
IsSaidBy source target SourceFault = Unit {0}
IsSaidBy source target TargetFault = Unit {0}
IsSaidBy source target NoMemory = Unit {0}

-- What a reading of entries answers.
use Rattle.std.specs.Prelude.{◌≡◌, ℕ, ◌+◌, ◌<◌, ◌≤◌, List, [], ◌∷◌, map, take, Result, Ok, Err}
use Rattle.std.specs.Global.{Vec}
use Rattle.event_form.specs.Entry.{IsEntry}
use Rattle.spool_state.specs.SpoolState.{SpoolState}
use Rattle.spool_state.specs.Left.{NumberedEntry, left_from}
use Rattle.spool_faults.specs.declared.fault.PendFault.{PendFault}
use Rattle.spool_faults.specs.declared.fault.PendFault.TheVariants.{NotSpool, DiskFault, NoMemory}
use Rattle.spool_answers.specs.declared.numbered.Numbered.{Numbered}

-- the device was not said to be no spool
abbrev pub IsNotBroken : PendFault → Type 0
IsNotBroken (NotSpool at) = ⊥
IsNotBroken DiskFault = Unit {0}
IsNotBroken NoMemory = Unit {0}

-- entries with their numbers, as they are given
abbrev pub given_entries : List Numbered → List NumberedEntry
given_entries given = map (λ one. record { number = one.number; entry = one.entry }) given

-- Outside doubt these are given: the first so many of the entries with numbers from this one on that aren't known as
-- confirmed. Or the disk failed, or no memory was found.
abbrev pub Pends : SpoolState → ℕ → ℕ → Result (Vec Numbered) PendFault → Type 0
Pends s from most (Ok given) = given_entries given.items ≡ take most (left_from s from)
Pends s from most (Err fault) = IsNotBroken fault

-- Entries with rising numbers from this one on and below the end, each within its limits.
abbrev pub AreNumbered : ℕ → ℕ → List Numbered → Type 0
AreNumbered from end [] = Unit {0}
AreNumbered from end (one ∷ more) = (from ≤ one.number) × (one.number < end) × IsEntry one.entry × AreNumbered (one.number + 1) end more

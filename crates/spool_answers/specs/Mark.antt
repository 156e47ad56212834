-- What a mark of known numbers answers, and what comes of it.
use Rattle.std.specs.Prelude.{◌≡◌, ◌⊎◌, ℕ, ◌<◌, ◌≤◌, List, [], ◌∷◌, Result, Ok, Err}
use Rattle.known_numbers.specs.declared.stretch.Stretch.{Stretch}
use Rattle.known_numbers.specs.Numbers.{marked}
use Rattle.spool_state.specs.Layout.{most_number}
use Rattle.spool_state.specs.SpoolState.{SpoolState, numbers_of}
use Rattle.spool_faults.specs.declared.fault.ConfirmFault.{ConfirmFault}
use Rattle.spool_faults.specs.declared.fault.ConfirmFault.TheVariants.{Worn, NotSpool, DiskFault, NoMemory}
use Rattle.spool_answers.specs.Stages.{last_of, known_stages}

-- all numbers below this one, as a stretch: what a confirm marks
abbrev pub all_below : ℕ → List Stretch
all_below upto = record { from = 0; to = upto } ∷ []

-- the stretch has an order, and ends at this number or before
pub record EndsBy (end : ℕ) (stretch : Stretch) : Type 0 where
  pub order : stretch.from ≤ stretch.to
  pub within : stretch.to ≤ end

-- with the stretches marked, the known numbers are those that are known
abbrev pub IsNothingNew : SpoolState → List Stretch → Type 0
IsNothingNew s more = marked (numbers_of s) more ≡ numbers_of s

-- This is the answer in that state: nothing new is marked, or the register can be written; or it is worn.
abbrev pub Marks : SpoolState → List Stretch → Result Unit ConfirmFault → Type 0
Marks s more (Ok done) = IsNothingNew s more ⊎ (s.ordinal < most_number)
Marks s more (Err (Worn ordinal)) = (IsNothingNew s more → ⊥) × (ordinal ≡ s.ordinal) × (s.ordinal ≡ most_number)
Marks s more (Err (NotSpool at)) = ⊥
Marks s more (Err DiskFault) = (IsNothingNew s more → ⊥) × (s.ordinal < most_number)
Marks s more (Err NoMemory) = ⊥

-- the state after it
abbrev pub after_mark : SpoolState → List Stretch → Result Unit ConfirmFault → SpoolState
after_mark s more (Ok done) = last_of s (known_stages s more)
after_mark s more (Err fault) = s

-- the stages of the change that was made, or that failed on the way: none where nothing new is marked, or the
-- register is worn
abbrev pub mark_stages : SpoolState → List Stretch → Result Unit ConfirmFault → List SpoolState
mark_stages s more (Ok done) = known_stages s more
mark_stages s more (Err (Worn ordinal)) = []
mark_stages s more (Err (NotSpool at)) = []
mark_stages s more (Err DiskFault) = known_stages s more
mark_stages s more (Err NoMemory) = []

-- the doubt after it
abbrev pub mark_doubt : SpoolState → List Stretch → Result Unit ConfirmFault → List SpoolState
mark_doubt s more (Ok done) = []
mark_doubt s more (Err (Worn ordinal)) = []
mark_doubt s more (Err (NotSpool at)) = []
mark_doubt s more (Err DiskFault) = known_stages s more
mark_doubt s more (Err NoMemory) = []

-- the register was written as often as it can be, or the disk failed
abbrev pub IsAnswered : ConfirmFault → Type 0
IsAnswered (Worn ordinal) = Unit {0}
IsAnswered (NotSpool at) = ⊥
IsAnswered DiskFault = Unit {0}
IsAnswered NoMemory = ⊥

-- The calls of a desk that change it or read from it, each with its answer.
use Rattle.std.specs.Prelude.{◌≡◌, ℕ, ◌+◌, ◌==◌, if◌then◌else◌, Bool, true, false, List, [], ◌∷◌, ◌++◌, Option, Result, Ok, Err}
use Rattle.std.specs.Global.{Vec}
use Rattle.known_numbers.specs.declared.stretch.Stretch.{Stretch}
use Rattle.event_form.specs.declared.event.Entry.{Entry}
use Rattle.spool_answers.specs.declared.numbered.Numbered.{Numbered}
use Rattle.spool_answers.specs.declared.receipt.Receipt.{Receipt}
use Rattle.spool_faults.specs.declared.fault.TakeFault.{TakeFault}
use Rattle.spool_faults.specs.declared.fault.TakeFault.TheVariants as Take
use Rattle.spool_faults.specs.declared.fault.PendFault.{PendFault}
use Rattle.spool_faults.specs.declared.fault.PendFault.TheVariants as Pend
use Rattle.spool_faults.specs.declared.fault.ConfirmFault.{ConfirmFault}
use Rattle.spool_faults.specs.declared.fault.ConfirmFault.TheVariants as Confirm
use Rattle.hec_ids.specs.declared.fault.IssueFault.{IssueFault}
use Rattle.desk_access.specs.declared.standing.Standing.{Standing}

pub data Call : Type 0 where
  -- a take of a group of entries
  takes : List Entry → Result Receipt TakeFault → Call
  -- a reading of entries, from a number on and at most this many
  pends : ℕ → ℕ → Result (List Numbered) PendFault → Call
  -- a confirm of the entries below a number
  confirms : ℕ → Result Unit ConfirmFault → Call
  -- a mark of the entries with the numbers of some stretches
  marks : List Stretch → Result Unit ConfirmFault → Call
  -- a reading of how many numbers above the cursor are known
  counts : ℕ → Call
  -- an id issued to a channel
  issues : ℕ → Result ℕ IssueFault → Call
  -- an id of a channel settled: whether the channel held it unsettled
  settles : ℕ → ℕ → Bool → Call
  -- an id of a channel forgotten: whether the channel held it
  forgets : ℕ → ℕ → Bool → Call
  -- a channel's question after ids: whether it held each settled
  asks : ℕ → List ℕ → List Bool → Call

-- A call, with the number of its caller and the numbers of the spool. `met` has those that the call met once a doubt
-- was mended, or none where mending failed; `after` has those that stood after it. With `met` the state after a journal
-- is a function of it: a call that failed at the disk may have left a doubt as it was, or mended it and left another.
-- `clock` names the moment of the disk at which the call was answered; of a call of the ids alone, which doesn't go to the disk, the one
-- at which the spool's last call was answered.
pub record Record : Type 0 where
  pub by : ℕ
  pub call : Call
  -- it was stored as one group with the take of the record before it
  pub joins : Bool
  pub met : Option Standing
  pub after : Standing
  pub clock : ℕ

-- the calls of that caller among the records, in order
abbrev pub own_of : ℕ → List Record → List Call
own_of number [] = []
own_of number (one ∷ records) = if one.by == number then one.call ∷ own_of number records else own_of number records

-- all calls of the records, in order
abbrev pub calls_of : List Record → List Call
calls_of [] = []
calls_of (one ∷ records) = one.call ∷ calls_of records

-- the records are those of these calls of one caller
abbrev pub AreBy : ℕ → List Call → List Record → Type 0
AreBy number [] [] = Unit {0}
AreBy number [] (one ∷ records) = ⊥
AreBy number (call ∷ calls) [] = ⊥
AreBy number (call ∷ calls) (one ∷ records) = (one.by ≡ number) × (one.call ≡ call) × (one.joins ≡ false) × AreBy number calls records

-- an answer with the list of what was read
abbrev pub listed : Result (Vec Numbered) PendFault → Result (List Numbered) PendFault
listed (Ok given) = Ok given.items
listed (Err fault) = Err fault

-- the entries that a call took
abbrev pub taken_by : Call → List Entry
taken_by (takes group (Ok receipt)) = group
taken_by _ = []

-- the entries that the calls took, in order
abbrev pub taken_of : List Call → List Entry
taken_of [] = []
taken_of (call ∷ calls) = taken_by call ++ taken_of calls

-- how many of the calls were answered that the disk failed
abbrev pub take_failures : Result Receipt TakeFault → ℕ
take_failures (Err Take.DiskFault) = 1
take_failures _ = 0

abbrev pub pend_failures : Result (List Numbered) PendFault → ℕ
pend_failures (Err Pend.DiskFault) = 1
pend_failures _ = 0

abbrev pub confirm_failures : Result Unit ConfirmFault → ℕ
confirm_failures (Err Confirm.DiskFault) = 1
confirm_failures _ = 0

abbrev pub failures_in : Call → ℕ
failures_in (takes group result) = take_failures result
failures_in (pends from most result) = pend_failures result
failures_in (confirms upto result) = confirm_failures result
failures_in (marks stretches result) = confirm_failures result
failures_in _ = 0

abbrev pub failures_of : List Call → ℕ
failures_of [] = 0
failures_of (call ∷ calls) = failures_in call + failures_of calls

-- How many changes failed at the disk: takes that were stored as one group failed in one, that of the first.
abbrev pub failed_as : Bool → Call → ℕ
failed_as false call = failures_in call
failed_as true (takes group result) = 0
failed_as true call = failures_in call

abbrev pub failed_of : List Record → ℕ
failed_of [] = 0
failed_of (one ∷ records) = failed_as one.joins one.call + failed_of records

-- how many takes were answered that the disk failed, and were stored as one group with the one before them
abbrev pub joined_as : Bool → Call → ℕ
joined_as true (takes group result) = take_failures result
joined_as joins call = 0

abbrev pub joined_failures : List Record → ℕ
joined_failures [] = 0
joined_failures (one ∷ records) = joined_as one.joins one.call + joined_failures records

-- the call is no take
abbrev pub IsNoTake : Call → Type 0
IsNoTake (takes group result) = ⊥
IsNoTake _ = Unit {0}

-- none of the records was stored as one group with the one before it
abbrev pub NoneJoins : List Record → Type 0
NoneJoins [] = Unit {0}
NoneJoins (one ∷ records) = (one.joins ≡ false) × NoneJoins records

-- the call is no take that was answered so
abbrev pub TookSurely : Call → Type 0
TookSurely (takes group result) = take_failures result ≡ 0
TookSurely _ = Unit {0}

-- What a refusal says of entries that have room.
use Rattle.std.proofs.Common.{◌≡◌, ◌⊎◌, inl, inr, ℕ, true, false, List, arith, refl, sym, ◌∙◌}
use Rattle.std.specs.Prelude.{Bool, Result, Ok, Err, IfErr, IsErrOf, take}
use Rattle.event_form.specs.declared.event.Entry.{Entry}
use Rattle.spool_answers.specs.declared.receipt.Receipt.{Receipt}
use Rattle.spool_faults.specs.declared.fault.TakeFault.{TakeFault}
use Rattle.spool_faults.specs.declared.fault.TakeFault.TheVariants as Take
use Rattle.spool_log.specs.declared.memory.Memory.{Memory}
use Rattle.spool_answers.specs.Take.{IsRefusal}
use Rattle.spool_log.specs.Changing.Take.{RefusedBy}
use Rattle.spool_desk.specs.Fitting.{FitsInRoom}

never_refused : (doubt : Bool) (memory : Memory) (group : List Entry) (fault : TakeFault) → FitsInRoom doubt memory group → RefusedBy memory group fault → IsRefusal fault → ⊥
never_refused doubt memory group (Take.TooLarge need most) fits by is = omega (arith, fits.small, by.0, by.1, by.2)
never_refused doubt memory group (Take.Spent end) fits by is = omega (arith, fits.numbers, by.1, by.2)
never_refused doubt memory group (Take.Full need room) fits by is = omega (arith, fits.room, by.1, by.2, by.3)
never_refused doubt memory group (Take.NotSpool at) fits by is = absurd is
never_refused doubt memory group Take.NoMemory fits by is = absurd is
never_refused doubt memory group Take.DiskFault fits by is = absurd is

-- a refused front is the first entry alone
pub front_alone : (doubt : Bool) (memory : Memory) (entries : List Entry) (count : ℕ) (result : Result Receipt TakeFault) → (count ≡ 1) ⊎ FitsInRoom doubt memory (take count entries)
    → (doubt ≡ false → IfErr result (RefusedBy memory (take count entries))) → IfErr result (λ fault. IsRefusal fault → count ≡ 1)
front_alone doubt memory entries count (Ok receipt) fits before = tt
front_alone doubt memory entries count (Err fault) (inl one) before = λ is. one
front_alone doubt memory entries count (Err fault) (inr fits) before = λ is. absurd (never_refused doubt memory (take count entries) fault fits (before fits.sure) is)

-- they are refused by a failing disk alone
pub disk_alone : (doubt : Bool) (memory : Memory) (group : List Entry) (result : Result Receipt TakeFault) → FitsInRoom doubt memory group → IfErr result (RefusedBy memory group)
    → (IsErrOf result Take.NoMemory → doubt ≡ true) → ((at : ℕ) → IsErrOf result (Take.NotSpool at) → doubt ≡ true) → IfErr result (λ fault. fault ≡ Take.DiskFault)
disk_alone doubt memory group (Ok receipt) fits before met again = tt
disk_alone doubt memory group (Err (Take.TooLarge need most)) fits before met again = absurd (never_refused doubt memory group (Take.TooLarge need most) fits before tt)
disk_alone doubt memory group (Err (Take.Spent end)) fits before met again = absurd (never_refused doubt memory group (Take.Spent end) fits before tt)
disk_alone doubt memory group (Err (Take.Full need room)) fits before met again = absurd (never_refused doubt memory group (Take.Full need room) fits before tt)
disk_alone doubt memory group (Err (Take.NotSpool at)) fits before met again = absurd (cc (sym fits.sure ∙ again at refl))
disk_alone doubt memory group (Err Take.NoMemory) fits before met again = absurd (cc (sym fits.sure ∙ met refl))
disk_alone doubt memory group (Err Take.DiskFault) fits before met again = refl

-- Calls on a desk that isn't in doubt: what was refused there didn't fit, or the disk failed.
use Rattle.std.proofs.Common.{◌≡◌, inl, inr, ℕ, List, [], ◌∷◌, ◌++◌, length, refl, sym, ◌∙◌, ap, subst, arith}
use Rattle.std.specs.Prelude.{Bool, true, false, Option, Some, None, Result, Ok, Err}
use Rattle.event_form.specs.declared.event.Entry.{Entry}
use Rattle.known_numbers.specs.declared.stretch.Stretch.{Stretch}
use Rattle.spool_state.specs.SpoolState.{SpoolState}
use Rattle.spool_answers.specs.declared.receipt.Receipt.{Receipt}
use Rattle.spool_faults.specs.declared.fault.TakeFault.{TakeFault}
use Rattle.spool_faults.specs.declared.fault.TakeFault.TheVariants as Take
use Rattle.spool_faults.specs.declared.fault.PendFault.{PendFault}
use Rattle.spool_faults.specs.declared.fault.ConfirmFault.{ConfirmFault}
use Rattle.spool_faults.specs.declared.fault.ConfirmFault.TheVariants as Confirm
use Rattle.spool_answers.specs.Stages.{IsOneOf}
use Rattle.spool_answers.specs.Take.{Fits, Takes, take_doubt}
use Rattle.spool_answers.specs.Mark.{all_below, mark_doubt}
use Rattle.hec_ids.specs.declared.fault.IssueFault.{IssueFault}
use Rattle.hec_ids.specs.declared.fault.IssueFault.TheVariants as issue
use Rattle.hec_ids.specs.Rows.{refusal}
use Rattle.desk_access.specs.declared.standing.Standing.{Standing}
use Rattle.desk_access.specs.Call.{Call, takes, pends, confirms, marks, counts, issues, settles, forgets, asks, Record, AreBy, calls_of, taken_by, taken_of, take_failures, confirm_failures, failures_in, failures_of}
use Rattle.desk_access.specs.Desk.{DeskState, StaysDoubtful, Answers, AnswersAs, Goes}
use Rattle.desk_access.specs.Journal.{of_alone}
use Rattle.desk_access.specs.History.{TakeAdds, Adds, AddsAll}

-- mending didn't fail, since nothing was in doubt
pub no_doubt : (x y : DeskState) (met : Option Standing) (fault : PendFault) → x.doubt ≡ [] → StaysDoubtful x met fault y → ⊥
no_doubt x y met fault sure stays = omega (arith, stays.in_doubt, ap length sure)

-- what was found is the spool
pub found_is : (x : DeskState) (m : SpoolState) → x.doubt ≡ [] → IsOneOf x.spool x.doubt m → m ≡ x.spool
found_is x m sure one = subst (λ (l : List SpoolState). IsOneOf x.spool l m) sure one

-- ---- no doubt comes but by a fault of the disk

take_sure : (m : SpoolState) (group : List Entry) (result : Result Receipt TakeFault) → take_failures result ≡ 0 → take_doubt m group result ≡ []
take_sure m group (Ok receipt) none = refl
take_sure m group (Err (Take.TooLarge need most)) none = refl
take_sure m group (Err (Take.Spent at)) none = refl
take_sure m group (Err (Take.Full need free)) none = refl
take_sure m group (Err (Take.NotSpool at)) none = refl
take_sure m group (Err Take.NoMemory) none = refl
take_sure m group (Err Take.DiskFault) none = absurd (omega (arith, none))

mark_sure : (m : SpoolState) (more : List Stretch) (result : Result (Unit {0}) ConfirmFault) → confirm_failures result ≡ 0 → mark_doubt m more result ≡ []
mark_sure m more (Ok done) none = refl
mark_sure m more (Err (Confirm.Worn ordinal)) none = refl
mark_sure m more (Err (Confirm.NotSpool at)) none = refl
mark_sure m more (Err Confirm.DiskFault) none = absurd (omega (arith, none))
mark_sure m more (Err Confirm.NoMemory) none = refl

one_sure : (x y : DeskState) (call : Call) (met : Option Standing) → x.doubt ≡ [] → failures_in call ≡ 0 → Answers x call met y → y.doubt ≡ []
one_sure x y (takes [] result) met sure none answers = ap (λ (d : DeskState). d.doubt) answers.1.1 ∙ sure
one_sure x y (takes (entry ∷ entries) result) met sure none (limits, inl stays) = absurd (no_doubt x y met stays.0 sure stays.2)
one_sure x y (takes (entry ∷ entries) result) met sure none (limits, inr went) = ap (λ (d : DeskState). d.doubt) went.2.1 ∙ take_sure went.0 (entry ∷ entries) result none
one_sure x y (pends from most result) met sure none (inl stays) = absurd (no_doubt x y met stays.0 sure stays.2)
one_sure x y (pends from most result) met sure none (inr went) = ap (λ (d : DeskState). d.doubt) went.2.1
one_sure x y (confirms upto result) met sure none (ends, inl stays) = absurd (no_doubt x y met stays.0 sure stays.2)
one_sure x y (confirms upto result) met sure none (ends, inr went) = ap (λ (d : DeskState). d.doubt) went.2.1 ∙ mark_sure went.0 (all_below upto) result none
one_sure x y (marks stretches result) met sure none (ends, inl stays) = absurd (no_doubt x y met stays.0 sure stays.2)
one_sure x y (marks stretches result) met sure none (ends, inr went) = ap (λ (d : DeskState). d.doubt) went.2.1 ∙ mark_sure went.0 stretches result none
one_sure x y (counts number) met sure none answers = ap (λ (d : DeskState). d.doubt) answers.1.1 ∙ sure
one_sure x y (issues channel result) met sure none answers = ap (λ (d : DeskState). d.doubt) answers.2.1 ∙ sure
one_sure x y (settles channel id answer) met sure none answers = ap (λ (d : DeskState). d.doubt) answers.2.1 ∙ sure
one_sure x y (forgets channel id answer) met sure none answers = ap (λ (d : DeskState). d.doubt) answers.2.1 ∙ sure
one_sure x y (asks channel asked known) met sure none answers = ap (λ (d : DeskState). d.doubt) answers.2.1 ∙ sure

-- and where a take was stored as one group with the one before it
sure_as : (joins : Bool) (x y : DeskState) (call : Call) (met : Option Standing) → x.doubt ≡ [] → failures_in call ≡ 0 → AnswersAs joins x call met y → y.doubt ≡ []
sure_as false x y call met sure none answers = one_sure x y call met sure none answers
sure_as true x y (takes (entry ∷ entries) (Ok receipt)) met sure none answers = ap (λ (d : DeskState). d.doubt) answers.3.4
sure_as true x y (takes (entry ∷ entries) (Err Take.DiskFault)) met sure none answers = absurd (omega (arith, none))
sure_as true x y (takes (entry ∷ entries) (Err fault)) met sure none answers = absurd answers.3
sure_as true x y _ met sure none answers = absurd answers

pub stays_sure : (x y : DeskState) (records : List Record) → x.doubt ≡ [] → failures_of (calls_of records) ≡ 0 → Goes x records y → y.doubt ≡ []
stays_sure x y [] sure none goes = ap (λ (d : DeskState). d.doubt) goes ∙ sure
stays_sure x y (one ∷ records) sure none goes =
    stays_sure goes.0 y records (sure_as one.joins x goes.0 one.call one.met sure (omega (arith, none)) goes.1.answers) (omega (arith, none)) goes.2

-- ---- what is answered

-- the answer of the first of some calls, and those after it
pub record FirstAnswers (x : DeskState) (call : Call) (more : List Call) (y : DeskState) : Type 0 where
  pub met : Option Standing
  pub found : DeskState
  pub answers : Answers x call met found
  pub rest : List Record
  pub by : AreBy 0 more rest
  pub goes : Goes found rest y

pub first_answers : (x y : DeskState) (call : Call) (more calls : List Call) (records : List Record) → calls ≡ call ∷ more → AreBy 0 calls records → Goes x records y → FirstAnswers x call more y
first_answers x y call more calls records is by goes = there records (subst (λ (l : List Call). AreBy 0 l records) is by) goes
  where
    there : (rs : List Record) → AreBy 0 (call ∷ more) rs → Goes x rs y → FirstAnswers x call more y
    there [] own leads = absurd own
    there (one ∷ rs) own leads = record { met = one.met; found = leads.0; answers = subst (λ (c : Call). Answers x c one.met leads.0) own.1 (of_alone one.joins x leads.0 one.call one.met own.2 leads.1.answers); rest = rs; by = own.3; goes = leads.2 }

-- a group that fits isn't taken only where the disk fails
fits_or_fails : (s : SpoolState) (group : List Entry) (fault : TakeFault) → Fits s group → Takes s group (Err fault) → fault ≡ Take.DiskFault
fits_or_fails s group (Take.TooLarge need most) fits why = absurd (omega (arith, fits.small, why.0, why.1, why.2))
fits_or_fails s group (Take.Spent at) fits why = absurd (omega (arith, fits.numbers, why.1, why.2))
fits_or_fails s group (Take.Full need free) fits why = elim fits.place [ inl room ↦ absurd (omega (arith, room, why.2, why.3, why.4)) | inr place ↦ absurd (why.5 place.0 place.1) ]
fits_or_fails s group (Take.NotSpool at) fits why = absurd why
fits_or_fails s group Take.NoMemory fits why = absurd why
fits_or_fails s group Take.DiskFault fits why = refl

pub only_disk : (x y : DeskState) (group : List Entry) (fault : TakeFault) (met : Option Standing) → x.doubt ≡ [] → Fits x.spool group → Answers x (takes group (Err fault)) met y → fault ≡ Take.DiskFault
only_disk x y [] fault met sure fits answers = absurd (never answers.0.receipt answers.0.ok)
  where
    never : (receipt : Receipt) → Err fault ≡ Ok receipt → ⊥
    never receipt is = cc
only_disk x y (entry ∷ entries) fault met sure fits (limits, inl stays) = absurd (no_doubt x y met stays.0 sure stays.2)
only_disk x y (entry ∷ entries) fault met sure fits (limits, inr went) =
    fits_or_fails x.spool (entry ∷ entries) fault fits (subst (λ (m : SpoolState). Takes m (entry ∷ entries) (Err fault)) (found_is x went.0 sure went.1.one) went.2.0)

-- an id that nothing refuses isn't issued only where no memory is found
pub only_memory : (x y : DeskState) (channel : ℕ) (fault : IssueFault) (met : Option Standing) → refusal x.ids channel ≡ None → Answers x (issues channel (Err fault)) met y → fault ≡ issue.NoMemory
only_memory x y channel (issue.NoMore run) met free answers = absurd (never (sym free ∙ answers.1.0))
  where
    never : None ≡ Some (issue.NoMore run) → ⊥
    never is = cc
only_memory x y channel (issue.Busy held) met free answers = absurd (never (sym free ∙ answers.1.0))
  where
    never : None ≡ Some (issue.Busy held) → ⊥
    never is = cc
only_memory x y channel issue.NoMemory met free answers = refl

-- an id is the table's next one, and the spool and its doubt stay
pub issued_is : (x y : DeskState) (channel id : ℕ) (met : Option Standing) → Answers x (issues channel (Ok id)) met y → (id ≡ x.ids.next) × (y.spool ≡ x.spool) × (y.doubt ≡ x.doubt)
issued_is x y channel id met answers = (answers.1.1, ap (λ (d : DeskState). d.spool) answers.2.1, ap (λ (d : DeskState). d.doubt) answers.2.1)

-- ---- records of calls, and of those after them

pub record Parts (first more : List Call) (records : List Record) : Type 0 where
  pub before : List Record
  pub after : List Record
  pub are : records ≡ before ++ after
  pub by_before : AreBy 0 first before
  pub by_after : AreBy 0 more after

pub by_parts : (first more : List Call) (records : List Record) → AreBy 0 (first ++ more) records → Parts first more records
by_parts [] more records by = record { before = []; after = records; are = refl; by_before = tt; by_after = by }
by_parts (call ∷ first) more [] by = absurd by
by_parts (call ∷ first) more (one ∷ records) by =
    let rest = by_parts first more records by.3 in
    record { before = one ∷ rest.before; after = rest.after; are = ap (λ (l : List Record). one ∷ l) rest.are; by_before = (by.0, by.1, by.2, rest.by_before); by_after = rest.by_after }

-- ---- what the calls added

take_adds : (group : List Entry) (result : Result Receipt TakeFault) (here : List Entry) → take_failures result ≡ 0 → TakeAdds group result here → here ≡ taken_by (takes group result)
take_adds group (Ok receipt) here none adds = adds
take_adds group (Err (Take.TooLarge need most)) here none adds = adds
take_adds group (Err (Take.Spent at)) here none adds = adds
take_adds group (Err (Take.Full need free)) here none adds = adds
take_adds group (Err (Take.NotSpool at)) here none adds = adds
take_adds group (Err Take.NoMemory) here none adds = adds
take_adds group (Err Take.DiskFault) here none adds = absurd (omega (arith, none))

one_adds : (call : Call) (here : List Entry) → failures_in call ≡ 0 → Adds call here → here ≡ taken_by call
one_adds (takes group result) here none adds = take_adds group result here none adds
one_adds (pends from most result) here none adds = adds
one_adds call here none adds = adds

-- where the disk didn't fail, calls add what they took
pub adds_taken : (calls : List Call) (more : List Entry) → failures_of calls ≡ 0 → AddsAll calls more → more ≡ taken_of calls
adds_taken [] more none adds = adds
adds_taken (call ∷ calls) more none adds =
    adds.4 ∙ ap (λ (l : List Entry). l ++ adds.1) (one_adds call adds.0 (omega (arith, none)) adds.2)
    ∙ ap (λ (l : List Entry). taken_by call ++ l) (adds_taken calls adds.1 (omega (arith, none)) adds.3)

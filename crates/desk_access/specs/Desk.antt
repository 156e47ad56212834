-- A desk as its callers see it: what each call may answer, and to what it leads.
use Rattle.std.specs.Prelude.{◌≡◌, ◌⊎◌, ℕ, ◌<◌, Bool, true, false, List, [], ◌∷◌, ◌++◌, length, take, All, Option, None, Some, Result, Ok, Err}
use Rattle.known_numbers.specs.declared.stretch.Stretch.{Stretch}
use Rattle.event_form.specs.declared.event.Entry.{Entry}
use Rattle.event_form.specs.Entry.{IsEntry}
use Rattle.known_numbers.specs.Numbers.{count_of}
use Rattle.spool_state.specs.SpoolState.{SpoolState, end}
use Rattle.spool_state.specs.Left.{left_from}
use Rattle.spool_answers.specs.declared.numbered.Numbered.{Numbered}
use Rattle.spool_answers.specs.declared.receipt.Receipt.{Receipt}
use Rattle.spool_faults.specs.declared.fault.TakeFault.{TakeFault}
use Rattle.spool_faults.specs.declared.fault.TakeFault.TheVariants as Take
use Rattle.spool_faults.specs.declared.fault.PendFault.{PendFault}
use Rattle.spool_faults.specs.declared.fault.ConfirmFault.{ConfirmFault}
use Rattle.spool_faults.specs.Fault.{as_take, as_confirm}
use Rattle.spool_answers.specs.Stages.{IsOneOf, StandsForOne, IsMidway}
use Rattle.spool_answers.specs.Take.{Takes, after_take, take_stages, take_doubt}
use Rattle.spool_answers.specs.Mark.{EndsBy, all_below, Marks, after_mark, mark_stages, mark_doubt}
use Rattle.spool_answers.specs.Pend.{IsNotBroken, given_entries}
use Rattle.hec_ids.specs.Table.{Table}
use Rattle.hec_ids.specs.Rows.{Issues, Settles, Forgets, Asks}
use Rattle.desk_access.specs.declared.standing.Standing.{Standing}
use Rattle.desk_access.specs.Standing.{standing_of}
use Rattle.desk_access.specs.Joint.{extended, FitsOn}
use Rattle.desk_access.specs.Call.{Call, takes, pends, confirms, marks, counts, issues, settles, forgets, asks, Record}

-- The spool's state; its doubt, which is the later stages of a change that failed on the way; and the table of ids.
pub record DeskState : Type 0 where
  pub spool : SpoolState
  pub doubt : List SpoolState
  pub ids : Table

abbrev pub desk_of : SpoolState → List SpoolState → Table → DeskState
desk_of spool doubt ids = record { spool = spool; doubt = doubt; ids = ids }

-- The call met a doubt, and mending failed, for want of memory or of the disk: the desk stays as it is.
pub record StaysDoubtful (x : DeskState) (met : Option Standing) (fault : PendFault) (y : DeskState) : Type 0 where
  pub in_doubt : 0 < length x.doubt
  pub why : IsNotBroken fault
  pub none : met ≡ None
  pub same : y ≡ x

-- The call goes on from this state, whose numbers it met: one of the spool and its doubt. Where there is no doubt,
-- that is the spool.
pub record Finds (x : DeskState) (met : Option Standing) (m : SpoolState) : Type 0 where
  pub one : IsOneOf x.spool x.doubt m
  pub numbers : met ≡ Some (standing_of m)

-- a call that mends a doubt first: mending failed, and the call with it, or it goes on from what was found
abbrev pub Mending : DeskState → Option Standing → (PendFault → Type 0) → (SpoolState → Type 0) → DeskState → Type 0
Mending x met Fails GoesOn y = ((fault : PendFault) × Fails fault × StaysDoubtful x met fault y) ⊎ ((m : SpoolState) × Finds x met m × GoesOn m)

-- a call that mends nothing, and leaves the spool and its doubt: it met the spool as it stands
abbrev pub Leaving : DeskState → Option Standing → Table → DeskState → Type 0
Leaving x met ids y = (met ≡ Some (standing_of x.spool)) × (y ≡ desk_of x.spool x.doubt ids)

-- the receipt of no entries: the end
pub record IsEmptyReceipt (x : DeskState) (result : Result Receipt TakeFault) : Type 0 where
  pub receipt : Receipt
  pub ok : result ≡ Ok receipt
  pub first : receipt.first ≡ end x.spool
  pub none : receipt.count ≡ 0

-- the first so many of the entries with numbers from this one on that aren't known as confirmed; or the disk failed, or
-- no memory was found
abbrev pub Reads : SpoolState → ℕ → ℕ → Result (List Numbered) PendFault → Type 0
Reads s from most (Ok given) = given_entries given ≡ take most (left_from s from)
Reads s from most (Err fault) = IsNotBroken fault

-- a mark of stretches that end at the spool's end or before; the state that is found answers
abbrev pub MarksOn : DeskState → List Stretch → Result Unit ConfirmFault → Option Standing → DeskState → Type 0
MarksOn x stretches result met y =
    All (EndsBy (end x.spool)) stretches
    × Mending x met (λ fault. result ≡ Err (as_confirm fault)) (λ m. Marks m stretches result × (y ≡ desk_of (after_mark m stretches result) (mark_doubt m stretches result) x.ids)) y

-- From the one state a call with this answer may lead to the other. A take of entries, a reading, a confirm and a mark
-- mend a doubt first, and the answer is one of the state that was found. The calls of ids and `known_count` mend nothing.
abbrev pub Answers : DeskState → Call → Option Standing → DeskState → Type 0
Answers x (takes [] result) met y = IsEmptyReceipt x result × Leaving x met x.ids y
Answers x (takes (entry ∷ entries) result) met y =
    let group = entry ∷ entries in
    All IsEntry group
    × Mending x met (λ fault. result ≡ Err (as_take fault)) (λ m. Takes m group result × (y ≡ desk_of (after_take m group result) (take_doubt m group result) x.ids)) y
Answers x (pends from most result) met y = Mending x met (λ fault. result ≡ Err fault) (λ m. Reads m from most result × (y ≡ desk_of m [] x.ids)) y
Answers x (confirms upto result) met y = MarksOn x (all_below upto) result met y
Answers x (marks stretches result) met y = MarksOn x stretches result met y
Answers x (counts number) met y = (number ≡ count_of x.spool.known) × Leaving x met x.ids y
Answers x (issues channel result) met y = (ids : Table) × Issues x.ids channel result ids × Leaving x met ids y
Answers x (settles channel id answer) met y = (ids : Table) × Settles x.ids channel id answer ids × Leaving x met ids y
Answers x (forgets channel id answer) met y = (ids : Table) × Forgets x.ids channel id answer ids × Leaving x met ids y
Answers x (asks channel asked known) met y = (ids : Table) × Asks x.ids channel asked known ids × Leaving x met ids y

-- A take in the state m that was stored as one group with the take before it. Answered Ok, it made that group longer. Where the
-- disk failed, it made longer the group that is in doubt, so that mending finds all of them or none.
abbrev pub Joins : DeskState → List Entry → Result Receipt TakeFault → SpoolState → DeskState → Type 0
Joins x group (Ok receipt) m y = (x.doubt ≡ []) × FitsOn m group × (receipt.first ≡ end m) × (receipt.count ≡ length group) × (y ≡ desk_of (extended m group) [] x.ids)
Joins x group (Err Take.DiskFault) m y = (x.doubt ≡ m ∷ []) × FitsOn m group × (y ≡ desk_of x.spool (extended m group ∷ []) x.ids)
Joins x group (Err _) m y = ⊥

-- the same by whether the call is marked so, which a take of entries alone may be
abbrev pub AnswersAs : Bool → DeskState → Call → Option Standing → DeskState → Type 0
AnswersAs false x call met y = Answers x call met y
AnswersAs true x (takes (entry ∷ entries) result) met y = All IsEntry (entry ∷ entries) × (m : SpoolState) × Finds x met m × Joins x (entry ∷ entries) result m y
AnswersAs true x _ met y = ⊥

-- From the one state this record may lead to the other, whose numbers it has.
pub record Allowed (x : DeskState) (one : Record) (y : DeskState) : Type 0 where
  pub answers : AnswersAs one.joins x one.call one.met y
  pub after : one.after ≡ standing_of y.spool

-- These records, one after another, may lead from the one state to the other.
abbrev pub Goes : DeskState → List Record → DeskState → Type 0
Goes x [] y = y ≡ x
Goes x (one ∷ records) y = (z : DeskState) × Allowed x one z × Goes z records y

-- the stages of the change that a call with this answer makes in a mended spool: none where it was refused
abbrev pub changing : SpoolState → Call → List SpoolState
changing m (takes (entry ∷ entries) result) = take_stages m (entry ∷ entries) result
changing m (confirms upto result) = mark_stages m (all_below upto) result
changing m (marks stretches result) = mark_stages m stretches result
changing m _ = []

-- the answer of a call that changes entries or reads them is one that a mended spool gives
abbrev pub IsAnswered : SpoolState → Call → Type 0
IsAnswered m (takes group result) = Takes m group result
IsAnswered m (pends from most result) = Reads m from most result
IsAnswered m (confirms upto result) = Marks m (all_below upto) result
IsAnswered m (marks stretches result) = Marks m stretches result
IsAnswered m _ = Unit {0}

-- The bytes were left while the first call made its change: they stand for a stage of it, in the state that the call
-- met and that the answer is one of.
abbrev pub StandsWithin : DeskState → List Record → List ℕ → Type 0
StandsWithin x [] c = ⊥
StandsWithin x (one ∷ records) c = (m : SpoolState) × Finds x one.met m × IsAnswered m one.call × IsMidway m (changing m one.call) c

-- The bytes stand for what the desk was on the way: after the first of the records, or within the call that came next.
pub record Stood (x : DeskState) (records : List Record) (c : List ℕ) : Type 0 where
  pub first : List Record
  pub rest : List Record
  pub parts : records ≡ first ++ rest
  pub found : DeskState
  pub goes : Goes x first found
  pub stands : StandsForOne found.spool found.doubt c ⊎ StandsWithin found rest c

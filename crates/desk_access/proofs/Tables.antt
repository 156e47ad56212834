-- The table of ids after a call.
use Rattle.std.proofs.Common.{◌≡◌, inl, inr, [], ◌∷◌, Option, sym, ap, subst}
use Rattle.spool_state.specs.SpoolState.{SpoolState}
use Rattle.spool_faults.specs.declared.fault.PendFault.{PendFault}
use Rattle.hec_ids.specs.Table.{Table}
use Rattle.hec_ids.specs.Rows.{Issues, Settles, Forgets, Asks}
use Rattle.desk_access.specs.declared.standing.Standing.{Standing}
use Rattle.desk_access.specs.Call.{Call, Record, takes, pends, confirms, marks, counts, issues, settles, forgets, asks}
use Rattle.std.specs.Prelude.{Bool, true, false, List, Result, Ok, Err}
use Rattle.event_form.specs.declared.event.Entry.{Entry}
use Rattle.spool_answers.specs.declared.receipt.Receipt.{Receipt}
use Rattle.spool_faults.specs.declared.fault.TakeFault.{TakeFault}
use Rattle.spool_faults.specs.declared.fault.TakeFault.TheVariants as Take
use Rattle.desk_access.specs.Desk.{DeskState, Mending, Leaving, Answers, Joins, AnswersAs, Allowed}

-- a call of ids made it from the one before, and no other call changes it
abbrev pub TableAfter : Table → Call → Table → Type 0
TableAfter t (issues channel result) u = Issues t channel result u
TableAfter t (settles channel id answer) u = Settles t channel id answer u
TableAfter t (forgets channel id answer) u = Forgets t channel id answer u
TableAfter t (asks channel ids known) u = Asks t channel ids known u
TableAfter t _ u = u ≡ t

same_table : (x y : DeskState) (met : Option Standing) (Fails : PendFault → Type 0) (GoesOn : SpoolState → Type 0) → ((m : SpoolState) → GoesOn m → y.ids ≡ x.ids) → Mending x met Fails GoesOn y → y.ids ≡ x.ids
same_table x y met Fails GoesOn on (inl stayed) = ap (λ (d : DeskState). d.ids) stayed.2.same
same_table x y met Fails GoesOn on (inr went) = on went.0 went.2

left_table : (x y : DeskState) (met : Option Standing) (ids : Table) → Leaving x met ids y → y.ids ≡ ids
left_table x y met ids leaving = ap (λ (d : DeskState). d.ids) leaving.1

pub table_after : (x y : DeskState) (call : Call) (met : Option Standing) → Answers x call met y → TableAfter x.ids call y.ids
table_after x y (takes [] result) met answers = left_table x y met x.ids answers.1
table_after x y (takes (entry ∷ entries) result) met answers = same_table x y met _ _ (λ m h. ap (λ (d : DeskState). d.ids) h.1) answers.1
table_after x y (pends from most result) met answers = same_table x y met _ _ (λ m h. ap (λ (d : DeskState). d.ids) h.1) answers
table_after x y (confirms upto result) met answers = same_table x y met _ _ (λ m h. ap (λ (d : DeskState). d.ids) h.1) answers.1
table_after x y (marks stretches result) met answers = same_table x y met _ _ (λ m h. ap (λ (d : DeskState). d.ids) h.1) answers.1
table_after x y (counts number) met answers = left_table x y met x.ids answers.1
table_after x y (issues channel result) met answers = subst (λ (t : Table). Issues x.ids channel result t) (sym (left_table x y met answers.0 answers.2)) answers.1
table_after x y (settles channel id answer) met answers = subst (λ (t : Table). Settles x.ids channel id answer t) (sym (left_table x y met answers.0 answers.2)) answers.1
table_after x y (forgets channel id answer) met answers = subst (λ (t : Table). Forgets x.ids channel id answer t) (sym (left_table x y met answers.0 answers.2)) answers.1
table_after x y (asks channel ids known) met answers = subst (λ (t : Table). Asks x.ids channel ids known t) (sym (left_table x y met answers.0 answers.2)) answers.1

taken_table : (x y : DeskState) (group : List Entry) (result : Result Receipt TakeFault) (m : SpoolState) → Joins x group result m y → y.ids ≡ x.ids
taken_table x y group (Ok receipt) m joined = ap (λ (d : DeskState). d.ids) joined.4
taken_table x y group (Err Take.DiskFault) m joined = ap (λ (d : DeskState). d.ids) joined.2
taken_table x y group (Err _) m joined = absurd joined

pub table_as : (joins : Bool) (x y : DeskState) (call : Call) (met : Option Standing) → AnswersAs joins x call met y → TableAfter x.ids call y.ids
table_as false x y call met answers = table_after x y call met answers
table_as true x y (takes (entry ∷ entries) result) met answers = taken_table x y (entry ∷ entries) result answers.1 answers.3
table_as true x y _ met answers = absurd answers

-- after a record
pub table_then : (x y : DeskState) (one : Record) → Allowed x one y → TableAfter x.ids one.call y.ids
table_then x y one allowed = table_as one.joins x y one.call one.met allowed.answers
